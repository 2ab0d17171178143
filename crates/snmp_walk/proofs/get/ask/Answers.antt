use Rattle.std.proofs.{Common.◌≡◌, Common.◌+◌, Common.◌∙◌, Common.ap, Common.arith, Common.Ok, Common.Some, Common.Option, lemmas.List.take_at}
use Rattle.std.specs.Prelude.{Result}
use Rattle.snmp_walk.specs.{declared.end.LinkFault.LinkFault, declared.tries.Course.Course}
use Rattle.snmp_walk.proofs.{Gets.IsGetTurn, Gets.get_of, get.ask.Given.Over, get.ask.Goals.After-exchange}
use Rattle.snmp_walk.proofs.get.ask.Goals as goal

-- after `exchange` tried the request of the Get, `IsGetTurn` holds of its result
turn : (g : Over) (c : After-exchange g) (came : Result (Option Course) LinkFault) → c.exchange.result ≡ came
    → IsGetTurn g.L.Link c.args.link.now (c.args.retries + 1) c.args.get.now.community c.args.get.now.id c.args.get.now.names g.S.Sink.takes
    c.args.sink.now c.exchange.new.link c.exchange.new.sink c.exchange.new.end came
turn g c came is =
    let a = c.args in
    let get = a.get.now in
    let x = c.exchange.new in
    let h = c.exchange.ensures in
    let copied = take_at c.copy_from_slice.new.self _ a.size (omega arith) ∙ c.copy_from_slice.ensures.after ∙ c.requires.request in
    get_of g.L.Link a.link.now (a.retries + 1) get.community get.id get.names g.S.Sink.takes a.sink.now c.codec.ensures (g.met.L.Link.lawful a.link.now)
    (omega arith) c.requires.some g.met.L.Link.recording c.requires.range a.size _ (omega arith) copied x.link x.waiter _ x.sink x.end h.0 h.1
    c.exchange.result came h.2 is

pub unreachable-requires : goal.unreachable-requires
unreachable-requires g c =
    let is = c.in-Ok-Some-GoesOn in
    turn g (goal.at.unreachable-requires g c).After-exchange _ (is.is ∙ ap Ok (is.field-0-is ∙ ap Some is.field-0-0-is))

pub returns-in-Ok-Some-Ends : goal.returns-in-Ok-Some-Ends
returns-in-Ok-Some-Ends g c =
    let is = c.in-Ok-Some-Ends in
    turn g (goal.at.returns-in-Ok-Some-Ends g c).After-exchange _ (is.is ∙ ap Ok (is.field-0-is ∙ ap Some is.field-0-0-is))

pub returns-in-Ok-None : goal.returns-in-Ok-None
returns-in-Ok-None g c = turn g (goal.at.returns-in-Ok-None g c).After-exchange _ (c.in-Ok-None.is ∙ ap Ok c.in-Ok-None.field-0-is)

pub returns-in-Err : goal.returns-in-Err
returns-in-Err g c = turn g (goal.at.returns-in-Err g c).After-exchange _ c.in-Err.is
