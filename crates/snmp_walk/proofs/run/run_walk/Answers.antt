use Rattle.std.proofs.Common.{◌≡◌, ◌+◌, ◌∙◌, ap, arith, Ok, Some, Option}
use Rattle.std.specs.Prelude.{Result}
use Rattle.snmp_walk.specs.{declared.end.LinkFault.LinkFault, declared.tries.Course.Course}
use Rattle.snmp_walk.proofs.{RunResult.IsTurn, RunResult.runs_first, RunResult.turn_of, run.run_walk.Given.Over, run.run_walk.Goals.After-exchange}
use Rattle.snmp_walk.proofs.run.run_walk.Goals as goal

-- after `exchange` tried a request of the walk, `IsTurn` holds of its result
turn : (g : Over) (c : After-exchange g) (came : Result (Option Course) LinkFault) → c.exchange.result ≡ came
    → IsTurn g.L.Link g.S.Sink.takes (c.args.retries + 1) c.args.core c.args.link.now c.args.sink.now c.turns.core c.exchange.new.link
    c.exchange.new.waiter c.exchange.new.sink c.exchange.new.end came
turn g c came is =
    let request = c.request_in-length.ensures in
    let x = c.exchange.new in
    let h = c.exchange.ensures in
    turn_of c.codec.ensures g.met.L.Link.recording g.met.L.Link.lawful (omega arith) c.turns.invariant request.walker x.link c.requires
    x.waiter x.sink x.end (λ on. (request.waiting on).1) h.0 h.1 c.exchange.result came h.2 is

pub turns-init : goal.turns-init
turns-init g c = runs_first g.L.Link g.S.Sink.takes (c.args.retries + 1) c.args.core c.args.link.now c.args.sink.now c.requires

pub turns-preserved : goal.turns-preserved
turns-preserved g c =
    let is = c.in-Ok-Some-GoesOn in
    (turn g (goal.at.turns-preserved g c).After-exchange _ (is.is ∙ ap Ok (is.field-0-is ∙ ap Some is.field-0-0-is))).0

pub turns-smaller : goal.turns-smaller
turns-smaller g c =
    let is = c.in-Ok-Some-GoesOn in
    let on = turn g (goal.at.turns-smaller g c).After-exchange _ (is.is ∙ ap Ok (is.field-0-is ∙ ap Some is.field-0-0-is)) in
    omega (arith, on.1, on.2)

pub returns-in-Ok-Some-Ends : goal.returns-in-Ok-Some-Ends
returns-in-Ok-Some-Ends g c =
    let is = c.in-Ok-Some-Ends in
    record { ran = turn g (goal.at.returns-in-Ok-Some-Ends g c).After-exchange _ (is.is ∙ ap Ok (is.field-0-is ∙ ap Some is.field-0-0-is)) }

pub returns-in-Ok-None : goal.returns-in-Ok-None
returns-in-Ok-None g c =
    record { ran = turn g (goal.at.returns-in-Ok-None g c).After-exchange _ (c.in-Ok-None.is ∙ ap Ok c.in-Ok-None.field-0-is) }

pub returns-in-Err : goal.returns-in-Err
returns-in-Err g c = record { ran = turn g (goal.at.returns-in-Err g c).After-exchange _ c.in-Err.is }
