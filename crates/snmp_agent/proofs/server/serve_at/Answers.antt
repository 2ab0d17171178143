use Rattle.std.proofs.Common.{◌≡◌, ◌+◌, ◌++◌, [], refl, sym, ap, ◌∙◌, arith, rules}
use Rattle.snmp_agent.specs.{declared.server.Served.Served, declared.server.Turn.Turn}
use Rattle.snmp_agent.proofs.ServerTurns.{in_turn-append, more_turns, no_turns, one_more, one_more_turn, risen_in_turn}
use Rattle.snmp_agent.proofs.server.serve_at.Goals as goal
use Rattle.snmp_agent.proofs.server.serve_at.Goals.{in-Replied, in-Dropped, in-Idle, in-Failed}

pub turns-init : goal.turns-init
turns-init g c =
    let none : c.default-served.result ≡ record { replies = 0; dropped = 0; idle = 0; faults = 0 } = search rules in
    record {
      sum = ap (λ (s : Served). s.replies + s.dropped + s.idle + s.faults) none;
      events = [];
      turns = no_turns _ _ none;
      risen = (λ _. refl, λ some. absurd (omega (arith, some, ap (λ (s : Served). s.faults) none)));
      happened = refl;
    }

pub turns-preserved : goal.turns-preserved
turns-preserved g c =
    let so_far = c.turns.invariant in
    let made = c.serve_once.ensures.turn in
    let t : Turn = c.serve_once.result in
    let more : c.match-serve_once.served ≡ one_more t c.turns.served = elim c.match-serve_once.branch [
      | in-Replied w ↦ w.served-is ∙ sym (ap (λ (u : Turn). one_more u c.turns.served) w.in-Replied.is)
      | in-Dropped w ↦ w.served-is ∙ sym (ap (λ (u : Turn). one_more u c.turns.served) w.in-Dropped.is)
      | in-Idle w ↦ w.served-is ∙ sym (ap (λ (u : Turn). one_more u c.turns.served) w.in-Idle.is)
      | in-Failed w ↦ w.served-is ∙ sym (ap (λ (u : Turn). one_more u c.turns.served) w.in-Failed.is)
    ] in
    let whole = ap (λ (s : Served). s.replies + s.dropped + s.idle + s.faults) more in
    record {
      sum = whole ∙ one_more_turn t c.turns.served ∙ ap (λ n. n + 1) so_far.sum;
      events = so_far.events ++ made.0;
      turns = more_turns _ c.turns.counter c.turns.served _ so_far.events t made.0 more so_far.turns made.1;
      risen = risen_in_turn t c.turns.served _ _ _ _ more so_far.risen c.serve_once.ensures.faults;
      happened = in_turn-append g.E.Endpoint.happens so_far.events made.0 c.args.endpoint.now c.turns.endpoint c.serve_once.new.endpoint so_far.happened made.2;
    }
