use Rattle.std.proofs.Common.{◌≡◌, ◌∙◌, sym, ap}
use Rattle.snmp_walk.specs.{private.ComputedStep.awaits, private.Course.step_of}
use Rattle.snmp_walk.proofs.StepRules.{not_response}
use Rattle.snmp_walk.proofs.tries.read_reply.Goals as goal

pub returns-in_default-clause-none : goal.returns-in_default-clause-none
returns-in_default-clause-none g c = λ m h _. let same = c.in_default.ensures.only m h in let no : ⊥ = cc in absurd no

pub returns-then-not-awaits-clause-none : goal.returns-then-not-awaits-clause-none
returns-then-not-awaits-clause-none g c = λ m h.
    let community = g.W.Waiter.community c.args.waiter.now in
    let id = g.W.Waiter.id c.args.waiter.now in
    let same = c.in-Ok.ensures.only m h in
    let one : m ≡ c.in-Ok.message = cc in
    not_response community id m
    (ap (awaits community id) one ∙ sym {b = awaits community id c.in-Ok.message} c.awaits.ensures ∙ c.if-not-awaits.true)

pub returns-clause-some : goal.returns-clause-some
returns-clause-some g c = record {
  message = c.in-Ok.message;
  spelt = c.in-Ok.ensures.found;
  awaited = sym c.awaits.ensures ∙ c.if-not-awaits.false;
  given = step_of c.read-judgement.result c.read-judgement.new.end;
  read = c.read-judgement.ensures;
  delivered = c.deliver.ensures;
}
