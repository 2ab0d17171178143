use Rattle.std.proofs.Common.{sym, ◌∙◌}
use Rattle.snmp_walk.specs.private.ComputedStep.{take_of}
use Rattle.snmp_walk.proofs.StepRules.{found, only}
use Rattle.snmp_walk.proofs.laws.messages_mean.Goals as goal

pub returns-clause-found : goal.returns-clause-found
returns-clause-found c = λ w m. ((take_of w m).0, (take_of w m).1, found (λ o p. (c.order.ensures.less o p).0) w m)

pub returns-clause-only : goal.returns-clause-only
returns-clause-only c = λ w m given other new after h k.
    let a = only (λ o p. (c.order.ensures.less o p).0) given new w m h in
    let b = only (λ o p. (c.order.ensures.less o p).0) other after w m k in
    (a.0 ∙ sym b.0, a.1 ∙ sym b.1)
