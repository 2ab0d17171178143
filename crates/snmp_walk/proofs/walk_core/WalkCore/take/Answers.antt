use Rattle.std.proofs.Common.{◌≡◌, refl, inr, sym, ◌∙◌, ap}
use Rattle.snmp_wire.specs.{Message.Message, Spelling.Spells}
use Rattle.snmp_walk.specs.{private.Course.step_of, StepRules.MeansBy, WalkState.WalkState, declared.rows.Step.Step, declared.tries.Judgement.Judgement}
use Rattle.snmp_walk.proofs.{StepRules.means_by, walk_core.WalkCore.take.Goals.After-take_message}
use Rattle.snmp_walk.proofs.walk_core.WalkCore.take.Goals as goal

pub returns-in_default : goal.returns-in_default
returns-in_default c = inr ((λ (m : Message) (h : Spells m c.args.datagram.now). let e = c.in_default.ensures.only m h in let no : ⊥ = cc in no), (refl, refl))

-- if `take_message` returned `step`, and `step` with the stored end is `given`, then the datagram means `given`
read_as : (c : After-take_message) (step : Judgement) (given : Step) → c.take_message.result ≡ step → step_of step c.take_message.new.end ≡ given
    → MeansBy c.args.self.now c.args.datagram.now given c.take_message.new.self
read_as c step given at is =
    let e = ap (λ j. step_of j c.take_message.new.end) at ∙ is in
    let read = c.take_message.ensures in
    means_by (λ o p. (c.order.ensures.less o p).0) c.args.self.now c.args.datagram.now c.in-Ok.message c.in-Ok.ensures.found given
    c.take_message.new.self (sym e ∙ ap (λ (x : Step × WalkState). x.0) read) (ap (λ (x : Step × WalkState). x.1) read)

pub returns-in-Stray : goal.returns-in-Stray
returns-in-Stray c = read_as (goal.at.returns-in-Stray c).After-take_message _ _ c.in-Stray.is refl

pub returns-in-GoesOn : goal.returns-in-GoesOn
returns-in-GoesOn c = read_as (goal.at.returns-in-GoesOn c).After-take_message _ _ c.in-GoesOn.is refl

pub returns-in-Ends : goal.returns-in-Ends
returns-in-Ends c = read_as (goal.at.returns-in-Ends c).After-take_message _ _ c.in-Ends.is refl
