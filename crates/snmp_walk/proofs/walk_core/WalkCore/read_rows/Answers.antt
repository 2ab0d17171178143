use Rattle.std.proofs.{Common.◌≡◌, Common.false, Common.arith, Common.[], lemmas.Grind.common_steps}
use Rattle.snmp_walk.specs.{declared.walk_core.Ending.TheVariants.GoesOn, Request.asked_for}
use Rattle.snmp_walk.specs.private.ReplyRows.{is_misplaced, name_or, nothing}
use Rattle.snmp_walk.proofs.ReplyRows.{prefix_done, prefix_ended, prefix_goes, none_misplaced}
use Rattle.snmp_walk.proofs.walk_core.WalkCore.read_rows.Goals as goal

pub returns-else-is_misplaced-clause-some : goal.returns-else-is_misplaced-clause-some
returns-else-is_misplaced-clause-some c =
    let w = c.args.self.now in
    let fine : is_misplaced (asked_for w.method) c.args.bindings ≡ false = grind (arith, common_steps) in
    let on : c.ending_at-ending.result ≡ GoesOn → ⊥ = grind (arith, common_steps) in (
      fine,
      prefix_ended w.root w.asked (name_or w.asked c.bindings.last) c.bindings.rows c.in-Some.binding c.args.bindings c.bindings.bindings
          c.next_ref.new.self c.bindings.invariant.0 c.in-Some.ensures.some c.ending_at-ending.result c.ending_at-ending.ensures on _ c.name.ensures,
    )

pub bindings-preserved : goal.bindings-preserved
bindings-preserved c =
    let w = c.args.self.now in
    let on : c.ending_at-ending.result ≡ GoesOn = grind (arith, common_steps) in (
      prefix_goes w.root w.asked (name_or w.asked c.bindings.last) c.bindings.rows c.in-Some.binding c.args.bindings c.bindings.bindings
          c.next_ref.new.self c.bindings.invariant.0 c.in-Some.ensures.some c.ending_at-ending.result c.ending_at-ending.ensures on _ cc,
      grind (arith, common_steps, common_steps),
      omega arith,
    )

pub returns-clause-some : goal.returns-clause-some
returns-clause-some c =
    let w = c.args.self.now in
    let none : c.bindings.bindings ≡ [] = c.in_default.ensures.none.0 in
    let fine : is_misplaced (asked_for w.method) c.args.bindings ≡ false = grind (arith, common_steps, none_misplaced) in
    (fine, prefix_done w.root w.asked (name_or w.asked c.bindings.last) c.bindings.rows c.args.bindings nothing (rw none at c.bindings.invariant.0))

pub bindings-init : goal.bindings-init
bindings-init c = grind (arith, common_steps, common_steps)
