-- The invariant of the loop holds at its start and after one module more, and implies what the function ensures.
use Rattle.std.proofs.{lemmas.Grind.common_steps, Common.rules, Common.◌≡◌, Common.arith}
use Rattle.smi_tree.proofs.Pairwise.{first_none, first_next, first_all}
use Rattle.smi_tree.proofs.columns.objects.Objects.parts_of_modules.Goals as goal

pub modules-init : goal.modules-init
modules-init c = rw c.in_ok-kept.ensures.items (first_none _ _)

pub modules-preserved : goal.modules-preserved
modules-preserved c =
    let view : c.self.inside.modules.now ≡ c.args.self.now = c.self.view_is in
    first_next _ _ c.modules.home-index c.modules.kept.items c.push.new.self.items c.home-item.result c.in_ok-parts_of_module.field-0 c.modules.invariant
    (search rules)
    (rw view at c.modules-test.true) (rw view at c.home-item.is) c.in_ok-parts_of_module.ensures

pub returns : goal.returns
returns c = grind (arith, common_steps, first_all)
