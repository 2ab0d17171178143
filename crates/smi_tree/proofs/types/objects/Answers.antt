-- The invariant of the loop holds at its start and after one module more, and implies what the function ensures.
use Rattle.std.proofs.{Common.arith, Common.rules, lemmas.Grind.common_steps}
use Rattle.smi_tree.proofs.Pairwise.{first_none, first_next, first_all}
use Rattle.smi_tree.proofs.types.objects.Goals as goal

pub modules-init : goal.modules-init
modules-init c = rw c.in_ok-objects.ensures.items (first_none _ _)

pub modules-preserved : goal.modules-preserved
modules-preserved c =
    first_next _ _ c.modules.i c.modules.objects.items c.push.new.self.items c.index-modules-i.result c.in_ok-module_objects.field-0 c.modules.invariant
    (search rules)
    (search rules) c.index-modules-i.is (rw c.requires.named at c.in_ok-module_objects.ensures)

pub returns : goal.returns
returns c = grind (arith, common_steps, first_all)
