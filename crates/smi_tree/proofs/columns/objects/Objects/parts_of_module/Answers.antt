-- The invariant of the loop holds at its start and after one definition more, and implies what the function ensures.
use Rattle.std.proofs.{lemmas.Grind.common_steps, Common.rules, Common.arith}
use Rattle.smi_tree.proofs.Pairwise.{first_none, first_next, first_all}
use Rattle.smi_tree.proofs.columns.objects.Objects.parts_of_module.Goals as goal

pub defs-init : goal.defs-init
defs-init c = rw c.in_ok-kept.ensures.items (first_none _ _)

pub defs-preserved : goal.defs-preserved
defs-preserved c =
    first_next _ _ c.defs.def-index c.defs.kept.items c.push.new.self.items c.def-item.result c.in_ok-own_parts.field-0 c.defs.invariant
    (search rules) c.defs-test.true
    c.def-item.is c.in_ok-own_parts.ensures

pub returns : goal.returns
returns c = grind (arith, common_steps, first_all)
