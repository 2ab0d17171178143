-- The invariant of the loop holds at its start and after one definition more, and implies what the function ensures.
use Rattle.std.proofs.{Common.arith, Common.rules, lemmas.Grind.common_steps}
use Rattle.smi_tree.proofs.Pairwise.{first_none, first_next, first_all}
use Rattle.smi_tree.proofs.types.module_objects.Goals as goal

pub defs-init : goal.defs-init
defs-init c = rw c.in_ok-kept.ensures.items (first_none _ _)

pub defs-preserved : goal.defs-preserved
defs-preserved c =
    first_next _ _ c.defs.k c.defs.kept.items c.push.new.self.items c.index-defs-k.result c.object.result c.defs.invariant (search rules) (search rules)
    c.index-defs-k.is c.object.ensures

pub returns : goal.returns
returns c = grind (arith, common_steps, first_all)
