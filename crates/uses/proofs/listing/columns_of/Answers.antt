use Rattle.std.proofs.Common.{arith, ◌++◌, append-nil}
use Rattle.std.proofs.lemmas.{Grind.common_steps, List.map-append, List.Elements.filter_map-append}
use Rattle.uses.proofs.listing.columns_of.Goals as goal

pub children-preserved-in-Continue-1 : goal.children-preserved-in-Continue-1
children-preserved-in-Continue-1 c =
    grind (arith, common_steps, filter_map-append, map-append, c.children.invariant, c.in-Some-column_at.ensures, c.in_ok-push.ensures.items)

pub children-preserved : goal.children-preserved
children-preserved c = grind (arith, common_steps, filter_map-append, append-nil, c.children.invariant, c.column_at.ensures)
