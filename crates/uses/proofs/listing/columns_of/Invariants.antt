use Rattle.std.proofs.Common.{◌≡◌, map}
use Rattle.std.specs.List.{filter_map}
use Rattle.uses.specs.Listing.{column_at, seen_column}
use Rattle.uses.proofs.listing.columns_of.Given as goal

abbrev pub invariant-children : goal.invariant-children
invariant-children l = map seen_column l.columns.items ≡ filter_map (column_at l.tree.nodes) l.yielded
