-- If `oid` is below the identifier whose index is stored at the branch `at`, then the search can begin at that branch.
use Rattle.std.proofs.Common.{rules}
use Rattle.smi_tree.proofs.BranchLists.{way_known}
use Rattle.smi_tree.proofs.branches.identifiers.deepest_at.Goals as goal

pub returns : goal.returns
returns c = rw c.as_slice-numbers.ensures.value (way_known c.args.oids.now c.args.branches.now c.requires c.args.oid.now c.in_ok-known.known.now c.args.at
    c.in_ok-id.id (search rules) (search rules) (search rules))
