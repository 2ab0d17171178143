-- If no number follows the branch at which an index is stored, then no identifier is below the identifier at that index.
use Rattle.std.proofs.Common.{rules, ◌≡◌, [], Some, length, refl, sym}
use Rattle.std.specs.List.{slice_get}
use Rattle.std.proofs.{lemmas.List.nil_from_length, lemmas.Option.slice_get_read}
use Rattle.smi_tree.proofs.Leaves.{last_if_some, none_below}
use Rattle.smi_tree.proofs.branches.identifiers.Identifiers.last_on_way.Goals as goal

pub returns-in-Some-clause-last : goal.returns-in-Some-clause-last
returns-in-Some-clause-last c =
    let i = c.self.inside in
    let read = c.in_ok-branch.ensures.lookup in
    let there = slice_get_read c.deref.result.now (length c.deref.result.now) c.args.near c.in_ok-branch.branch.now refl read.3.0 read.1 in
    let is : slice_get i.branches.items c.args.near ≡ Some c.in_ok-branch.branch.now = rw c.deref.ensures.value at there in
    let empty : c.in_ok-branch.branch.now.after.entries ≡ [] = nil_from_length _ (c.is_empty.ensures.0 c.if-is_empty.true) in
    rw (sym c.self.view_is) (last_if_some (λ o. o.now) c.get-in-Some.result i.oids.items c.args.id (search rules)
    (none_below i.oids.items i.branches.items c.self.invariant.0 c.args.near c.args.id (search rules) (λ n. rw (is, empty) refl)))
