-- The invariant of the loop holds after one name more. If a name has no part, the clause has no list of parts.
use Rattle.std.proofs.{Common.rules, Common.◌≡◌, Common.◌<◌, Common.length, Common.Some, Common.refl, lemmas.Option.slice_get_read}
use Rattle.std.specs.List.{slice_get}
use Rattle.smi_tree.specs.columns.Index.{IsIndexPart, is_implied}
use Rattle.smi_tree.proofs.Pairwise.{first_more, pair_at}
use Rattle.smi_tree.proofs.columns.objects.Objects.parts.Goals as goal

pub names-preserved : goal.names-preserved
names-preserved c =
    let i = c.names.i in
    let inside : c.names.i < length c.as_slice-names.result.now = search rules in
    let read = slice_get_read c.as_slice-names.result.now (length c.as_slice-names.result.now) i c.index-names-i.result refl inside c.index-names-i.is in
    let at : slice_get c.args.clause.now.names c.names.i ≡ Some c.index-names-i.result = rw c.as_slice-names.ensures at read in
    let is : IsIndexPart c.args.self.now c.args.home.now c.index-names-i.result.octets (is_implied c.args.clause.now c.names.i) c.in-Some.part =
    rw c.is_implied.ensures at c.in-Some.ensures in
    first_more _ _ i c.names.parts.items c.push.new.self.items c.index-names-i.result c.in-Some.part c.names.invariant (search rules) at is

pub returns-in_default : goal.returns-in_default
returns-in_default c =
    let i = c.names.i in
    let inside : c.names.i < length c.as_slice-names.result.now = search rules in
    let read = slice_get_read c.as_slice-names.result.now (length c.as_slice-names.result.now) i c.index-names-i.result refl inside c.index-names-i.is in
    let at : slice_get c.args.clause.now.names c.names.i ≡ Some c.index-names-i.result = rw c.as_slice-names.ensures at read in
    λ parts are. let part = pair_at _ _ parts are i c.index-names-i.result at in (rw c.is_implied.ensures at c.in_default.ensures) part.0 part.2
