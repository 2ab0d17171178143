-- The previous index of the label is stored for each source.
use Rattle.std.proofs.Common.{◌≡◌, ◌<◌, length, slice_index_or, sym, arith}
use Rattle.std.proofs.lemmas.{Grind.common_steps, Option.gets}
use Rattle.smi_tree.proofs.Sources.{length_nodes, labels_nodes}
use Rattle.smi_tree.proofs.tree.Tree.previous_of.Goals as goal

pub returns : goal.returns
returns c =
    let i = c.self.inside in
    let long = length_nodes i.modules.items i.sources.items i.identifiers c.self.invariant.long in
    let labels = labels_nodes i.modules.items i.sources.items i.identifiers c.self.invariant.long in
    let inside : c.args.id < length c.self.inside.sources.items = rw (sym c.self.view_is, long) at c.requires in
    let same : c.index.result.now ≡ slice_index_or c.self.inside.previous.items c.args.id 0 =
    grind (arith, common_steps, gets, c.self.invariant.previous.long, inside, c.index.ensures) in
    rw (sym c.self.view_is) (rw (long, labels, same) (c.self.invariant.previous.each c.args.id inside))
