-- The node is read from the source at the index.
use Rattle.std.proofs.{lemmas.Grind.common_steps, lemmas.Option.slice_get_read}
use Rattle.std.proofs.Common.{◌<◌, length, sym, refl, arith, ◌∙◌}
use Rattle.smi_tree.specs.branches.FirstIndex.{oid_at}
use Rattle.smi_tree.proofs.Sources.{length_nodes, node-at, parts}
use Rattle.smi_tree.proofs.tree.Tree.node.Goals as goal

pub index-source-requires : goal.index-source-requires
index-source-requires c = grind (arith, common_steps, length_nodes)

pub get-requires : goal.get-requires
get-requires c = grind (arith, common_steps, length_nodes)

pub returns : goal.returns
returns c =
    let i = c.self.inside in
    let ms = i.modules.items in
    let count = length_nodes ms i.sources.items i.identifiers c.self.invariant.long in
    let within = rw (sym c.self.view_is) at c.requires in
    let here : c.args.id < length i.sources.items = omega (arith, count, within) in
    let s = c.index-source.result.now in
    let source = slice_get_read i.sources.items (length i.sources.items) c.args.id s refl here c.index-source.ensures in
    let at = node-at ms i.sources.items i.identifiers c.self.invariant.long c.args.id s source in
    let home = c.home.ensures in
    let label = c.label.ensures in
    let definition = c.definition.ensures in
    rw (sym c.self.view_is) (at ∙ rw (
      parts ms s (oid_at i.identifiers c.args.id),
      c.get.ensures,
      home,
      label,
      definition,
      c.deref.ensures.value,
      c.deref-2.ensures.value,
      c.deref-3.ensures.value,
    ) refl)
