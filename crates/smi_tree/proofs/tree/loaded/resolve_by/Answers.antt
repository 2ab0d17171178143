-- The nodes that were gathered, their syntaxes and their indexes are the tree of the modules.
use Rattle.std.proofs.Common.{◌≡◌, length, sym, ap, ◌∙◌}
use Rattle.smi_tree.proofs.Syntaxes.{is_tree, syntaxes_right}
use Rattle.smi_tree.proofs.tree.loaded.resolve_by.Goals as goal

pub returns-clause-resolved : goal.returns-clause-resolved
returns-clause-resolved c =
    let ms = c.args.modules.now in
    let g = c.in_ok-gathered.gathered in
    let t = c.in_ok-types.types in
    let os = c.in_ok-identifiers.identifiers in
    let found = c.in_ok-gathered.ensures in
    let same : c.in_ok-identifiers.identifiers ≡ c.in_ok-gathered.gathered.oids.items = c.in_ok-identifiers.ensures in
    let indexed = rw (c.deref.ensures.value) at c.in_ok-indexes.ensures in
    let long = found.long ∙ sym (ap (λ l. length l) same) in
    record {
      long = long;
      tree = is_tree ms g t os c.in_ok-indexes.indexes found same (syntaxes_right ms t c.in_ok-types.ensures.types g.sources.items os long) indexed;
      numbers = c.in_ok-types.ensures.numbers;
    }
