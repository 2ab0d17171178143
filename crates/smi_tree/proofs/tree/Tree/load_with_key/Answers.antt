-- What is returned satisfies the invariant of a tree, and is the tree of the modules.
use Rattle.std.proofs.Common.{sym, ◌∙◌}
use Rattle.smi_tree.proofs.tree.Tree.load_with_key.Goals as goal

pub invariant_of-result : goal.invariant_of-result
invariant_of-result c =
    let found = rw (c.deref.ensures.value) at c.in_ok-resolved.ensures.resolved in
    let homes = rw (c.deref-2.ensures.value) at c.in_ok-homes.ensures.placed in
    let indices = rw (c.deref-3.ensures.value, c.deref-4.ensures.value) at c.in_ok-indices.ensures in
    record {
      kept = record {
        long = found.long;
        warnings = c.in_ok-resolved.resolved.warnings.items;
        tree = found.tree;
        numbers = found.numbers;
        homes = homes;
        labels = indices.labels;
        others = indices.others;
        previous = indices.previous;
      };
      key_of_homes = c.in_ok-homes.ensures.hashed ∙ sym c.in_ok-resolved.ensures.hashed;
      key_of_labels = c.in_ok-indices.ensures.hashed.0 ∙ sym c.in_ok-resolved.ensures.hashed;
      key_of_others = c.in_ok-indices.ensures.hashed.1 ∙ sym c.in_ok-resolved.ensures.hashed;
    }

pub returns-clause-tree : goal.returns-clause-tree
returns-clause-tree c =
    let found = rw (c.deref.ensures.value) at c.in_ok-resolved.ensures.resolved in
    found.tree
