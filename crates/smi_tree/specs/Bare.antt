-- The tree of no modules (RFC 2578, section 3.5).
use Rattle.std.specs.Prelude.{[], ◌∷◌, None}
use Rattle.smi_names.specs.nodes.Nodes.{roots}
use Rattle.smi_tree.specs.Tree.{Contents}

-- the three roots, which have no syntax and no index
abbrev pub bare : Contents
bare = record {
  modules = [];
  nodes = roots;
  syntaxes = None ∷ (None ∷ (None ∷ []));
  indexes = None ∷ (None ∷ (None ∷ []));
}
