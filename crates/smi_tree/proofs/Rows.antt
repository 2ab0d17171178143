-- The row that is found for a column is its row (`row_is`), and the INDEX clause that is found for a row is the clause it uses (`uses_own`, `uses_named`).
use Rattle.std.proofs.{lemmas.Grind.common_steps, lemmas.List.same_from_push}
use Rattle.std.proofs.lemmas.Option.{slice_get_within, slice_get-get_or, slice_get_read}
use Rattle.std.proofs.Common.{◌≡◌, ℕ, ◌<◌, ◌≤◌, List, [], ◌∷◌, ◌++◌, length, get_or, MatchOption, Option, Some, None, refl, sym, subst, ap, ◌∙◌, arith}
use Rattle.std.specs.List.{slice_get}
use Rattle.smi_tree.specs.{branches.FirstIndex.first_index, branches.FirstIndex.oid_at, columns.Definitions.qualified_name, Indices.definition_from}
use Rattle.smi_text.specs.{declared.trees.tree.Module.Module, declared.trees.tree.Def.Def, declared.trees.tree.Index.TheVariants.Own}
use Rattle.smi_text.specs.{declared.trees.tree.Index.TheVariants.Augments, declared.trees.tree.IndexParts.IndexParts, declared.trees.names.Name.Name}
use Rattle.smi_names.specs.{nodes.Nodes.Node, nodes.Nodes.node_of, nodes.Gathered.node_from, nodes.Gathered.nodes_of}
use Rattle.smi_names.specs.declared.nodes.gather.Source.{Source}
use Rattle.smi_names.specs.declared.nodes.gather.Source.TheVariants as S
use Rattle.smi_tree.specs.columns.Index.{IsObjectType, IsColumnOf, IsNodeAt, clause_of}
use Rattle.smi_tree.specs.private.Named.{IsFoundAt, IsUndefined}
use Rattle.smi_tree.specs.columns.Kept.{UsesAt, UsesNone, HasNoRow, HasRowOrNone}
use Rattle.smi_tree.proofs.Sources.{parts, length_nodes, oids_nodes, node-at}

-- ---- the clause that a row uses

module _ (ms : List Module) (i k : ℕ) (m : Module) (d : Def) (in_ms : i < length ms) (m_is : m ≡ get_or ms i m)
    (in_defs : k < length m.defs) (d_is : d ≡ get_or m.defs k d) where
  at_module : slice_get ms i ≡ Some m
  at_module = slice_get_read ms (length ms) i m refl in_ms m_is

  at_def : slice_get m.defs k ≡ Some d
  at_def = slice_get_read m.defs (length m.defs) k d refl in_defs d_is

  node_here : (o : List ℕ) → node_from ms (S.Definition i k) o ≡ node_of m d o
  node_here o = rw (at_module, at_def) refl

  pub uses_own : (clause : IndexParts) → clause_of d.kind ≡ Some (Own clause) → (o : List ℕ) → UsesAt ms (node_from ms (S.Definition i k) o) i k
  uses_own clause is o = rw (node_here o) (record {
    row_module = m;
    home = refl;
    row_definition = d;
    defined = refl;
    index_module = m;
    at_module = at_module;
    index_definition = d;
    there = at_def;
    uses = rw is (refl, refl);
  })

  uses_none : (name : Name) → clause_of d.kind ≡ Some (Augments name) → IsUndefined ms (qualified_name m name.octets) → (o : List ℕ)
      → UsesNone ms (node_of m d o)
  uses_none name is none o = grind (arith, common_steps)

  pub uses_named : (name : Name) (r : Option (ℕ × ℕ)) → clause_of d.kind ≡ Some (Augments name)
      → MatchOption r (IsUndefined ms (qualified_name m name.octets)) (λ p. IsFoundAt ms (qualified_name m name.octets) p.0 p.1)
      → MatchOption r ((o : List ℕ) → UsesNone ms (node_from ms (S.Definition i k) o))
      (λ p. (o : List ℕ) → UsesAt ms (node_from ms (S.Definition i k) o) p.0 p.1)
  uses_named name None is none = λ o. subst (λ (n : Node). UsesNone ms n) (sym (node_here o)) (uses_none name is none o)
  uses_named name (Some p) is found = λ o. rw (node_here o) (record {
    row_module = m;
    home = refl;
    row_definition = d;
    defined = refl;
    index_module = found.home;
    at_module = found.at_module;
    index_definition = found.definition;
    there = found.there;
    uses = rw is found.named;
  })

-- ---- the row of a column

module _ (ms : List Module) (ss : List Source) (os : List (List ℕ)) (long : length ss ≡ length os) where
  abbrev nodes : List Node
  nodes = nodes_of ms ss os

  source_as_meaning : (oid : List ℕ) (row : Node) (st : IsNodeAt nodes oid row) → first_index os oid ≡ Some st.id
  source_as_meaning oid row st = rw (oids_nodes ms ss os long) at st.first

  module _ (k : ℕ) (within : k < length ss) where
    abbrev source : Source
    source = get_or ss k (S.Root 0)

    node_is : (node : Node) → slice_get nodes k ≡ Some node → node ≡ node_from ms source (oid_at os k)
    node_is node there = let is = node-at ms ss os long k source (slice_get-get_or ss k (S.Root 0) within) in cc

    definition_is : (node : Node) → slice_get nodes k ≡ Some node → node.definition ≡ definition_from ms source
    definition_is node there = ap (λ (n : Node). n.definition) (node_is node there ∙ parts ms source (oid_at os k))

    oid_is : (node : Node) → slice_get nodes k ≡ Some node → node.oid ≡ oid_at os k
    oid_is node there = ap (λ (n : Node). n.oid) (node_is node there ∙ parts ms source (oid_at os k))

    pub no_row_undefined : None ≡ definition_from ms source → (node : Node) → slice_get nodes k ≡ Some node → HasNoRow ms nodes node
    no_row_undefined none node there row column = let some = column.object.2 in let is = definition_is node there in absurd (cc)

    pub no_row_other : (d : Def) → Some d ≡ definition_from ms source → (IsObjectType (Some d) → ⊥)
        → (node : Node) → slice_get nodes k ≡ Some node → HasNoRow ms nodes node
    no_row_other d is other node there row column = absurd (other (rw (definition_is node there ∙ sym is) at column.object))

    pub no_row_index : ((prefix : List ℕ) (last row : ℕ) → oid_at os k ≡ prefix ++ last ∷ [] → first_index os prefix ≡ Some row → ⊥)
        → (node : Node) → slice_get nodes k ≡ Some node → HasNoRow ms nodes node
    no_row_index none node there row column =
        absurd (none column.prefix column.last column.is_at.id (sym (oid_is node there) ∙ column.below) (source_as_meaning column.prefix row column.is_at))

    module _ (prefix : List ℕ) (last r : ℕ) (below : oid_at os k ≡ prefix ++ last ∷ []) (first : first_index os prefix ≡ Some r) where
      -- if a node is a column of a row, the row is at the index that was found
      row_at : (node : Node) → slice_get nodes k ≡ Some node → (row : Node) → IsColumnOf nodes node row → slice_get nodes r ≡ Some row
      row_at node there row column =
          let prefix_is = (same_from_push column.prefix prefix column.last last (sym column.below ∙ oid_is node there ∙ below)).0 in
          let found = rw prefix_is at (source_as_meaning column.prefix row column.is_at) in
          let same : column.is_at.id ≡ r = cc in
          rw same at column.is_at.there

      pub no_row_source : length ss ≤ r → (node : Node) → slice_get nodes k ≡ Some node → HasNoRow ms nodes node
      no_row_source past node there row column =
          let inside = slice_get_within nodes r row (row_at node there row column) in absurd (omega (arith, length_nodes ms ss os long))

      pub row_is : (d : Def) (rs : Source) (at : Option (ℕ × ℕ)) → Some d ≡ definition_from ms source → IsObjectType (Some d)
          → slice_get ss r ≡ Some rs
          → MatchOption at ((o : List ℕ) → UsesNone ms (node_from ms rs o)) (λ p. (o : List ℕ) → UsesAt ms (node_from ms rs o) p.0 p.1)
          → (node : Node) → slice_get nodes k ≡ Some node → HasRowOrNone ms nodes node at
      row_is d rs None is object read none node there = λ row column.
          let here = node-at ms ss os long r rs read in let got = row_at node there row column in
          let same : row ≡ node_from ms rs (oid_at os r) = cc in rw same (none (oid_at os r))
      row_is d rs (Some p) is object read uses node there = record {
        row = node_from ms rs (oid_at os r);
        of_row = record {
          object = rw (definition_is node there ∙ sym is) object;
          prefix = prefix;
          last = last;
          below = oid_is node there ∙ below;
          is_at = record { id = r; first = rw (oids_nodes ms ss os long) first; there = node-at ms ss os long r rs read };
        };
        used = uses (oid_at os r);
      }
