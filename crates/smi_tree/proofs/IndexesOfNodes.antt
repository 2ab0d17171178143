-- If the stored parts and the stored rows are right, then the index of each node is right (`are_indexes`).
use Rattle.std.proofs.{lemmas.Grind.common_steps, lemmas.List.same_from_push, lemmas.List.length-map, lemmas.Option.slice_get-map}
use Rattle.std.proofs.lemmas.Option.{get_or_from_slice_get}
use Rattle.std.proofs.Common.{◌≡◌, ℕ, List, Option, Some, None, refl, sym, ◌∙◌, arith}
use Rattle.std.specs.{List.slice_get, Option.option_and_then}
use Rattle.smi_tree.specs.declared.columns.index_part.IndexPart.{IndexPart}
use Rattle.smi_text.specs.{declared.trees.tree.Module.Module, declared.trees.tree.Def.Def, declared.trees.tree.Index.Index}
use Rattle.smi_text.specs.declared.trees.tree.Index.TheVariants.{Own, Augments}
use Rattle.smi_names.specs.nodes.Nodes.{Node}
use Rattle.smi_tree.specs.columns.Index.{IsColumnOf, IsNodeAt, IsIndexOf, IsIndex, AreIndexesOf, IsIndexed, UsesIndexOf, clause_of, index_at}
use Rattle.smi_tree.specs.columns.Kept.{KeptOfModule, IsOwn, AreOwnOfAll, AreRows, HasRowAt, HasRowOrNone, indexes_of, parts_at, items_of}
use Rattle.smi_tree.proofs.{Pairwise.pair_at, Parts.defined_once}

-- ---- a column has one row, and a row uses one clause

is_at_one : (nodes : List Node) (o : List ℕ) (a b : Node) → IsNodeAt nodes o a → IsNodeAt nodes o b → a ≡ b
is_at_one nodes o a b s t = grind (arith, common_steps)

pub column_once : (nodes : List Node) (column a b : Node) → IsColumnOf nodes column a → IsColumnOf nodes column b → a ≡ b
column_once nodes column a b c d = grind (arith, common_steps, same_from_push, is_at_one)

pub uses_once : (ms : List Module) (m : Module) (d : Def) (clause : Option Index) (n k : Module) (e f : Def)
    → UsesIndexOf ms m d clause n e → UsesIndexOf ms m d clause k f → (n ≡ k) × (e ≡ f)
uses_once ms m d None n k e f a b = absurd a
uses_once ms m d (Some (Own clause)) n k e f a b = (a.0 ∙ sym b.0, a.1 ∙ sym b.1)
uses_once ms m d (Some (Augments name)) n k e f a b = defined_once a b

-- if the row of a column uses the clause of definition `e`, then the parts of the column's index are the parts of that clause
pub index_once : (ms : List Module) (nodes : List Node) (column : Node) (row : Node) (m : Module) (d : Def) (n : Module) (e : Def) (parts : List IndexPart)
    → IsColumnOf nodes column row → row.home ≡ Some m → row.definition ≡ Some d → UsesIndexOf ms m d (clause_of d.kind) n e
    → IsIndexOf ms nodes column parts → IsIndexed ms n e parts
index_once ms nodes column row m d n e parts of_row home defined uses is = grind (arith, common_steps, column_once, uses_once)

-- ---- what is stored

pub index-at : (kept : List KeptOfModule) (rows : List (Option (ℕ × ℕ))) (k : ℕ) (at : Option (ℕ × ℕ)) → slice_get rows k ≡ Some at
    → index_at (indexes_of kept rows) k ≡ option_and_then (λ p. parts_at kept p.0 p.1) at
index-at kept rows k at e =
    let f : Option (ℕ × ℕ) → Option (List IndexPart) = λ at. option_and_then (λ p. parts_at kept p.0 p.1) at in
    get_or_from_slice_get (indexes_of kept rows) k (f at) None (slice_get-map f rows k ∙ rw e refl)

module _ (ms : List Module) (nodes : List Node) (kept : List KeptOfModule) (own : AreOwnOfAll ms kept) where
  is_index_by : (node : Node) (i k : ℕ) (h : HasRowAt ms nodes node i k) (parts : Option (List IndexPart))
      → IsOwn ms h.used.index_module h.used.index_definition parts → IsIndex ms nodes node parts
  is_index_by node i k h None none = λ parts is.
      none parts (index_once ms nodes node h.row h.used.row_module h.used.row_definition h.used.index_module h.used.index_definition parts h.of_row
      h.used.home h.used.defined h.used.uses is)
  is_index_by node i k h (Some parts) is = record {
    row = h.row;
    of_row = h.of_row;
    row_module = h.used.row_module;
    home = h.used.home;
    row_definition = h.used.row_definition;
    defined = h.used.defined;
    index_module = h.used.index_module;
    index_definition = h.used.index_definition;
    uses = h.used.uses;
    indexed = is;
  }

  is_index : (node : Node) (at : Option (ℕ × ℕ)) → HasRowOrNone ms nodes node at → IsIndex ms nodes node (option_and_then (λ p. parts_at kept p.0 p.1) at)
  is_index node None none = λ parts is.
      none is.row is.of_row is.row_module is.row_definition is.index_module is.index_definition is.home is.defined is.uses
  is_index node (Some p) h =
      let of_module = pair_at _ ms kept own p.0 h.used.index_module h.used.at_module in
      let of_def = pair_at _ h.used.index_module.defs of_module.0.items of_module.2 p.1 h.used.index_definition h.used.there in
      let found : parts_at kept p.0 p.1 ≡ items_of of_def.0 = rw (of_module.1, of_def.1) refl in
      rw found (is_index_by node p.0 p.1 h (items_of of_def.0) of_def.2)

  pub are_indexes : (rows : List (Option (ℕ × ℕ))) → AreRows ms nodes rows → AreIndexesOf ms nodes (indexes_of kept rows)
  are_indexes rows are = record {
    long = length-map rows (λ at. option_and_then (λ p. parts_at kept p.0 p.1) at) ∙ are.long;
    each = λ k node there. let r = pair_at _ nodes rows are k node there in rw (index-at kept rows k r.0 r.1) (is_index node r.0 r.2);
  }
