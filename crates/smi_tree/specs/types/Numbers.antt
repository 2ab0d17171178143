-- The stored indexes of named numbers or bits: only a long list in a definition has one.
use Rattle.std.specs.Prelude.{◌≡◌, ℕ, List, IfSome, Option, Some}
use Rattle.std.specs.{List.slice_get, Option.option_and_then, Ordering.nat_cmp}
use Rattle.std.specs.BTreeMap.{BTreeMap, get}
use Rattle.smi_text.specs.{declared.trees.tree.Module.Module, declared.trees.tree.Def.Def}
use Rattle.smi_names.specs.chains.Order.{option_at}
use Rattle.smi_value.specs.{Syntax.IsIndexOf, declared.names.NumberIndex.NumberIndex}
use Rattle.smi_tree.specs.{Pairwise.ArePairwise, types.Kept.names_of, declared.types.Types.Types}

-- if `d` has named numbers or bits, then `index` is the index of these
abbrev pub IsIndexIn : Def → NumberIndex → Type 0
IsIndexIn d index = IfSome (names_of d) (λ names. IsIndexOf names index)

-- for each definition in `defs`, `numbers` has the index of its named numbers or bits, or none;
-- the key is the index of the definition in `defs`
abbrev pub AreNumbersOf : List Def → BTreeMap ℕ NumberIndex → Type 0
AreNumbersOf defs numbers = (k : ℕ) (d : Def) → slice_get defs k ≡ Some d
    → IfSome (get nat_cmp numbers k) (IsIndexIn d)

-- `all` has one item for each module in `ms`, and `AreNumbersOf` holds of the module's definitions
-- and this item
abbrev pub AreNumbersOfAll : List Module → List (BTreeMap ℕ NumberIndex) → Type 0
AreNumbersOfAll ms all = ArePairwise (λ i m numbers. AreNumbersOf m.defs numbers) ms all

-- ---- for private functions

-- the stored index of the definition at `at`, if there is one
abbrev pub index_at : List (BTreeMap ℕ NumberIndex) → Option (ℕ × ℕ) → Option NumberIndex
index_at all at = option_and_then
    (λ p. option_and_then (λ numbers. get nat_cmp numbers p.1) (slice_get all p.0)) at

-- the stored index of the names in the syntax of definition `k` of module `i`, if there is one
abbrev pub kept_index : Types → ℕ → ℕ → Option NumberIndex
kept_index t i k = option_and_then (λ s. index_at t.numbers.items s.names)
    (option_and_then (λ kept. option_at kept.items k) (slice_get t.objects.items i))
