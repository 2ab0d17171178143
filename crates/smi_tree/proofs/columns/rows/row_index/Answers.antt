-- If the row that was looked up last has these numbers, the index that was found for it is the result.
use Rattle.std.proofs.Common.{rules, ◌≡◌, ℕ, ◌∷◌, [], ◌++◌, List, MatchOption, Option, Some, None, sym, ◌∙◌}
use Rattle.std.proofs.lemmas.List.{same_from_push}
use Rattle.smi_tree.specs.branches.FirstIndex.{oid_at, first_index}
use Rattle.smi_tree.proofs.columns.rows.row_index.Goals as goal

found : (oids : List (List ℕ)) (o prefix : List ℕ) (last : ℕ) (r : Option ℕ) → o ≡ prefix ++ last ∷ [] → r ≡ first_index oids prefix
    → MatchOption r ((f : List ℕ) (l row : ℕ) → o ≡ f ++ l ∷ [] → first_index oids f ≡ Some row → ⊥)
    (λ row. (f : List ℕ) × (l : ℕ) × (o ≡ f ++ l ∷ []) × (first_index oids f ≡ Some row))
found oids o prefix last None split is = λ f l row other at.
    let same : f ≡ prefix = (same_from_push f prefix l last (sym other ∙ split)).0 in
    let here = rw same at at in
    absurd (cc)
found oids o prefix last (Some row) split is = (prefix, last, split, sym is)

pub returns-in-Some-clause-row : goal.returns-in-Some-clause-row
returns-in-Some-clause-row c =
    let oids = c.args.identifiers.now in
    let split : oid_at c.args.identifiers.now c.args.id ≡ c.in_ok-_last.prefix.now ++ c.in_ok-_last._last.now ∷ [] = search rules in
    let known : c.in-Some.row.id ≡ first_index c.args.identifiers.now c.in-Some.row.numbers.now = search rules in
    let same : c.in-Some.row.numbers.now ≡ c.in_ok-_last.prefix.now = search rules in
    found oids (oid_at oids c.args.id) c.in_ok-_last.prefix.now c.in_ok-_last._last.now c.in-Some.row.id split (rw same at known)
