-- If a list grows at its end, then the index of the first element that passes a test stays, and each module keeps its entries. The last lemmas are on
-- identifier values.
use Rattle.std.proofs.{lemmas.Grind.common_steps, lemmas.Bool.cases_lt, lemmas.Option.slice_get_past}
use Rattle.std.proofs.{lemmas.Grind.common_steps, lemmas.List.Elements.All-append, lemmas.Bool.cases_eq, lemmas.Option.slice_get_within}
use Rattle.std.proofs.Common.{◌≡◌, ◌≢◌, ℕ, zero, suc, ◌+◌, ◌-◌, ◌<◌, ◌≤◌, Bool, cond, List, [], ◌∷◌, ◌++◌, length, take, get_or}
use Rattle.std.proofs.Common.{Option, Some, None, MatchOption, All, is_some, refl, sym, ap, ◌∙◌, arith, length-append, inl, inr}
use Rattle.std.proofs.lemmas.List.{take_more, length_push, length-take-le}
use Rattle.std.specs.List.{slice_get, find, list_all, position_from}
use Rattle.smi_text.specs.{trees.Mark.same_text, trees.Lookup.part_number, declared.trees.tree.Module.Module, declared.trees.tree.Part.Part}
use Rattle.smi_names.specs.{meaning.Meaning.or_else, meaning.Meaning.arcs, meaning.Meaning.decision, meaning.Names.module_index}
use Rattle.smi_names.specs.{meaning.Names.IsSourced, meaning.Names.AreEach, declared.meaning.entry.Entry.Entry}
use Rattle.smi_names.specs.meaning.Scopes.{NameIndices, known, decided_as, IsWithin, IsEntryOf, IsDecided}
use Rattle.smi_names.proofs.Scopes.{get-append, get-push_at, known-append}

-- the first element of `xs ++ ys` that passes `t` is the first one in `xs` or, if none passes there, the first one in `ys`; indices count from `j`
pub position-append : {A : Type 0} (t : A → Bool) (j : ℕ) (xs ys : List A)
    → position_from t j (xs ++ ys) ≡ or_else (position_from t j xs) (position_from t (j + length xs) ys)
position-append t j [] ys = let all : j + 0 ≡ j = omega arith in rw all refl
position-append t j (x ∷ xs) ys = grind (arith, common_steps, position-append t (j + 1) xs ys)

pub module_index-more : (ms : List Module) (i : ℕ) (m : Module) (x : List ℕ) → i < length ms → m ≡ get_or ms i m
    → or_else (module_index (take i ms) x) (cond (same_text m.name.octets x) (Some i) None) ≡ module_index (take (i + 1) ms) x
module_index-more ms i m x l e =
    let long : 0 + length (take i ms) ≡ i = omega (arith, length-take-le i ms (omega arith)) in
    sym (rw (take_more ms i m l, sym e) (rw long at (position-append (λ n. same_text n.name.octets x) 0 (take i ms) (m ∷ []))))

-- `found` is the element of `xs` at index `r`, counted from `j`, or both are `None`
abbrev pub IsFirst : {A : Type 0} → (A → Bool) → ℕ → List A → Option A → Option ℕ → Type 0
IsFirst {A} t j xs found r =
    MatchOption r (found ≡ None) (λ k. (j ≤ k) × (k < j + length xs) × (y : A) × (slice_get xs (k - j) ≡ Some y) × (found ≡ Some y))

pub is_first : {A : Type 0} (t : A → Bool) (j : ℕ) (xs : List A) → IsFirst t j xs (find t xs) (position_from t j xs)
is_first t j [] = refl
is_first t j (x ∷ xs) = grind (arith, common_steps, is_first t (j + 1) xs)

pub get-push : {X : Type 0} (xs : List X) (j : ℕ) (y : X) → j ≢ length xs → slice_get (xs ++ y ∷ []) j ≡ slice_get xs j
get-push xs j y f = grind (arith, common_steps, cases_lt j (length xs), get-append, slice_get_past, length_push)

get-more : {X : Type 0} (xs : List X) (j : ℕ) (x y : X) → slice_get xs j ≡ Some x → slice_get (xs ++ y ∷ []) j ≡ Some x
get-more xs j x y e = get-append xs (y ∷ []) j (slice_get_within xs j x e) ∙ e

-- if the entries `old` have their sources in `ms` (`IsSourced`), and the entries `added` belong to `m`, whose index is `length ms`, then all these entries
-- have their sources in `ms ++ m ∷ []`
AreSourced-more : (ms : List Module) (old added : List Entry) (m : Module) (i : ℕ) → i ≡ length ms → All (IsSourced ms) old → All (IsEntryOf m i) added
    → All (IsSourced (ms ++ m ∷ [])) (old ++ added)
AreSourced-more ms old added m i last sourced of =
    All-append (IsSourced (ms ++ m ∷ [])) old added (λ k d l. let h = sourced k d l in (
      get-more ms (get_or old k d).source.0 (get_or old k d).module.now m h.0,
      h.1,
    )) (λ k d l. let h = of k d l in (rw (h.0, h.1, last) (get-push_at ms m), h.2))

-- if `scopes` and `old` have the names of `ms`, and `scope` and `added` have the names of `m`, then together they have the names of `ms ++ m ∷ []`
pub AreEach-more : (ms : List Module) (scopes : List NameIndices) (old added : List Entry) (m : Module) (i : ℕ) (scope : NameIndices) → AreEach ms scopes old
    → ((x : List ℕ) → known (old ++ added) scope x ≡ decided_as m x (decision m x)) → IsWithin (old ++ added) scope
    → i ≡ length ms → All (IsEntryOf m i) added → All IsDecided added → AreEach (ms ++ m ∷ []) (scopes ++ scope ∷ []) (old ++ added)
AreEach-more ms scopes old added m at_end scope are knows within last of decided = record {
  long = length_push scopes scope ∙ rw are.long (sym (length_push ms m));
  each = λ i n s em es x. elim (cases_eq i (length ms)) [
    | inl end ↦
        let at : i ≡ length scopes = end ∙ sym are.long in
        let is : m ≡ n = let a = rw (sym end) at (get-push_at ms m) in cc in
        let is' : scope ≡ s = let a = rw (sym at) at (get-push_at scopes scope) in cc in
        rw (sym is, sym is') (knows x)
    | inr before ↦
        let es' = sym (get-push scopes i scope (λ h. before (h ∙ are.long))) ∙ es in
        known-append old added s x (are.within i s es') ∙ are.each i n s (sym (get-push ms i m before) ∙ em) es' x
  ];
  within = λ i s es x p at. elim (cases_eq i (length scopes)) [
    | inl end ↦ let is : scope ≡ s = let a = rw (sym end) at (get-push_at scopes scope) in cc in within x p (rw is at)
    | inr before ↦ omega (arith, are.within i s (sym (get-push scopes i scope before) ∙ es) x p at, length-append old added)
  ];
  sourced = AreSourced-more ms old added m at_end last are.sourced of;
  decided = All-append IsDecided old added are.decided decided;
}

pub arcs_push : (ps : List Part) (p : Part) (ns : List ℕ) (n : ℕ) → arcs ps ≡ Some ns → part_number p ≡ Some n → arcs (ps ++ p ∷ []) ≡ Some (ns ++ n ∷ [])
arcs_push [] p ns n e f = let none : [] ≡ ns = cc in rw (f, sym none) refl
arcs_push (q ∷ qs) p ns n e f = grind (arith, common_steps, arcs_push qs p)

-- `arcs` returns numbers if and only if each part has a number
pub numbered : (ps : List Part) → list_all (λ p. is_some (part_number p)) ps ≡ is_some (arcs ps)
numbered [] = refl
numbered (p ∷ ps) = grind (arith, common_steps, numbered ps, is_some)

pub arcs_none : (ps : List Part) (k : ℕ) (p : Part) → k < length ps → p ≡ get_or ps k p → part_number p ≡ None → arcs ps ≡ None
arcs_none [] k p l e f = absurd (omega arith)
arcs_none (q ∷ qs) zero p l e f = let is : part_number q ≡ None = ap part_number (sym e) ∙ f in rw is refl
arcs_none (q ∷ qs) (suc k) p l e f = grind (arith, common_steps, arcs_none qs k p)
