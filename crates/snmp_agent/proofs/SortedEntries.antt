-- In a list of entries with increasing names, a name before the first entry comes before all (`before_from`), and `find` finds each entry (`find-listed`).
use Rattle.std.proofs.{lemmas.Grind.common_steps, lemmas.List.Elements.Contains-append_right}
use Rattle.std.proofs.Common.{arith, ◌≡◌, ℕ, zero, suc, Bool, true, false, cond, ◌&&◌, T, List, [], ◌∷◌, ◌++◌, Some, refl, sym, ◌∙◌, ap, subst}
use Rattle.std.proofs.Common.{Ordering, Less, Equal, Greater}
use Rattle.std.specs.{List.Contains, Cmp.tied_itself, Cmp.Lexicographic.slice_cmp, Cmp.Lexicographic.nat_list_cmp_total, FinMap.Entries.below_all}
use Rattle.std.specs.Ordering.{nat_cmp, is_eq, is_le, is_lt, ordering_reverse}
use Rattle.std.specs.FinMap.{find, is_sorted, slice_cmp-IsAntisymmetric, nat_cmp-IsAntisymmetric}
use Rattle.snmp_wire.specs.Message.{Datum}
use Rattle.snmp_agent.specs.table.Entries.{IsAfterAll, IsBeforeAll, IsBeforeNone}
use Rattle.snmp_agent.proofs.Lists.{all_back, all_both, of_each}

-- ---- the order of names

pub same_name : (o p : List ℕ) → slice_cmp nat_cmp o p ≡ Equal → o ≡ p
same_name = slice_cmp-IsAntisymmetric nat_cmp-IsAntisymmetric

pub not_before_itself : (o : List ℕ) → slice_cmp nat_cmp o o ≡ Less → ⊥
not_before_itself o e = let same : slice_cmp nat_cmp o o ≡ Equal = tied_itself nat_list_cmp_total o in cc

pub turned : (o p : List ℕ) (r : Ordering) → slice_cmp nat_cmp o p ≡ r → slice_cmp nat_cmp p o ≡ ordering_reverse r
turned o p r e = nat_list_cmp_total.antisymm p o ∙ ap ordering_reverse e

pub not_both : (o p : List ℕ) → slice_cmp nat_cmp o p ≡ Less → slice_cmp nat_cmp p o ≡ Less → ⊥
not_both o p e f = let g : slice_cmp nat_cmp p o ≡ Greater = turned o p Less e in cc

pub before_up_to : (q p o : List ℕ) → slice_cmp nat_cmp q p ≡ Less → is_le (slice_cmp nat_cmp p o) ≡ true → slice_cmp nat_cmp q o ≡ Less
before_up_to q p o less h =
    elim (slice_cmp nat_cmp p o) as (λ r. slice_cmp nat_cmp p o ≡ r → is_le r ≡ true → slice_cmp nat_cmp q o ≡ Less) [
      | Less ↦ λ is _. nat_list_cmp_total.trans q p o less is
      | Equal ↦ λ is _. rw (same_name p o is) at less
      | Greater ↦ λ _ no. absurd (cc)
    ] refl h

pub is_after : (o p : List ℕ) → is_le (slice_cmp nat_cmp p o) ≡ false → slice_cmp nat_cmp o p ≡ Less
is_after o p h = grind (arith, common_steps, turned)

pub none_before : (o p : List ℕ) → is_le (slice_cmp nat_cmp p o) ≡ true → slice_cmp nat_cmp o p ≡ Less → ⊥
none_before o p h less = let turn : slice_cmp nat_cmp p o ≡ Greater = turned o p Less less in cc

pub before_more : (o p : List ℕ) (es : List (List ℕ × Datum)) → slice_cmp nat_cmp o p ≡ Less → IsBeforeAll p es → IsBeforeAll o es
before_more o p [] less h = tt
before_more o p (e ∷ es) less h = (nat_list_cmp_total.trans o p e.0 less h.0, before_more o p es less h.1)

pub after_none : (o : List ℕ) (es : List (List ℕ × Datum)) → IsAfterAll o es → IsBeforeNone o es
after_none o [] h = tt
after_none o (e ∷ es) h = ((λ less. let greater = h.0 in absurd (cc)), after_none o es h.1)

-- ---- a name and a list of entries

pub less_from_test : (r : Ordering) → T (is_lt r) → r ≡ Less
less_from_test r h = grind (arith, common_steps)

pub first_of_both : (a b : Bool) → T (a && b) → T a
first_of_both a b h = grind (arith, common_steps)

pub second_of_both : (a b : Bool) → T (a && b) → T b
second_of_both a b h = grind (arith, common_steps)

pub both : (a b : Bool) → T a → T b → T (a && b)
both a b h k = grind (arith, common_steps)

pub before_all : (o : List ℕ) (es : List (List ℕ × Datum)) → T (below_all (slice_cmp nat_cmp) o es) → IsBeforeAll o es
before_all o [] h = tt
before_all o (e ∷ es) h = (less_from_test _ (first_of_both _ _ h), before_all o es (second_of_both _ _ h))

-- ---- increasing lists

pub rising_rest : (es fs : List (List ℕ × Datum)) → T (is_sorted (slice_cmp nat_cmp) (es ++ fs)) → T (is_sorted (slice_cmp nat_cmp) fs)
rising_rest [] fs h = h
rising_rest (e ∷ es) fs h = rising_rest es fs (second_of_both _ _ h)

below_first : (o : List ℕ) (es fs : List (List ℕ × Datum)) → T (below_all (slice_cmp nat_cmp) o (es ++ fs)) → T (below_all (slice_cmp nat_cmp) o es)
below_first o [] fs h = tt
below_first o (e ∷ es) fs h = both _ _ (first_of_both _ _ h) (below_first o es fs (second_of_both _ _ h))

pub rising_first : (es fs : List (List ℕ × Datum)) → T (is_sorted (slice_cmp nat_cmp) (es ++ fs)) → T (is_sorted (slice_cmp nat_cmp) es)
rising_first [] fs h = tt
rising_first (e ∷ es) fs h = both _ _ (below_first e.0 es fs (first_of_both _ _ h)) (rising_first es fs (second_of_both _ _ h))

-- a name that comes before the first entry comes before all of them
pub before_from : (o : List ℕ) (e : List ℕ × Datum) (es : List (List ℕ × Datum)) → T (is_sorted (slice_cmp nat_cmp) (e ∷ es))
    → is_le (slice_cmp nat_cmp e.0 o) ≡ false → IsBeforeAll o (e ∷ es)
before_from o e es h begins = grind (arith, common_steps, is_after, before_more, before_all, first_of_both)

-- a name comes after all entries before one whose name isn't greater
pub after_up_to : (o : List ℕ) (es fs : List (List ℕ × Datum)) (e : List ℕ × Datum) → T (is_sorted (slice_cmp nat_cmp) (es ++ e ∷ fs))
    → is_le (slice_cmp nat_cmp e.0 o) ≡ true → IsAfterAll o es
after_up_to o [] fs e h up_to = tt
after_up_to o (f ∷ es) fs e h up_to =
    let less = (all_back _ es (e ∷ fs) (before_all f.0 (es ++ e ∷ fs) (first_of_both _ _ h))).0 in
    (turned f.0 o Less (before_up_to f.0 e.0 o less up_to), after_up_to o es fs e (second_of_both _ _ h) up_to)

-- an entry of the list comes before all later ones; it comes after all earlier ones (`after_earlier`), and neither before these nor before itself
-- (`before_no_earlier`)
pub before_later : (es fs : List (List ℕ × Datum)) (e : List ℕ × Datum) → T (is_sorted (slice_cmp nat_cmp) (es ++ e ∷ fs)) → IsBeforeAll e.0 fs
before_later es fs e h = let rest = rising_rest es (e ∷ fs) h in before_all e.0 fs (first_of_both _ _ rest)

pub after_earlier : (es fs : List (List ℕ × Datum)) (e : List ℕ × Datum) → T (is_sorted (slice_cmp nat_cmp) (es ++ e ∷ fs)) → IsAfterAll e.0 es
after_earlier es fs e h = after_up_to e.0 es fs e h (ap is_le (tied_itself nat_list_cmp_total e.0))

pub before_no_earlier : (es fs : List (List ℕ × Datum)) (e : List ℕ × Datum) → T (is_sorted (slice_cmp nat_cmp) (es ++ e ∷ fs))
    → IsBeforeNone e.0 (es ++ e ∷ [])
before_no_earlier es fs e h = all_both _ es (e ∷ []) (after_none e.0 es (after_earlier es fs e h)) (not_before_itself e.0, tt)

-- a name that comes after the last entry comes after all of them
pub after_last : (o : List ℕ) (es : List (List ℕ × Datum)) (e : List ℕ × Datum) → T (is_sorted (slice_cmp nat_cmp) (es ++ e ∷ []))
    → slice_cmp nat_cmp e.0 o ≡ Less → IsAfterAll o (es ++ e ∷ [])
after_last o es e h less = all_both _ es (e ∷ []) (after_up_to o es [] e h (ap is_le less)) (turned e.0 o Less less, tt)

-- ---- what a search of a list of entries finds

-- an entry of the list is found by its name
pub find-listed : (e : List ℕ × Datum) (es : List (List ℕ × Datum)) → T (is_sorted (slice_cmp nat_cmp) es) → Contains es e
    → find (slice_cmp nat_cmp) e.0 es ≡ Some e.1
find-listed e [] rising at = absurd (omega (arith, at.1))
find-listed e (f ∷ fs) rising (zero, low, at) =
    subst (λ (g : List ℕ × Datum). find (slice_cmp nat_cmp) g.0 (f ∷ fs) ≡ Some g.1) at
    (ap (λ r. cond (is_eq r) (Some f.1) (find (slice_cmp nat_cmp) f.0 fs)) (tied_itself nat_list_cmp_total f.0))
find-listed e (f ∷ fs) rising (suc k, low, at) =
    let later : Contains fs e = (k, omega (arith, low), at) in
    let less = of_each (λ (g : List ℕ × Datum). slice_cmp nat_cmp f.0 g.0 ≡ Less) fs e (before_all f.0 fs (first_of_both _ _ rising)) later in
    ap (λ r. cond (is_eq r) (Some f.1) (find (slice_cmp nat_cmp) e.0 fs)) (turned f.0 e.0 Less less)
    ∙ find-listed e fs (second_of_both _ _ rising) later

pub listed_from_find : (o : List ℕ) (v : Datum) (es : List (List ℕ × Datum)) → find (slice_cmp nat_cmp) o es ≡ Some v → Contains es (o, v)
listed_from_find o v [] e = let no : ⊥ = cc in absurd no
listed_from_find o v (f ∷ fs) found =
    elim (slice_cmp nat_cmp o f.0) as (λ r. slice_cmp nat_cmp o f.0 ≡ r → cond (is_eq r) (Some f.1) (find (slice_cmp nat_cmp) o fs) ≡ Some v
    → Contains (f ∷ fs) (o, v)) [
      | Less ↦ λ _ e. Contains-append_right (f ∷ []) fs (o, v) (listed_from_find o v fs e)
      | Equal ↦ λ tied e. (0, omega arith, let name : f.0 ≡ o = sym (same_name o f.0 tied) in let value : f.1 ≡ v = cc in λ i. (name i, value i))
      | Greater ↦ λ _ e. Contains-append_right (f ∷ []) fs (o, v) (listed_from_find o v fs e)
    ] refl found
