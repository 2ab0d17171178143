-- Identifiers as lists of numbers: which are below a root, and how identifiers are ordered.
use Rattle.std.proofs.Common.{◌≡◌, ℕ, ◌<◌, ◌↔◌, ◌⊎◌, inl, inr, List, [], ◌∷◌, ◌++◌, length, take, drop, refl, sym, ◌∙◌, ap, subst, arith, length-drop}
use Rattle.std.proofs.{lemmas.List.take-append-drop, Math.Seq.take-append_seam, lemmas.Map.Text.is_eq-slice_cmp, lemmas.Slice.Eq.bytes_eq-Decides}
use Rattle.std.specs.Ordering.{MatchOrdering, nat_cmp, ordering_then, ordering_reverse}
use Rattle.std.specs.{Cmp.ranked, Cmp.nat_cmp_is, Cmp.Lexicographic.slice_cmp, Cmp.Lexicographic.nat_list_cmp_total, declared.cmp.Ordering.Ordering}
use Rattle.std.specs.declared.cmp.Ordering.TheVariants.{Less, Equal, Greater}
use Rattle.snmp_oid.specs.Identifier.{IsBelow, Precedes}

-- if o is longer than root and begins with it, then o is below root
pub below_from_prefix : (o root : List ℕ) → length root < length o → take (length root) o ≡ root → IsBelow o root
below_from_prefix o root longer e =
    let whole : root ++ drop (length root) o ≡ o = ap (λ (prefix : List ℕ). prefix ++ drop (length root) o) (sym e) ∙ take-append-drop (length root) o in (
      drop (length root) o,
      (λ none. let short : length (drop (length root) o) ≡ 0 = ap length none in
          absurd (omega (arith, short, length-drop (length root) o))),
      sym whole,
    )

-- if o is below root, then o begins with root
pub prefix_from_below : (o root : List ℕ) → IsBelow o root → take (length root) o ≡ root
prefix_from_below o root h = ap (take (length root)) h.2 ∙ take-append_seam root h.0

pub ruleset prefixes = (is_eq-slice_cmp, bytes_eq-Decides, below_from_prefix, prefix_from_below)

-- if `o` precedes `p`, then `n ∷ o` precedes `n ∷ p`
precedes_after : (n : ℕ) (o p : List ℕ) → Precedes o p → Precedes (n ∷ o) (n ∷ p)
precedes_after n o p (inl h) = inl (h.0, h.1, ap (λ (s : List ℕ). n ∷ s) h.2)
precedes_after n o p (inr h) =
    inr record {
      prefix = n ∷ h.prefix;
      smaller = h.smaller;
      larger = h.larger;
      after = h.after;
      suffix = h.suffix;
      this = ap (λ (s : List ℕ). n ∷ s) h.this;
      that = ap (λ (s : List ℕ). n ∷ s) h.that;
      is_smaller = h.is_smaller;
    }

parts_at_once : (n m : ℕ) (o p : List ℕ) → n < m → Precedes (n ∷ o) (m ∷ p)
parts_at_once n m o p h =
    inr record { prefix = []; smaller = n; larger = m; after = o; suffix = p; this = refl; that = refl; is_smaller = h }

-- r is how o and p compare: `Less` if o precedes p, `Equal` if they are the same, `Greater` if p precedes o
abbrev pub Says : Ordering → List ℕ → List ℕ → Type 0
Says r o p = MatchOrdering r (Precedes o p) (o ≡ p) (Precedes p o)

-- if `n` and `m` compare as `r` says, and `o` and `p` as `s` says, then `n ∷ o` and `m ∷ p` compare as `r` says, or as `s` says if `r` is `Equal`
by_first : (n m : ℕ) (o p : List ℕ) (r s : Ordering) → MatchOrdering r (n < m) (n ≡ m) (m < n) → Says s o p → Says (ordering_then r s) (n ∷ o) (m ∷ p)
by_first n m o p Less s h rest = parts_at_once n m o p h
by_first n m o p Equal Less h rest = subst (λ (k : ℕ). Precedes (n ∷ o) (k ∷ p)) h (precedes_after n o p rest)
by_first n m o p Equal Equal h rest = cc
by_first n m o p Equal Greater h rest = subst (λ (k : ℕ). Precedes (k ∷ p) (n ∷ o)) h (precedes_after n p o rest)
by_first n m o p Greater s h rest = parts_at_once m n p o h

pub compared : (o p : List ℕ) → Says (slice_cmp nat_cmp o p) o p
compared [] [] = refl
compared [] (m ∷ p) = inl (m ∷ p, (λ none. cc), refl)
compared (n ∷ o) [] = inl (n ∷ o, (λ none. cc), refl)
compared (n ∷ o) (m ∷ p) = by_first n m o p (nat_cmp n m) (slice_cmp nat_cmp o p) (ranked n m (nat_cmp n m) refl) (compared o p)

-- a list is less than a longer list that begins with it
less_from_longer : (o rest : List ℕ) → (rest ≡ [] → ⊥) → slice_cmp nat_cmp o (o ++ rest) ≡ Less
less_from_longer [] [] some = absurd (some refl)
less_from_longer [] (m ∷ rest) some = refl
less_from_longer (n ∷ o) rest some = rw (← nat_cmp_is n n Equal refl) (less_from_longer o rest some)

less_from_parts : (prefix : List ℕ) (n m : ℕ) (after suffix : List ℕ) → n < m → slice_cmp nat_cmp (prefix ++ n ∷ after) (prefix ++ m ∷ suffix) ≡ Less
less_from_parts [] n m after suffix h = rw (← nat_cmp_is n m Less h) refl
less_from_parts (k ∷ prefix) n m after suffix h = rw (← nat_cmp_is k k Equal refl) (less_from_parts prefix n m after suffix h)

less_from_precedes : (o p : List ℕ) → Precedes o p → slice_cmp nat_cmp o p ≡ Less
less_from_precedes o p (inl h) = rw h.2 (less_from_longer o h.0 h.1)
less_from_precedes o p (inr h) = rw (h.this, h.that) (less_from_parts h.prefix h.smaller h.larger h.after h.suffix h.is_smaller)

-- a list compares as equal to itself
itself_equal : (o : List ℕ) → slice_cmp nat_cmp o o ≡ Equal
itself_equal [] = refl
itself_equal (n ∷ o) = rw (← nat_cmp_is n n Equal refl) (itself_equal o)

-- the result of a comparison is `Less` if and only if o precedes p
pub ordered_less : (o p : List ℕ) → (slice_cmp nat_cmp o p ≡ Less) ↔ Precedes o p
ordered_less o p = (λ e. subst (λ (r : Ordering). Says r o p) e (compared o p), less_from_precedes o p)

pub ordered_equal : (o p : List ℕ) → (slice_cmp nat_cmp o p ≡ Equal) ↔ (o ≡ p)
ordered_equal o p = (λ e. subst (λ (r : Ordering). Says r o p) e (compared o p), λ same. ap (slice_cmp nat_cmp o) (sym same) ∙ itself_equal o)

pub ordered_greater : (o p : List ℕ) → (slice_cmp nat_cmp o p ≡ Greater) ↔ Precedes p o
ordered_greater o p = (
  λ e. subst (λ (r : Ordering). Says r o p) e (compared o p),
  λ h. nat_list_cmp_total.antisymm o p ∙ ap ordering_reverse (less_from_precedes p o h),
)

-- `Precedes` is a strict total order: asymmetric, transitive and total

pub precedes_asymmetric : (o p : List ℕ) → Precedes o p → Precedes p o → ⊥
precedes_asymmetric o p h k =
    let less : slice_cmp nat_cmp o p ≡ Less = less_from_precedes o p h in
    let greater : slice_cmp nat_cmp o p ≡ Greater = (ordered_greater o p).1 k in
    cc

pub precedes_transitive : (o p q : List ℕ) → Precedes o p → Precedes p q → Precedes o q
precedes_transitive o p q h k =
    (ordered_less o q).0 (nat_list_cmp_total.trans o p q (less_from_precedes o p h) (less_from_precedes p q k))

by_outcome : (o p : List ℕ) (r : Ordering) → Says r o p → Precedes o p ⊎ ((o ≡ p) ⊎ Precedes p o)
by_outcome o p Less h = inl h
by_outcome o p Equal h = inr (inl h)
by_outcome o p Greater h = inr (inr h)

pub precedes_total : (o p : List ℕ) → Precedes o p ⊎ ((o ≡ p) ⊎ Precedes p o)
precedes_total o p = by_outcome o p (slice_cmp nat_cmp o p) (compared o p)
