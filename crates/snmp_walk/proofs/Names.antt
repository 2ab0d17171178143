-- What the tests of names and values decide (`below_decided`, `end_decided`, `inside_decided`). If names are sorted, those below a root are consecutive
-- (`outside_after`).
use Rattle.std.proofs.Common.{◌≡◌, ℕ, ◌<◌, true, List, [], ◌∷◌, ◌++◌, length, take, drop, refl, sym, ◌∙◌, ap, subst, arith, length-append}
use Rattle.std.proofs.Common.{length-drop, append-nil, append_assoc, ◌⊎◌, inl, inr, zero, suc, ◌≤◌, false, ◌≢◌, Bool, cond}
use Rattle.std.proofs.{lemmas.List.take-append-drop, Math.Seq.take-append_seam, lemmas.Grind.common_steps}
use Rattle.std.proofs.lemmas.Bool.{and_parts, and_from, ltb-true, lt-ltb, false≢true, false_from_ne_true, not-true}
use Rattle.std.specs.{Bool.nat_eq, Bool.Decides, Prelude.nat_lt, Prelude.not, Cmp.tied_itself, declared.cmp.Ordering.Ordering}
use Rattle.std.specs.Cmp.Lexicographic.{pointwise, same_text, nat_list_eq_equiv, slice_cmp, nat_list_cmp_total}
use Rattle.snmp_oid.specs.Identifier.{IsBelow, Precedes, wire}
use Rattle.snmp_walk.specs.Names.{is_below, comes_after, is_end, is_missing, is_inside}
use Rattle.std.specs.Ordering.{nat_cmp, is_lt, ordering_then}
use Rattle.std.specs.declared.cmp.Ordering.TheVariants.{Less, Equal, Greater}
use Rattle.std.proofs.lemmas.Bool.Decides.{Decides-and, Decides-not}
use Rattle.snmp_wire.specs.Message.{Datum, VarBind, no_such_object, no_such_instance, end_of_mib_view}
use Rattle.snmp_walk.specs.{Instances.IsInside, Instances.IsMissing, Progress.IsRowIfPresent, private.ComputedStep.if_present}

longer_by : (root rest : List ℕ) → (rest ≡ [] → ⊥) → length root < length (root ++ rest)
longer_by root [] some = absurd (some refl)
longer_by root (x ∷ rest) some = omega (arith, length-append root (x ∷ rest))

test_from_parts : (root rest : List ℕ) → (rest ≡ [] → ⊥) → is_below (root ++ rest) root ≡ true
test_from_parts root rest some =
    let prefix : take (length root) (root ++ rest) ≡ root = take-append_seam root rest in
    let begins : pointwise nat_eq root (take (length root) (root ++ rest)) ≡ true = ap (pointwise nat_eq root) prefix ∙ nat_list_eq_equiv.refl root in
    and_from _ _ begins (lt-ltb _ _ (longer_by root rest some))

pub test_from_below : (root name : List ℕ) → IsBelow name root → is_below name root ≡ true
test_from_below root name h = let P : List ℕ → Type 0 = λ n. is_below n root ≡ true in subst P (sym h.2) (test_from_parts root h.0 h.1)

pub below_from_test : (root name : List ℕ) → is_below name root ≡ true → IsBelow name root
below_from_test root name test =
    let parts = and_parts (pointwise nat_eq root (take (length root) name)) (nat_lt (length root) (length name)) test in
    let prefix : root ≡ take (length root) name = same_text root (take (length root) name) (sym parts.0) in
    let longer : length root < length name = ltb-true _ _ parts.1 in
    let whole : root ++ drop (length root) name ≡ name = ap (λ (s : List ℕ). s ++ drop (length root) name) prefix ∙ take-append-drop (length root) name in (
      drop (length root) name,
      (λ none. let short : length (drop (length root) name) ≡ 0 = ap length none in absurd (omega (
        arith,
        short,
        length-drop
            (length root) name,
      ))),
      sym whole,
    )

pub below_decided : (root name : List ℕ) → Decides (is_below name root) (IsBelow name root)
below_decided root name = (below_from_test root name, test_from_below root name)

-- ---- the order of names, in which those below a root are consecutive

less_from_lt : (r : Ordering) → is_lt r ≡ true → r ≡ Less
less_from_lt Less e = refl
less_from_lt _ e = absurd (false≢true e)

pub less_from_after : (o p : List ℕ) → comes_after o p ≡ true → slice_cmp nat_cmp o p ≡ Less
less_from_after o p e = less_from_lt (slice_cmp nat_cmp o p) e

pub after-trans : (o p q : List ℕ) → comes_after o p ≡ true → comes_after p q ≡ true → comes_after o q ≡ true
after-trans o p q a b = ap is_lt (nat_list_cmp_total.trans o p q (less_from_after o p a) (less_from_after p q b))

pub after-irrefl : (o : List ℕ) → comes_after o o ≡ false
after-irrefl o = ap is_lt (tied_itself nat_list_cmp_total o)

-- if p comes after o, and r doesn't, then r doesn't come after p
pub not_after : (o p r : List ℕ) → comes_after o p ≡ true → comes_after o r ≡ false → comes_after p r ≡ false
not_after o p r a b = false_from_ne_true (comes_after p r) (λ c. let both : comes_after o r ≡ true = after-trans o p r a c in cc)

-- if two names have the same first number, the order of the names is the order of what follows it
pub same_first : (x : ℕ) (o p : List ℕ) → slice_cmp nat_cmp (x ∷ o) (x ∷ p) ≡ slice_cmp nat_cmp o p
same_first x o p = grind (arith, common_steps)

pub less_longer : (o rest : List ℕ) → (rest ≡ [] → ⊥) → slice_cmp nat_cmp o (o ++ rest) ≡ Less
less_longer [] [] some = absurd (some refl)
less_longer [] (m ∷ rest) some = refl
less_longer (n ∷ o) rest some = same_first n o (o ++ rest) ∙ less_longer o rest some

less_parts : (prefix : List ℕ) (n m : ℕ) (after suffix : List ℕ) → n < m → slice_cmp nat_cmp (prefix ++ n ∷ after) (prefix ++ m ∷ suffix) ≡ Less
less_parts [] n m after suffix h = grind (arith, common_steps)
less_parts (k ∷ prefix) n m after suffix h = same_first k (prefix ++ n ∷ after) (prefix ++ m ∷ suffix) ∙ less_parts prefix n m after suffix h

pub less_precedes : (o p : List ℕ) → Precedes o p → slice_cmp nat_cmp o p ≡ Less
less_precedes o p (inl h) = subst (λ (q : List ℕ). slice_cmp nat_cmp o q ≡ Less) (sym h.2) (less_longer o h.0 h.1)
less_precedes o p (inr h) = grind (arith, common_steps, less_parts)

not_less_none : (o : List ℕ) → slice_cmp nat_cmp o [] ≡ Less → ⊥
not_less_none [] e = cc
not_less_none (x ∷ o) e = cc

below_first : (x : ℕ) (o root : List ℕ) → IsBelow o root → IsBelow (x ∷ o) (x ∷ root)
below_first x o root h = (h.0, h.1, ap (λ (s : List ℕ). x ∷ s) h.2)

-- if a name that begins with y is between two names that begin with x, then y is x, and the other numbers decide both comparisons
gap_first : (x y : ℕ) (a c : Ordering) (r : Ordering) → r ≡ nat_cmp x y → ordering_then r a ≡ Less → ordering_then (nat_cmp y x) c ≡ Less
    → (x ≡ y) × (a ≡ Less) × (c ≡ Less)
gap_first x y a c Less e h k = grind (arith, common_steps)
gap_first x y a c Equal e h k = grind (arith, common_steps)
gap_first x y a c Greater e h k = absurd cc

-- If p comes after the root or a name below it, and isn't below the root, then no name below the root comes after p.
after_gap : (root s p rest : List ℕ) → slice_cmp nat_cmp (root ++ s) p ≡ Less → (IsBelow p root → ⊥) → slice_cmp nat_cmp p (root ++ rest) ≡ Less → ⊥
after_gap [] s [] rest h out k = not_less_none s h
after_gap [] s (y ∷ p) rest h out k = out (y ∷ p, (λ e. cc), refl)
after_gap (x ∷ root) s [] rest h out k = not_less_none (x ∷ root ++ s) h
after_gap (x ∷ root) s (y ∷ p) rest h out k =
    let first = gap_first x y (slice_cmp nat_cmp (root ++ s) p) (slice_cmp nat_cmp p (root ++ rest)) (nat_cmp x y) refl h k in
    after_gap root s p rest first.1 (λ below. out (subst (λ (n : ℕ). IsBelow (n ∷ p) (x ∷ root)) first.0 (below_first x p root below))) first.2

-- if, by the tests, p comes after the root or a name below it, and isn't below the root, then no name q after p is below the root
pub outside_after : (root s p q : List ℕ) → comes_after (root ++ s) p ≡ true → is_below p root ≡ false → comes_after p q ≡ true → is_below q root ≡ false
outside_after root s p q a out b = grind (arith, common_steps, false_from_ne_true, below_from_test, test_from_below, after_gap, less_from_after)

zero_first : (x : ℕ) (o p : List ℕ) → slice_cmp nat_cmp o p ≡ Less → slice_cmp nat_cmp (0 ∷ o) (x ∷ p) ≡ Less
zero_first zero o p h = same_first 0 o p ∙ h
zero_first (suc x) o p h = grind (arith, common_steps)

-- a name below the root with at least three numbers comes after the root's wire form
less_than_below : (root name : List ℕ) → 3 ≤ length name → IsBelow name root → slice_cmp nat_cmp (wire root) name ≡ Less
less_than_below [] (a ∷ b ∷ c ∷ name) long h = zero_first a (0 ∷ []) (b ∷ c ∷ name) (zero_first b [] (c ∷ name) refl)
less_than_below (x ∷ []) (a ∷ b ∷ c ∷ name) long h = grind (arith, common_steps, same_first, zero_first)
less_than_below (x ∷ y ∷ root) name long h = grind (arith, common_steps, less_longer)
less_than_below _ _ long h = absurd (omega (arith, long))

pub below_after_wire : (root name : List ℕ) → 3 ≤ length name → is_below name root ≡ true → comes_after (wire root) name ≡ true
below_after_wire root name long below = ap is_lt (less_than_below root name long (below_from_test root name below))

-- the root's wire form begins with the root
pub wire_begins : (root : List ℕ) → (s : List ℕ) × (wire root ≡ root ++ s)
wire_begins [] = (0 ∷ 0 ∷ [], refl)
wire_begins (x ∷ []) = (0 ∷ [], refl)
wire_begins (x ∷ y ∷ root) = ([], sym (append-nil (x ∷ y ∷ root)))

-- the wire form of each name that begins with the root begins with the root too
pub wire_begins_below : (root rest : List ℕ) → (s : List ℕ) × (wire (root ++ rest) ≡ root ++ s)
wire_begins_below root rest =
    let h = wire_begins (root ++ rest) in (rest ++ h.0, h.1 ∙ append_assoc root rest h.0)

-- if the name is the root or below it, then its wire form begins with the root
pub wire_begins_at : (root name : List ℕ) → (name ≡ root) ⊎ IsBelow name root → (s : List ℕ) × (wire name ≡ root ++ s)
wire_begins_at root name (inl e) = let h = wire_begins root in (h.0, ap wire e ∙ h.1)
wire_begins_at root name (inr b) = let h = wire_begins_below root b.0 in (h.0, ap wire b.2 ∙ h.1)

-- ---- what the tests of names and values decide

pub end_decided : (v : Datum) → Decides (is_end v) (v ≡ end_of_mib_view)
end_decided end_of_mib_view = ((λ _. refl), (λ _. refl))
end_decided v = ((λ e. absurd (false≢true e)), (λ e. let no : ⊥ = cc in absurd no))

missing_from : (v : Datum) → (v ≡ no_such_object) ⊎ (v ≡ no_such_instance) → is_missing v ≡ true
missing_from v (inl e) = ap is_missing e
missing_from v (inr e) = ap is_missing e

missing_tells : (v : Datum) → is_missing v ≡ true → (v ≡ no_such_object) ⊎ (v ≡ no_such_instance)
missing_tells no_such_object e = inl refl
missing_tells no_such_instance e = inr refl
missing_tells v e = absurd (false≢true e)

pub missing_decided : (b : VarBind) → Decides (is_missing b.value) (IsMissing b)
missing_decided b = (missing_tells b.value, missing_from b.value)

pub inside_decided : (root : List ℕ) (b : VarBind) → Decides (is_inside root b) (IsInside root b)
inside_decided root b = grind (arith, common_steps, Decides-and, Decides-not, end_decided, below_decided)

-- if the test fails, then the value isn't endOfMibView
pub no_end : (v : Datum) → is_end v ≡ false → v ≢ end_of_mib_view
no_end v e is = false≢true (sym e ∙ (end_decided v).1 is)

pub end_test : (v : Datum) → v ≢ end_of_mib_view → is_end v ≡ false
end_test v h = false_from_ne_true (is_end v) (λ e. h ((end_decided v).0 e))

pub no_miss : (b : VarBind) → is_missing b.value ≡ false → IsMissing b → ⊥
no_miss b e is = false≢true (sym e ∙ (missing_decided b).1 is)

pub miss_test : (b : VarBind) → (IsMissing b → ⊥) → is_missing b.value ≡ false
miss_test b h = false_from_ne_true (is_missing b.value) (λ e. h ((missing_decided b).0 e))

pub outside : (root : List ℕ) (b : VarBind) → is_inside root b ≡ false → IsInside root b → ⊥
outside root b e is = false≢true (sym e ∙ (inside_decided root b).1 is)

-- if b is below the root and isn't endOfMibView (`is_inside`), then the test for endOfMibView fails
pub inside_value : (root : List ℕ) (b : VarBind) → is_inside root b ≡ true → is_end b.value ≡ false
inside_value root b i = not-true (is_end b.value) (and_parts (not (is_end b.value)) (is_below b.name root) i).0

pub outside_test : (root : List ℕ) (b : VarBind) → (IsInside root b → ⊥) → is_inside root b ≡ false
outside_test root b h = false_from_ne_true (is_inside root b) (λ e. h ((inside_decided root b).0 e))

pub after_test : (o p : List ℕ) → Precedes o p → comes_after o p ≡ true
after_test o p h = ap is_lt (less_precedes o p h)

-- if `IsRowIfPresent b prefix` holds, then `if_present` computes `prefix`
pub present_is : (b : VarBind) (prefix : List VarBind) → IsRowIfPresent b prefix → prefix ≡ if_present b
present_is b prefix (inl h) = h.1 ∙ sym (ap (λ (t : Bool). cond t [] (b ∷ [])) ((missing_decided b).1 h.0))
present_is b prefix (inr h) = h.1 ∙ sym (ap (λ (t : Bool). cond t [] (b ∷ [])) (miss_test b h.0))

present_by : (b : VarBind) (t : Bool) → t ≡ is_missing b.value → IsRowIfPresent b (cond t [] (b ∷ []))
present_by b true e = inl ((missing_decided b).0 (sym e), refl)
present_by b false e = inr (no_miss b (sym e), refl)

pub present : (b : VarBind) → IsRowIfPresent b (if_present b)
present b = present_by b (is_missing b.value) refl
