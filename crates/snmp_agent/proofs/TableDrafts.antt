-- If a draft stores what some lines define, and one more line is added, then it stores what they define together (`holds_more`). Its entries, if they are
-- sorted by increasing names, are the entries of the table (`whole`).
use Rattle.std.proofs.{lemmas.Grind.common_steps, Math.Bool.or-true, lemmas.Bool.or_cases, lemmas.List.Quantifiers.all_pairs_push}
use Rattle.std.proofs.Common.{◌≡◌, Option, is_some, ℕ, ◌⊎◌, inl, inr, ◌↔◌, true, false, cond, ◌||◌, List, [], ◌∷◌, ◌++◌, map, Some, None, refl}
use Rattle.std.proofs.Common.{sym, ◌∙◌, T, ap, Less, get_or, Equal, Greater, Vec, Global, ◌+◌, ◌≤◌, arith}
use Rattle.std.specs.{List.Contains, List.list_any, List.sum_by, List.Sorted.IsPermutation, Ordering.nat_cmp, Ordering.is_eq}
use Rattle.std.specs.{Ordering.eq_by_cmp, Cmp.tied_itself, Cmp.Lexicographic.slice_cmp, Cmp.Lexicographic.nat_list_cmp_total}
use Rattle.std.specs.{FinMap.find, FinMap.is_sorted, FinMap.put, FinMap.Entries.by_order, BTreeSet.insert_key}
use Rattle.std.proofs.lemmas.List.Elements.{All-append, All-cons, All-contains_itself, All-nil, Contains-append_left, Contains-append_right}
use Rattle.std.proofs.lemmas.List.Elements.{Contains-push, Contains-push_cases}
use Rattle.std.proofs.lemmas.List.Sorted.{Contains-permutation, IsPermutation-cons, IsPermutation-refl, IsPermutation-sym, IsPermutation-to_front}
use Rattle.std.proofs.lemmas.List.Sorted.{sum_by-IsPermutation}
use Rattle.std.proofs.lemmas.List.Sums.{get_or-le-sum_by, sum_by-cons, sum_by_push}
use Rattle.snmp_wire.specs.Message.{Datum, VarBind}
use Rattle.snmp_agent.specs.{table.Format.Format, table.Stated.IsDouble, table.Entries.IsBeforeAll, table.Entries.entry_of, table.Entries.var_of}
use Rattle.snmp_agent.specs.table.Form.{Statement, nothing, object_prefix, instance, States}
use Rattle.snmp_agent.specs.table.Text.{AreTable, DifferInName, IsGoodLine, a_blank, a_prefix, a_row}
use Rattle.snmp_agent.specs.private.table.TableBuilder.{AreDistinct, HoldsLines, HoldsTable, has_key}
use Rattle.snmp_agent.proofs.{ChangedEntries.tied, OneStatement.StatesOnly}
use Rattle.snmp_agent.proofs.SortedEntries.{before_all, find-listed, first_of_both, listed_from_find, same_name, second_of_both}

-- ---- entries in any order

counted_itself : (o : List ℕ) (v : Datum) → has_key o (o, v) ≡ 1
counted_itself o v = ap (λ r. cond (is_eq r) 1 0) (tied_itself nat_list_cmp_total o)

-- if `es` contains an entry of the name `o`, then at least one entry is counted for `o`
contained_counts : (o : List ℕ) (v : Datum) (es : List (List ℕ × Datum)) → Contains es (o, v)
    → 1 ≤ sum_by (has_key o) es
contained_counts o v es h =
    let one : has_key o (get_or es h.0 (o, v)) ≡ 1 = ap (has_key o) h.2 ∙ counted_itself o v in
    omega (arith, get_or-le-sum_by (has_key o) es h.0 (o, v) h.1)

nothing_after : (o : List ℕ) (es : List (List ℕ × Datum)) → IsBeforeAll o es
    → sum_by (has_key o) es ≡ 0
nothing_after o [] h = refl
nothing_after o (e ∷ es) h = grind (arith, common_steps, nothing_after o es h.1, sum_by-cons)

pub distinct_moved : (es fs : List (List ℕ × Datum)) → IsPermutation es fs → AreDistinct fs
    → AreDistinct es
distinct_moved es fs moved distinct = λ o.
    omega (arith, sum_by-IsPermutation (has_key o) es fs moved, distinct o)

pub distinct_sorted : (es : List (List ℕ × Datum)) → T (is_sorted (slice_cmp nat_cmp) es)
    → AreDistinct es
distinct_sorted [] rising = λ o. omega arith
distinct_sorted (e ∷ es) rising = λ o.
    let rest : sum_by (has_key o) es ≤ 1 = distinct_sorted es (second_of_both _ _ rising) o in
    let parts : sum_by (has_key o) (e ∷ es) ≡ has_key o e + sum_by (has_key o) es =
    sum_by-cons (has_key o) e es in
    elim (eq_by_cmp (slice_cmp nat_cmp) o e.0) as (λ b. eq_by_cmp (slice_cmp nat_cmp) o e.0 ≡ b
    → sum_by (has_key o) (e ∷ es) ≤ 1) [
      | true ↦ λ is.
          let one : has_key o e ≡ 1 = ap (λ b. cond b 1 0) is in
          let ahead : IsBeforeAll o es = rw (tied o e.0 true is refl) (before_all e.0 es (first_of_both _ _ rising)) in
          let none : sum_by (has_key o) es ≡ 0 = nothing_after o es ahead in omega arith
      | false ↦ λ is. let other : has_key o e ≡ 0 = ap (λ b. cond b 1 0) is in omega arith
    ] refl

-- inserting an entry with a new name results in the same entries as appending it, in another order
pub put_moves : (o : List ℕ) (v : Datum) (es : List (List ℕ × Datum))
    → find (slice_cmp nat_cmp) o es ≡ None
    → IsPermutation (es ++ (o, v) ∷ []) (put (slice_cmp nat_cmp) o v es)
put_moves o v [] absent = IsPermutation-refl ((o, v) ∷ [])
put_moves o v (e ∷ es) absent =
    let later = put (slice_cmp nat_cmp) o v es in
    elim (slice_cmp nat_cmp o e.0) as (λ r. cond (is_eq r) (Some e.1)
    (find (slice_cmp nat_cmp) o es) ≡ None → IsPermutation ((e ∷ es) ++ (o, v) ∷ [])
    (by_order r ((o, v) ∷ e ∷ es) ((e.0, v) ∷ es) (e ∷ later))) [
      | Less ↦ λ _. IsPermutation-to_front (e ∷ es) (o, v)
      | Equal ↦ λ found. (let no : ⊥ = cc in absurd no)
      | Greater ↦ λ rest. IsPermutation-cons e (es ++ (o, v) ∷ []) later (put_moves o v es rest)
    ] absent

-- ---- one more line

-- one of the lines contains the statement `s`: for an instance this is `HasRow`, for an object prefix `HasPrefix`
abbrev IsStated : Format → List (List ℕ) → Statement → Type 0
IsStated format lines s = (line : List ℕ) × Contains lines line × States format line s

stated_before : (format : Format) (before : List (List ℕ)) (line : List ℕ) (s : Statement) → IsStated format before s → IsStated format (before ++ line ∷ []) s
stated_before format before line s h = (h.0, Contains-append_left before (line ∷ []) h.0 h.1, h.2)

stated_now : (format : Format) (before : List (List ℕ)) (line : List ℕ) (s : Statement) → States format line s → IsStated format (before ++ line ∷ []) s
stated_now format before line s h = (line, Contains-append_right before (line ∷ []) line (0, omega arith, refl), h)

stated_either : (format : Format) (before : List (List ℕ)) (line : List ℕ) (s : Statement) → IsStated format (before ++ line ∷ []) s
    → IsStated format before s ⊎ States format line s
stated_either format before line s h =
    elim (Contains-push_cases before line h.0 h.1) [ inl old ↦ inl (h.0, old, h.2) | inr same ↦ inr (rw same h.2) ]

good_statement : (format : Format) (line : List ℕ) (s : Statement) → States format line s → IsGoodLine format line
good_statement format line nothing h = a_blank h
good_statement format line (object_prefix object) h = a_prefix object h
good_statement format line (instance row) h = a_row row h

-- ---- what lines contain

pub holds_no_lines : (format : Format) (es : List (List ℕ × Datum)) (os : List (List ℕ))
    → es ≡ [] → os ≡ [] → HoldsLines format [] es os
holds_no_lines format es os no_entries no_objects = rw (no_entries, no_objects) none where
  none : HoldsLines format [] [] []
  none = record {
    each = All-nil (IsGoodLine format);
    rows = λ p. (λ h. absurd (omega (arith, h.1)), λ h. absurd (omega (arith, h.1.1)));
    differ = λ _ i j d before within. absurd (omega (arith, before, within));
    prefixes = λ o.
        (λ found. (let no : ⊥ = cc in absurd no), λ h. absurd (omega (arith, h.1.1)));
  }

-- if `es` and `os` are the entries and the object prefixes of the lines `before`, then `holds_more` says what they are with `line` after these
module _ (format : Format) (before : List (List ℕ)) (line : List ℕ)
    (es : List (List ℕ × Datum)) (os : List (List ℕ)) (h : HoldsLines format before es os) where
  -- the lines `before`, together with `line`, contain what `before` contain, and what `line` contains
  stated : (s : Statement) → StatesOnly format line s → (t : Statement) {P Q : Type 0} → P ↔ IsStated format before t → Q ↔ (P ⊎ (t ≡ s))
      → Q ↔ IsStated format (before ++ line ∷ []) t
  stated s only t old new = (
    λ q. elim (new.0 q) [
      | inl p ↦ stated_before format before line t (old.0 p)
      | inr same ↦ stated_now format before line t (rw same only.0)
    ],
    λ is. new.1 (elim (stated_either format before line t is) [ inl earlier ↦ inl (old.1 earlier) | inr now ↦ inr (only.1 t now) ]),
  )

  -- `fs` and `more` are the entries and the object prefixes of `before` and `line` if two conditions are met: they are `es` and `os` with what `line` contains;
  -- and if the names in `fs` are distinct, then so are the names in `es`, and none of these is the name of a row on `line`
  holds_more : (s : Statement) → StatesOnly format line s → (fs : List (List ℕ × Datum)) (more : List (List ℕ))
      → ((p : VarBind) → Contains fs (entry_of p) ↔ (Contains es (entry_of p) ⊎ (instance p ≡ s)))
      → ((o : List ℕ) → (list_any (eq_by_cmp (slice_cmp nat_cmp) o) more ≡ true)
      ↔ ((list_any (eq_by_cmp (slice_cmp nat_cmp) o) os ≡ true) ⊎ (object_prefix o ≡ s)))
      → (AreDistinct fs → AreDistinct es × ((p q : VarBind) → instance p ≡ s → Contains es (entry_of q) → q.name ≡ p.name → ⊥))
      → HoldsLines format (before ++ line ∷ []) fs more
  holds_more s only fs more rows prefixes fresh = record {
    each = All-append (IsGoodLine format) before (line ∷ []) h.each (All-cons (IsGoodLine format) line []
        (good_statement format line s only.0) (All-nil (IsGoodLine format)));
    rows = λ p. stated s only (instance p) (h.rows p) (rows p);
    differ = λ distinct. all_pairs_push (DifferInName format) before line (h.differ (fresh distinct).0) (λ k d low row other is_row is_other.
        (fresh distinct).1 other row (only.1 (instance other) is_other)
        ((h.rows row).1 (get_or before k d, All-contains_itself before k d low, is_row)));
    prefixes = λ o. stated s only (object_prefix o) (h.prefixes o) (prefixes o);
  }

  -- if Q never holds, then P holds if and only if P or Q does
  kept : {P Q : Type 0} → (Q → ⊥) → P ↔ (P ⊎ Q)
  kept never = (λ p. inl p, λ either. elim either [ inl p ↦ p | inr q ↦ absurd (never q) ])

  pub holds_nothing : StatesOnly format line nothing
      → HoldsLines format (before ++ line ∷ []) es os
  holds_nothing only =
      holds_more nothing only es os (λ p. kept (λ e. cc)) (λ o. kept (λ e. cc)) (λ distinct. (distinct, λ p q e. absurd (cc)))

  pub holds_object : (object : List ℕ) (more : List (List ℕ))
      → StatesOnly format line (object_prefix object)
      → ((o : List ℕ) → list_any (eq_by_cmp (slice_cmp nat_cmp) o) more
      ≡ (is_eq (slice_cmp nat_cmp o object) || list_any (eq_by_cmp (slice_cmp nat_cmp) o) os))
      → HoldsLines format (before ++ line ∷ []) es more
  holds_object object more only has =
      holds_more (object_prefix object) only es more (λ p. kept (λ e. cc)) has_prefix (λ distinct. (distinct, λ p q e. absurd (cc)))
    where
      has_prefix : (o : List ℕ) → (list_any (eq_by_cmp (slice_cmp nat_cmp) o) more ≡ true)
          ↔ ((list_any (eq_by_cmp (slice_cmp nat_cmp) o) os ≡ true) ⊎ (object_prefix o ≡ object_prefix object))
      has_prefix o = (
        λ found. elim (or_cases _ _ (sym (has o) ∙ found)) [ inl is ↦ inr (ap object_prefix (tied o object true is refl)) | inr old ↦ inl old ],
        λ either. has o ∙ elim either [
          | inl old ↦ rw old (or-true (is_eq (slice_cmp nat_cmp o object)))
          | inr same ↦
              let name : o ≡ object = cc in
              rw name (ap (λ r. is_eq r || list_any (eq_by_cmp (slice_cmp nat_cmp) object) os) (tied_itself nat_list_cmp_total object))
        ],
      )

  pub holds_instance : (p : VarBind) → StatesOnly format line (instance p)
      → HoldsLines format (before ++ line ∷ []) (es ++ entry_of p ∷ []) os
  holds_instance p only = holds_more (instance p) only (es ++ entry_of p ∷ []) os row (λ o. kept (λ e. cc)) fresh
    where
      row : (q : VarBind) → Contains (es ++ entry_of p ∷ []) (entry_of q) ↔ (Contains es (entry_of q) ⊎ (instance q ≡ instance p))
      row q = (
        λ has. elim (Contains-push_cases es (entry_of p) (entry_of q) has) [
          | inl old ↦ inl old
          | inr same ↦ inr (ap (λ e. instance (var_of e)) (sym same))
        ],
        λ either. elim either [
          | inl old ↦ Contains-append_left es (entry_of p ∷ []) (entry_of q) old
          | inr same ↦ let is : q ≡ p = cc in rw is (Contains-push es (entry_of p))
        ],
      )

      fresh : AreDistinct (es ++ entry_of p ∷ [])
          → AreDistinct es × ((r q : VarBind) → instance r ≡ instance p → Contains es (entry_of q) → q.name ≡ r.name → ⊥)
      fresh distinct = (
        λ o. omega (arith, sum_by_push (has_key o) es (entry_of p), distinct o),
        λ r q same has name.
            let is : q.name ≡ p.name = let one : r ≡ p = cc in name ∙ ap (λ (x : VarBind). x.name) one in
            let own : has_key q.name (entry_of p) ≡ 1 = ap (λ o. has_key o (entry_of p)) is ∙ counted_itself p.name p.value in
            omega (arith, contained_counts q.name q.value es has, own, sum_by_push (has_key q.name) es (entry_of p), distinct q.name),
      )

  pub double : (p : VarBind) (v : Datum) → States format line (instance p)
      → Contains es (p.name, v) → IsDouble format before line
  double p v states has =
      let q : VarBind = record { name = p.name; value = v } in
      (p, q, states, (h.rows q).0 has, refl)

-- ---- lines whose rows differ in name

pub good_lines : (format : Format) (lines : List (List ℕ)) (es : List (List ℕ × Datum))
    (os : List (List ℕ)) → HoldsLines format lines es os → AreDistinct es → AreTable format lines
good_lines format lines es os h distinct =
    record { each = h.each; differ = h.differ distinct }

-- if the entries that lines define are sorted by increasing names, then the lines define a table with these entries
pub whole : (format : Format) (lines : List (List ℕ)) (es fs : List (List ℕ × Datum))
    (os : List (List ℕ)) → HoldsLines format lines es os → IsPermutation es fs
    → T (is_sorted (slice_cmp nat_cmp) fs) → HoldsTable format lines fs os
whole format lines es fs os h moved rising = record {
  good = good_lines format lines es os h (distinct_moved es fs moved (distinct_sorted fs rising));
  rising = rising;
  rows = λ p. (
    λ found. (h.rows p).0 (Contains-permutation fs es (entry_of p) (IsPermutation-sym es fs moved) (listed_from_find p.name p.value fs found)),
    λ stated. find-listed (entry_of p) fs rising (Contains-permutation es fs (entry_of p) moved ((h.rows p).1 stated)),
  );
  prefixes = h.prefixes;
}

-- ---- the collections of the draft

pub list_any-insert : (o : List ℕ) (ks : List (Vec ℕ Global)) (k : Vec ℕ Global)
    → list_any (eq_by_cmp (slice_cmp nat_cmp) o) (map (λ x. x.items) (insert_key (λ x y. slice_cmp nat_cmp x.items y.items) ks k))
    ≡ (is_eq (slice_cmp nat_cmp o k.items) || list_any (eq_by_cmp (slice_cmp nat_cmp) o) (map (λ x. x.items) ks))
list_any-insert o [] k = refl
list_any-insert o (x ∷ ks) k = grind (arith, common_steps, list_any-insert o ks k, same_name)

-- ---- the result of a look-up

pub some_of : {X : Type 0} (r : Option X) → is_some r ≡ true → (x : X) × (r ≡ Some x)
some_of r h = grind (arith, common_steps)

pub none_of : {X : Type 0} (r : Option X) → is_some r ≡ false → r ≡ None
none_of r h = grind (arith, common_steps)
