-- With several tables, each row below the root that a walk returns is from one of them, and no name that all tables have is skipped.
use Rattle.std.proofs.{lemmas.Grind.common_steps, lemmas.Bool.false≢true, lemmas.Bool.false_from_ne_true}
use Rattle.std.proofs.Common.{◌≡◌, ◌⊎◌, inl, inr, ℕ, ◌≤◌, Bool, true, false, List, [], ◌∷◌, ◌++◌, length, refl, sym, ◌∙◌, ap, subst, arith}
use Rattle.std.proofs.Common.{length-append}
use Rattle.std.specs.{Prelude.not, Prelude.◌&&◌, Prelude.◌≢◌, Ordering.nat_cmp, Ordering.is_lt, Ordering.is_eq, Ordering.ordering_reverse}
use Rattle.std.specs.{Cmp.Lexicographic.slice_cmp, Cmp.Lexicographic.nat_list_cmp_total, declared.cmp.Ordering.Ordering}
use Rattle.std.specs.declared.cmp.Ordering.TheVariants.{Less, Equal, Greater}
use Rattle.snmp_oid.specs.Identifier.{IsBelow, Precedes}
use Rattle.snmp_wire.specs.Message.{VarBind}
use Rattle.snmp_agent.specs.table.Table.{MibView, IsRow, IsMibView, IsGet, variable, unknown_object, unknown_instance, IsSuccessor, IsNext, successor}
use Rattle.snmp_agent.specs.table.Table.{end_of_view}
use Rattle.snmp_walk.specs.{declared.mode.Mode.Mode, Trail.last_name, Trail.IsTrail, Trail.IsAtEnd, WalkState.WalkState, Run.IsNameIn, private.Codec.Codec}
use Rattle.snmp_walk.specs.declared.mode.Mode.TheVariants as mode
use Rattle.snmp_walk.specs.Names.{is_below, is_end, is_missing, comes_after}
use Rattle.snmp_walk.specs.Progress.{IsOpening, HasReturned, IsPartOfWalk, IsWholeWalk}
use Rattle.snmp_walk.specs.Link.{Agents, OneOf, IsNextFrom, IsGotFrom, IsTooLarge, AreViews}
use Rattle.snmp_walk.specs.Tables.{IsBelowRoot, IsOfWalk, IsFromTable, AreFromTables, HasName, IsInEach, OccursOnce, HoldsNames}
use Rattle.snmp_walk.proofs.Names.{outside_after, test_from_below, after_test, end_test, outside_test, miss_test, no_miss}
use Rattle.snmp_walk.proofs.{Trail.trail_begins, StepProgress.opening_last, Members.one_append, Members.split_at}
use Rattle.snmp_walk.proofs.{Runs.named_more, Runs.named_after, Progress.trail_rises, Progress.part_rises}
use Rattle.snmp_walk.proofs.SortedRows.{AreAfter, AreIncreasing, AreLawfulReplies, views_answer, view_of, value_no_end, value_no_miss}
use Rattle.snmp_walk.proofs.Variables.{after_precedes, tie_is, one_after, not_itself, row_none}

-- ---- lists of names

name_after : (o : List ℕ) (rows : List VarBind) (name : List ℕ) → AreAfter o rows → IsNameIn rows name → comes_after o name ≡ true
name_after o [] name h i = absurd i
name_after o (q ∷ rows) name h (inl e) = ap (comes_after o) e ∙ h.0
name_after o (q ∷ rows) name h (inr i) = name_after o rows name h.1 i

-- in sorted rows, each name occurs at most once
pub once : (rows : List VarBind) (name : List ℕ) → AreIncreasing rows → IsNameIn rows name → OccursOnce rows name
once [] name h i = absurd i
once (p ∷ rows) name h (inl e) = record {
  before = [];
  binding = p;
  suffix = rows;
  parts = refl;
  named = sym e;
  not_before = λ x. x;
  not_after_it = λ i. not_itself p.name name (name_after p.name rows name h.0 i) e;
}
once (p ∷ rows) name h (inr i) =
    let r = once rows name h.1 i in
    record {
      before = p ∷ r.before;
      binding = r.binding;
      suffix = r.suffix;
      parts = ap (λ (s : List VarBind). p ∷ s) r.parts;
      named = r.named;
      not_before = elim [ inl e ↦ not_itself p.name name (name_after p.name rows name h.0 i) e | inr j ↦ r.not_before j ];
      not_after_it = r.not_after_it;
    }

-- if y is in a list that contains x, and y isn't x, then y is still in the list once that x is removed
without : (prefix back : List (List ℕ)) (x y : List ℕ) → OneOf (prefix ++ x ∷ back) y → (y ≡ x → ⊥) → OneOf (prefix ++ back) y
without [] back x y (inl e) other = absurd (other e)
without [] back x y (inr one) other = one
without (z ∷ prefix) back x y (inl e) other = inl e
without (z ∷ prefix) back x y (inr one) other = inr (without prefix back x y one other)

-- if the list `names` has the name of each of the sorted rows, there are at most as many rows as names
pub few_names : (rows : List VarBind) (names : List (List ℕ)) → AreIncreasing rows → ((p : VarBind) → OneOf rows p → OneOf names p.name)
    → length rows ≤ length names
few_names [] names h each = omega arith
few_names (p ∷ rows) names h each =
    let split = split_at names p.name (each p (inl refl)) in
    let rest = few_names rows (split.0 ++ split.1) h.1 (λ q one.
    without split.0 split.1 p.name q.name (subst (λ (s : List (List ℕ)). OneOf s q.name) split.2 (each q (inr one)))
    (not_itself p.name q.name (one_after p.name rows q h.0 one))) in
    omega (arith, rest, ap length split.2, length-append split.0 (p.name ∷ split.1), length-append split.0 split.1)

-- ---- answers of a table

pub row_of_next : (view : MibView) (o : List ℕ) (p : VarBind) → IsNext view o p → is_end p.value ≡ false → IsRow view p
row_of_next view o p (successor s) e = s.row
row_of_next view o p (end_of_view none is) e = absurd (false≢true (sym e ∙ ap (λ (b : VarBind). is_end b.value) is))

row_of_get : (view : MibView) (o : List ℕ) (p : VarBind) → IsGet view o p → is_missing p.value ≡ false → IsRow view p
row_of_get view o p (variable e row) v = row
row_of_get view o p (unknown_object none unknown is) v = absurd (false≢true (sym v ∙ ap (λ (b : VarBind). is_missing b.value) is))
row_of_get view o p (unknown_instance none has is) v = absurd (false≢true (sym v ∙ ap (λ (b : VarBind). is_missing b.value) is))

-- if the table has the name, a Get of it returns a value
present_of_get : (view : MibView) → IsMibView view → (o : List ℕ) (p : VarBind) → IsGet view o p → HasName view o → is_missing p.value ≡ false
present_of_get view good o p (variable e row) h = value_no_miss p.value (good.values p row)
present_of_get view good o p (unknown_object none unknown is) h = absurd (row_none view good o h.0 h.2 h.1 none)
present_of_get view good o p (unknown_instance none has is) h = absurd (row_none view good o h.0 h.2 h.1 none)

-- if the table has a row after o, the answer to a GetNext of o is the first such row
successor_of : Codec → (view : MibView) (o n : List ℕ) (p : VarBind) → IsNext view o p → HasName view n → comes_after o n ≡ true → IsSuccessor view o p
successor_of codec view o n p (successor s) h a = s
successor_of codec view o n p (end_of_view none is) h a =
    absurd (none h.0 h.1 (subst (Precedes o) (sym h.2) (after_precedes codec o n a)))

-- if the table has the name n, and n comes after o, then the answer to a GetNext of o has the name n or a name before n
up_to : Codec → (view : MibView) (o n : List ℕ) (p : VarBind) → IsNext view o p → HasName view n → comes_after o n ≡ true
    → (n ≡ p.name) ⊎ (comes_after p.name n ≡ true)
up_to codec view o n p next h a = by_order (slice_cmp nat_cmp p.name n) refl
  where
    by_order : (r : Ordering) → slice_cmp nat_cmp p.name n ≡ r → (n ≡ p.name) ⊎ (comes_after p.name n ≡ true)
    by_order Less e = inr (ap is_lt e)
    by_order Equal e = inl (sym (tie_is p.name n (ap is_eq e)))
    by_order Greater e =
        let s = successor_of codec view o n p next h a in
        let less : slice_cmp nat_cmp n p.name ≡ Less = nat_list_cmp_total.antisymm n p.name ∙ ap ordering_reverse e in
        absurd (s.nearest h.0 h.1 (subst (Precedes o) (sym h.2) (after_precedes codec o n a))
        (subst (λ (x : List ℕ). Precedes x p.name) (sym h.2) (after_precedes codec n p.name (ap is_lt less))))

module _ (codec : Codec) (agents : Agents) (views : AreViews agents.tables) (first : WalkState) (s : List ℕ) (begins : first.asked ≡ first.root ++ s) where
  abbrev Next : List ℕ → VarBind → Type 0
  Next = IsNextFrom agents

  abbrev Got : List ℕ → VarBind → Type 0
  Got = IsGotFrom agents

  laws : AreLawfulReplies Next Got
  laws = views_answer agents views

  -- ---- each row that a walk returns is from a table

  trail_rows : (o : List ℕ) (trail : List VarBind) → IsTrail Next first.root o trail → (p : VarBind) → OneOf trail p
      → (view : MibView) × OneOf agents.tables view × IsRow view p × IsBelow p.name first.root
  trail_rows o [] h p one = absurd one
  trail_rows o (q ∷ trail) h p (inl e) = rw e (h.0.0, h.0.1, row_of_next h.0.0 o q h.0.2 (end_test q.value h.1.value), h.1.below)
  trail_rows o (q ∷ trail) h p (inr one) = trail_rows q.name trail h.2 p one

  trail_from : (trail : List VarBind) → IsTrail Next first.root first.asked trail → (p : VarBind) → OneOf trail p
      → (view : MibView) × OneOf agents.tables view × IsRow view p × IsBelowRoot first p.name
  trail_from trail h p one =
      let row = trail_rows first.asked trail h p one in
      let rises = trail_rises Next Got laws first.root first.asked trail h in
      (row.0, row.1, row.2, (row.3, after_precedes codec first.asked p.name (one_after first.asked trail p rises.0 one)))

  opening_from : (m : Mode) → first.mode ≡ m → (prefix : List VarBind) → IsOpening Got m first.asked prefix → (p : VarBind) → OneOf prefix p
      → IsFromTable agents first p
  opening_from mode.Include is prefix (q, got, inl none) p one = absurd (subst (λ (f : List VarBind). OneOf f p) none.1 one)
  opening_from mode.Include is prefix (q, got, inr some) p one = elim (subst (λ (f : List VarBind). OneOf f p) some.1 one) [
    | inl same ↦ subst (IsFromTable agents first) (sym same)
        (got.0, got.1, row_of_get got.0 first.asked q got.2 (miss_test q some.0), inr (is, laws.same_name first.asked q got))
    | inr never ↦ absurd never
  ]
  opening_from _ is prefix none p one = absurd (subst (λ (f : List VarBind). OneOf f p) none one)

  pub part_from : (given : List VarBind) → IsPartOfWalk Next Got first given → AreFromTables agents first given
  part_from given (inl none) = inl (λ p one. absurd (subst (λ (f : List VarBind). OneOf f p) none one))
  part_from given (inr (inl (o, g))) = inl (λ p one. elim (one_append g.prefix g.trail p (subst (λ (f : List VarBind). OneOf f p) g.parts one)) [
    | inl prefix ↦ opening_from first.mode refl g.prefix g.opening p prefix
    | inr trail ↦ let row = trail_from g.trail g.is_trail p trail in (row.0, row.1, row.2, inl row.3)
  ])
  part_from given (inr (inr a)) = inr (a.plain, a.answer, a.only, a.is_answer)

  -- if `names` has each name of the tables below the root, a trail has at most as many rows as `names` has items
  pub few_rows : (names : List (List ℕ)) → HoldsNames agents first names → (trail : List VarBind) → IsTrail Next first.root first.asked trail
      → length trail ≤ length names
  few_rows names all trail h =
      let rises = trail_rises Next Got laws first.root first.asked trail h in
      few_names trail names rises.1 (λ p one. let row = trail_from trail h p one in all row.0 row.1 p row.2 row.3)

  -- ---- no name that all tables have is skipped

  trail_has : (o n : List ℕ) (trail : List VarBind) → IsTrail Next first.root o trail → comes_after o n ≡ true
      → comes_after (last_name o trail) n ≡ false → IsInEach agents n → IsNameIn trail n
  trail_has o n [] h a b each = absurd (false≢true (sym b ∙ a))
  trail_has o n (p ∷ trail) h a b each =
      elim (up_to codec h.0.0 o n p h.0.2 (each h.0.0 h.0.1) a) [ inl e ↦ inl e | inr c ↦ inr (trail_has p.name n trail h.2 c b each) ]

  -- for o that is the root or below it: if a GetNext of o may return a binding that ends the walk, no name below the root that all tables have comes after o
  end_before : (o u : List ℕ) → o ≡ first.root ++ u → IsAtEnd Next first.root o → (n : List ℕ) → IsBelow n first.root
      → IsInEach agents n → comes_after o n ≡ false
  end_before o u at end n below each =
      false_from_ne_true (comes_after o n) (λ a.
      let p = end.0 in
      let next = end.1 in
      let has = each next.0 next.1 in
      let s = successor_of codec next.0 o n p next.2 has a in
      let value : is_end p.value ≡ false = value_no_end p.value ((view_of agents.tables views next.0 next.1).values p s.row) in
      let out : is_below p.name first.root ≡ false =
      sym (ap (λ (b : Bool). not b && is_below p.name first.root) value) ∙ outside_test first.root p end.2 in
      let comes : comes_after (first.root ++ u) p.name ≡ true = ap (λ (x : List ℕ). comes_after x p.name) (sym at) ∙ laws.rises o p next value in
      let outside : is_below n first.root ≡ false = elim (up_to codec next.0 o n p next.2 has a) [
        | inl e ↦ ap (λ (x : List ℕ). is_below x first.root) e ∙ out
        | inr c ↦ outside_after first.root u p.name n comes out c
      ] in
      false≢true (sym outside ∙ test_from_below first.root n below))

  -- a walk that includes its root returns the root's own instance if all tables have one
  opening_has : (m : Mode) (prefix : List VarBind) → m ≡ mode.Include → IsOpening Got m first.asked prefix → IsInEach agents first.asked
      → IsNameIn prefix first.asked
  opening_has mode.Include prefix is (q, got, inl missing) each = grind (arith, common_steps, present_of_get, view_of, no_miss)
  opening_has mode.Include prefix is (q, got, inr some) each = grind (arith, common_steps, laws)
  opening_has _ prefix is h each = absurd cc

  given_has : (given : List VarBind) (o : List ℕ) → HasReturned Next Got first given o → (name : List ℕ)
      → IsOfWalk first name → (IsBelowRoot first name → comes_after o name ≡ false) → IsInEach agents name → IsNameIn given name
  given_has given o g name (inl below) passed each = grind (arith, common_steps, named_after, trail_has, after_test)
  given_has given o g name (inr root) passed each = grind (arith, common_steps, opening_has, named_more)

  pub common_in : (given : List VarBind) → IsPartOfWalk Next Got first given → (name : List ℕ) → IsOfWalk first name → IsInEach agents name → given ≢ []
      → comes_after (last_name first.asked given) name ≡ false → IsNameIn given name
  common_in given (inl none) name of each some passed = absurd (some none)
  common_in given (inr (inl (o, g))) name of each some passed =
      let at : last_name first.asked given ≡ o = ap (last_name first.asked) g.parts
      ∙ opening_last Next Got (IsTooLarge agents) laws first first.mode first.asked g.prefix g.trail g.opening ∙ sym g.last in
      given_has given o g name of (λ below. ap (λ (x : List ℕ). comes_after x name) (sym at) ∙ passed) each
  common_in given (inr (inr a)) name (inl below) each some passed = grind (arith, common_steps, laws, after_test)
  common_in given (inr (inr a)) name (inr root) each some passed = absurd cc

  pub common_in_whole : (given : List VarBind) → IsWholeWalk Next Got first given → (name : List ℕ) → IsOfWalk first name
      → IsInEach agents name → IsNameIn given name
  common_in_whole given (inl w) name of each =
      let g = w.1 in
      let begin = trail_begins Next first.root first.asked s g.trail begins g.is_trail in
      given_has given w.0 g name of (λ below. end_before w.0 begin.0 (g.last ∙ begin.1) w.2 name below.0 each) each
  common_in_whole given (inr a) name (inl below) each =
      absurd (false≢true (sym (end_before first.asked s begins a.none name below.0 each) ∙ after_test first.asked name below.1))
  common_in_whole given (inr a) name (inr root) each = absurd cc

  pub rises : (given : List VarBind) → IsPartOfWalk Next Got first given → AreIncreasing given
  rises given h = part_rises Next Got laws first given h

pub whole_some : (Next Got : List ℕ → VarBind → Type 0) (first : WalkState) (given : List VarBind) → IsWholeWalk Next Got first given
    → first.mode ≡ mode.Plain → given ≢ []
whole_some Next Got first given (inl w) plain = w.3 plain
whole_some Next Got first given (inr a) plain = λ none. cc (sym a.only ∙ none)
