-- The rows that a walk returns are ordered, and those after a name are the rest of the walk (`rest_of_walk`, `resumable`).
use Rattle.std.proofs.{lemmas.Grind.common_steps, lemmas.Bool.cond_both, lemmas.Bool.false≢true, lemmas.Bool.false_from_ne_true}
use Rattle.std.proofs.Common.{◌≡◌, inl, inr, ℕ, ◌≤◌, Bool, true, false, cond, List, [], ◌∷◌, ◌++◌, length, refl, sym, ◌∙◌, ap, subst, arith}
use Rattle.std.specs.{Prelude.filter, Ordering.nat_cmp, Ordering.is_lt, Cmp.Lexicographic.slice_cmp, declared.cmp.Ordering.TheVariants.Less}
use Rattle.snmp_oid.specs.Identifier.{IsWire, IsBelow, Precedes, wire}
use Rattle.snmp_wire.specs.Message.{VarBind}
use Rattle.snmp_agent.specs.{table.Table.MibView, table.Table.IsRow, table.Table.IsMibView, table.Table.IsGet, table.Listing.variables}
use Rattle.snmp_walk.specs.{declared.mode.Mode.Mode, Names.is_below, Names.is_missing, Names.comes_after, Walk.rows_below, Walk.rows_after}
use Rattle.snmp_walk.specs.{Walk.or_only, Walk.walk_of, Walk.rest_of, Ordered.AreOrdered, Ordered.IsAtOrBelow, Ordered.IsResumable, Link.OneOf}
use Rattle.snmp_walk.specs.declared.mode.Mode.TheVariants as mode
use Rattle.snmp_walk.proofs.{Members.one_there, Names.below_from_test, Names.test_from_below, SortedRows.get_name}
use Rattle.snmp_walk.proofs.{OneTable.all_after, OneTable.rest_from_wire, SortedRows.AreAfter, SortedRows.AreIncreasing}
use Rattle.snmp_walk.proofs.Names.{less_from_after, after-trans, after-irrefl, less_precedes}
use Rattle.snmp_walk.proofs.Variables.{one_after, kept, keeps, row_in, in_row, variables_rise, variables_are, get_row}

-- if all rows come after x, so do the rows that pass a test
after_kept : (test : VarBind → Bool) (x : List ℕ) (rows : List VarBind) → AreAfter x rows → AreAfter x (filter test rows)
after_kept test x [] h = tt
after_kept test x (q ∷ rows) h = grind (arith, common_steps, after_kept test x rows h.1, cond_both)

rising_kept : (test : VarBind → Bool) (rows : List VarBind) → AreIncreasing rows → AreIncreasing (filter test rows)
rising_kept test [] h = tt
rising_kept test (q ∷ rows) h = grind (arith, common_steps, rising_kept test rows h.1, cond_both, after_kept)

-- sorted rows are ordered
module _ (precedes : (o p : List ℕ) → comes_after o p ≡ true → Precedes o p) where
  pub ordered_from_rising : (rows : List VarBind) → AreIncreasing rows → AreOrdered rows
  ordered_from_rising [] h = tt
  ordered_from_rising (p ∷ rows) h = ((λ q i. precedes p.name q.name (one_after p.name rows q h.0 i)), ordered_from_rising rows h.1)

-- if p comes after o, then o doesn't come after p
not_before : (o p : List ℕ) → comes_after o p ≡ true → comes_after p o ≡ false
not_before o p h = false_from_ne_true (comes_after p o) (λ k. false≢true (sym (after-irrefl o) ∙ after-trans o p o h k))

pub left_after : (p : VarBind) (prefix more : List VarBind) → AreIncreasing (prefix ++ p ∷ more) → rows_after p.name (prefix ++ p ∷ more) ≡ more
left_after p [] more h = rw (after-irrefl p.name) (all_after p.name more h.0)
left_after p (q ∷ prefix) more h = rw (not_before q.name p.name (one_after q.name (prefix ++ p ∷ more) p h.0 (one_there prefix more p)))
    (left_after p prefix more h.1)

left_of : (rows : List VarBind) (p : VarBind) (prefix more : List VarBind) → AreIncreasing rows → rows ≡ prefix ++ p ∷ more → more ≡ rows_after p.name rows
left_of rows p prefix more h e = grind (arith, common_steps, left_after)

-- if p comes after o, then the rows after p are those after p among the rows after o
later_rows : (o p : List ℕ) (rows : List VarBind) → comes_after o p ≡ true → rows_after p (rows_after o rows) ≡ rows_after p rows
later_rows o p [] h = refl
later_rows o p (q ∷ rows) h = grind (arith, common_steps, later_rows o p rows h, cond_both, false_from_ne_true, after-trans)

-- a name of at least three numbers is its own wire form
pub wire_long : (name : List ℕ) → 3 ≤ length name → wire name ≡ name
wire_long (x ∷ y ∷ name) h = refl
wire_long _ h = absurd (omega (arith, h))

pub wire_again : (root : List ℕ) → wire (wire root) ≡ wire root
wire_again [] = refl
wire_again (x ∷ []) = refl
wire_again (x ∷ y ∷ root) = refl

pub wire_at_or_below : (root : List ℕ) → IsAtOrBelow (wire root) root
wire_at_or_below [] = inr (0 ∷ 0 ∷ [], (λ e. cc), refl)
wire_at_or_below (x ∷ []) = inr (0 ∷ [], (λ e. cc), refl)
wire_at_or_below (x ∷ y ∷ root) = inl refl

module _ (view : MibView) (good : IsMibView view) (root : List ℕ) where
  abbrev Below : List VarBind
  Below = rows_below root (variables view)

  below_rise : AreIncreasing Below
  below_rise = rising_kept (λ row. is_below row.name root) (variables view) (variables_rise view good)

  rest_rise : (o : List ℕ) → AreIncreasing (rest_of root o (variables view))
  rest_rise o = rising_kept (λ row. comes_after o row.name) Below below_rise

  pub is_row_below : (p : VarBind) → OneOf Below p → IsRow view p × IsBelow p.name root
  is_row_below p i = grind (arith, common_steps, kept, in_row, below_from_test)

  pub has_row_below : (p : VarBind) → IsRow view p × IsBelow p.name root → OneOf Below p
  has_row_below p h = grind (arith, common_steps, keeps, test_from_below, row_in)

  module _ (precedes : (o p : List ℕ) → slice_cmp nat_cmp o p ≡ Less → Precedes o p) where
    precedes_after : (o p : List ℕ) → comes_after o p ≡ true → Precedes o p
    precedes_after o p e = precedes o p (less_from_after o p e)

    pub is_row_left : (o : List ℕ) (p : VarBind) → OneOf (rest_of root o (variables view)) p → IsRow view p × IsBelow p.name root × Precedes o p.name
    is_row_left o p i =
        let h = kept (λ row. comes_after o row.name) p Below i in
        let here = is_row_below p h.0 in
        (here.0, here.1, precedes_after o p.name h.1)

    pub has_row_left : (o : List ℕ) (p : VarBind) → IsRow view p × IsBelow p.name root × Precedes o p.name → OneOf (rest_of root o (variables view)) p
    has_row_left o p h =
        keeps (λ row. comes_after o row.name) p Below (ap is_lt (less_precedes o p.name h.2)) (has_row_below p (h.0, h.1))

    pub below_ordered : AreOrdered Below
    below_ordered = ordered_from_rising precedes_after Below below_rise

    pub left_ordered : (o : List ℕ) → AreOrdered (rest_of root o (variables view))
    left_ordered o = ordered_from_rising precedes_after (rest_of root o (variables view)) (rest_rise o)

  -- the rows that follow p in the rest of a walk after o are the rest of that walk after the name of p
  pub rest_again : (o : List ℕ) (p : VarBind) (prefix more : List VarBind) → rest_of root o (variables view) ≡ prefix ++ p ∷ more
      → more ≡ rest_of root p.name (variables view)
  rest_again o p prefix more e =
      let one : OneOf (rest_of root o (variables view)) p = subst (λ (s : List VarBind). OneOf s p) (sym e) (one_there prefix more p) in
      let suffix = (kept (λ row. comes_after o row.name) p Below one).1 in
      left_of (rest_of root o (variables view)) p prefix more (rest_rise o) e ∙ later_rows o p.name Below suffix

  rest_below : (p : VarBind) (prefix more : List VarBind) → Below ≡ prefix ++ p ∷ more → more ≡ rest_of root p.name (variables view)
  rest_below p prefix more e = left_of Below p prefix more below_rise e

  rest_only : (got p : VarBind) (prefix more rows : List VarBind) → rows ≡ Below → or_only got rows ≡ prefix ++ p ∷ more
      → more ≡ rest_of root p.name (variables view)
  rest_only got p [] more [] same e = let none : [] ≡ more = cc in sym none ∙ ap (rows_after p.name) same
  rest_only got p (q ∷ []) more [] same e = absurd cc
  rest_only got p (q ∷ r ∷ prefix) more [] same e = absurd cc
  rest_only got p prefix more (q ∷ rows) same e = rest_below p prefix more (sym same ∙ e)

  rest_named : (got p : VarBind) (prefix more : List VarBind) (b : Bool) → got.name ≡ wire root → cond b [] (got ∷ []) ++ Below ≡ prefix ++ p ∷ more
      → more ≡ rest_of root p.name (variables view)
  rest_named got p prefix more true name e = rest_below p prefix more e
  rest_named got p [] more false name e = grind (arith, common_steps, rest_from_wire, variables_are)
  rest_named got p (q ∷ prefix) more false name e = let rest : Below ≡ prefix ++ p ∷ more = cc in rest_below p prefix more rest

  module _ (got : VarBind) (is_got : IsGet view (wire root) got) where
    pub rest_of_walk : (m : Mode) (p : VarBind) (prefix more : List VarBind) → walk_of m root got (variables view) ≡ prefix ++ p ∷ more
        → more ≡ rest_of root p.name (variables view)
    rest_of_walk mode.Plain p prefix more e = rest_only got p prefix more Below refl e
    rest_of_walk mode.Include p prefix more e =
        rest_named got p prefix more (is_missing got.value) (get_name view (wire root) got is_got)
        (ap (λ (s : List VarBind). s ++ Below) (get_row view good (wire root) got is_got) ∙ e)
    rest_of_walk mode.NoLast p prefix more e = rest_below p prefix more e

    module _ (sendable : IsWire (wire root)) where
      at_root : (p : VarBind) → p ≡ got → IsResumable root p.name
      at_root p same =
          let name : p.name ≡ wire root = ap (λ (b : VarBind). b.name) same ∙ get_name view (wire root) got is_got in
          subst (IsResumable root) (sym name) (wire_again root, sendable, wire_at_or_below root)

      below_root : (p : VarBind) → OneOf Below p → IsResumable root p.name
      below_root p i =
          let h = is_row_below p i in
          let name = good.names p h.0 in
          (wire_long p.name name.long, name.wire, inr h.1)

      resumable_only : (p : VarBind) (rows : List VarBind) → rows ≡ Below → OneOf (or_only got rows) p → IsResumable root p.name
      resumable_only p [] same (inl e) = at_root p e
      resumable_only p [] same (inr never) = absurd never
      resumable_only p (q ∷ rows) same i = below_root p (subst (λ (s : List VarBind). OneOf s p) same i)

      resumable_named : (p : VarBind) (b : Bool) → OneOf (cond b [] (got ∷ []) ++ Below) p → IsResumable root p.name
      resumable_named p true i = below_root p i
      resumable_named p false (inl e) = at_root p e
      resumable_named p false (inr i) = below_root p i

      pub resumable : (m : Mode) (p : VarBind) → OneOf (walk_of m root got (variables view)) p → IsResumable root p.name
      resumable mode.Plain p i = resumable_only p Below refl i
      resumable mode.Include p i =
          resumable_named p (is_missing got.value)
          (subst (λ (s : List VarBind). OneOf (s ++ Below) p) (sym (get_row view good (wire root) got is_got)) i)
      resumable mode.NoLast p i = below_root p i
