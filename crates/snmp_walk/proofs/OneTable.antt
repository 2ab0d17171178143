-- With one unchanging table, a trail is a prefix of the rows below the root (`part_is`), and at its end all of them (`whole_is`).
use Rattle.std.proofs.Common.{arith, ◌≡◌, inl, inr, ℕ, Bool, true, false, List, [], ◌∷◌, ◌++◌, refl, sym, ◌∙◌, ap, subst, append-nil, append_assoc}
use Rattle.std.proofs.{lemmas.Grind.common_steps, lemmas.Bool.and_parts, lemmas.Bool.cond_both, lemmas.Bool.false≢true}
use Rattle.std.specs.Prelude.{not, filter}
use Rattle.snmp_oid.specs.Identifier.{wire}
use Rattle.snmp_wire.specs.Message.{VarBind}
use Rattle.snmp_walk.specs.{declared.mode.Mode.Mode, Trail.last_name, Trail.IsTrail, Trail.IsAtEnd, private.ComputedStep.if_present, WalkState.WalkState}
use Rattle.snmp_walk.specs.declared.mode.Mode.TheVariants as mode
use Rattle.snmp_walk.specs.Names.{is_below, is_inside, is_end, comes_after}
use Rattle.snmp_walk.specs.Walk.{rows_below, rows_after, rows_named, or_only, walk_of, rest_of, walk_from}
use Rattle.snmp_walk.specs.Progress.{IsOpening, IsAlone, IsPartOfWalk, IsWholeWalk}
use Rattle.snmp_walk.proofs.Names.{after-irrefl, not_after, after-trans, outside_after, below_after_wire}
use Rattle.snmp_walk.proofs.{Trail.trail_begins, Names.inside_decided, Names.outside_test, Names.present_is}
use Rattle.snmp_walk.proofs.SortedRows.{AreAfter, AreIncreasing, AreInstances, or_end, IsOneTable}

-- two filters can be swapped
pub filter-commute : (p q : VarBind → Bool) (xs : List VarBind) → filter p (filter q xs) ≡ filter q (filter p xs)
filter-commute p q [] = refl
filter-commute p q (x ∷ xs) = grind (arith, common_steps, filter-commute p q xs, cond_both)

pub all_after : (o : List ℕ) (rows : List VarBind) → AreAfter o rows → rows_after o rows ≡ rows
all_after o [] h = refl
all_after o (r ∷ rows) h = rw h.0 (ap (λ (s : List VarBind). r ∷ s) (all_after o rows h.1))

pub after_more : (o : List ℕ) (r : VarBind) (rows : List VarBind) → comes_after o r.name ≡ true → AreAfter r.name rows → AreAfter o rows
after_more o r [] e h = tt
after_more o r (q ∷ rows) e h = (after-trans o r.name q.name e h.0, after_more o r rows e h.1)

-- what holds of p, the first of the rows after o, and of `more`, the rows after p
pub record IsFirst (rows : List VarBind) (o : List ℕ) (p : VarBind) (more : List VarBind) : Type 0 where
  pub suffix : rows_after p.name rows ≡ more
  pub after : AreAfter p.name more
  pub comes : comes_after o p.name ≡ true
  pub value : is_end p.value ≡ false

pub first_of_rows : (rows : List VarBind) (o : List ℕ) (p : VarBind) (more : List VarBind) → AreIncreasing rows → AreInstances rows
    → rows_after o rows ≡ p ∷ more → IsFirst rows o p more
first_of_rows [] o p more h i e = absurd cc
first_of_rows (r ∷ rows) o p more h i e =
    cond_both (comes_after o r.name) (r ∷ rows_after o rows) (rows_after o rows) (λ s. s ≡ p ∷ more → IsFirst (r ∷ rows) o p more)
    (λ comes same.
    let first : r ≡ p = cc in
    let all : rows_after o rows ≡ rows = all_after o rows (after_more o r rows comes h.0) in
    let rest : rows ≡ more = cc in
    subst (λ (s : List VarBind). IsFirst (r ∷ rows) o p s) rest (subst (λ (q : VarBind). IsFirst (r ∷ rows) o q rows) first
    (record { suffix = rw (after-irrefl r.name) (all_after r.name rows h.0); after = h.0; comes = comes; value = i.1 })))
    (λ later same.
    let f = first_of_rows rows o p more h.1 i.3 same in
    record { suffix = rw (not_after o p.name r.name f.comes later) f.suffix; after = f.after; comes = f.comes; value = f.value }) e

-- if p comes after the root or a name below it, and isn't below the root, then no row after p is below the root
none_below : (root s : List ℕ) (p : VarBind) (more : List VarBind) → comes_after (root ++ s) p.name ≡ true → is_below p.name root ≡ false
    → AreAfter p.name more → rows_below root more ≡ []
none_below root s p [] c out h = refl
none_below root s p (q ∷ more) c out h = rw (outside_after root s p.name q.name c out h.0) (none_below root s p more c out h.1)

module _ (rows : List VarBind) (rising : AreIncreasing rows) (instances : AreInstances rows) (root : List ℕ) where
  after_below : (o : List ℕ) → rest_of root o rows ≡ rows_below root (rows_after o rows)
  after_below o = filter-commute (λ row. comes_after o row.name) (λ row. is_below row.name root) rows

  -- if p, the answer to a GetNext of o, is an instance below the root, it is the next row of the rest of the walk after o
  pub rest_next : (o : List ℕ) (p : VarBind) (suffix : List VarBind) → suffix ≡ rows_after o rows → p ≡ or_end o suffix → is_inside root p ≡ true
      → rest_of root o rows ≡ p ∷ rest_of root p.name rows
  rest_next o p [] e is inside = let out : is_inside root p ≡ false = ap (is_inside root) is in absurd (false≢true (sym out ∙ inside))
  rest_next o p (q ∷ more) e is inside =
      let first = first_of_rows rows o q more rising instances (sym e) in
      let here : rows_after p.name rows ≡ more = ap (λ (r : VarBind). rows_after r.name rows) is ∙ first.suffix in
      let below : is_below p.name root ≡ true = (and_parts (not (is_end p.value)) (is_below p.name root) inside).1 in
      after_below o ∙ ap (rows_below root) (sym e ∙ ap (λ (r : VarBind). r ∷ more) (sym is))
      ∙ rw below (ap (λ (s : List VarBind). p ∷ s) (ap (rows_below root) (sym here) ∙ sym (after_below p.name)))

  -- if o is the root or a name below it, and p, the answer to a GetNext of o, isn't an instance below the root, then no row of the walk is left after o
  pub rest_ends : (o s : List ℕ) (p : VarBind) (suffix : List VarBind) → o ≡ root ++ s → suffix ≡ rows_after o rows → p ≡ or_end o suffix
      → is_inside root p ≡ false
      → rest_of root o rows ≡ []
  rest_ends o s p [] at e is out = after_below o ∙ ap (rows_below root) (sym e)
  rest_ends o s p (q ∷ more) at e is out =
      let first = first_of_rows rows o q more rising instances (sym e) in
      let out_q : is_below q.name root ≡ false = rw first.value at (ap (is_inside root) (sym is) ∙ out) in
      let comes : comes_after (root ++ s) q.name ≡ true = ap (λ (n : List ℕ). comes_after n q.name) (sym at) ∙ first.comes in
      after_below o ∙ ap (rows_below root) (sym e) ∙ rw out_q (none_below root s q more comes out_q first.after)

-- a prefix of the rows is a prefix of what a plain walk returns
or_only_prefix : (got : VarBind) (xs ys : List VarBind) → (more : List VarBind) × (or_only got (xs ++ ys) ≡ xs ++ more)
or_only_prefix got [] ys = (or_only got ys, refl)
or_only_prefix got (x ∷ xs) ys = (ys, refl)

or_only_some : (got : VarBind) (xs : List VarBind) → (xs ≡ [] → ⊥) → or_only got xs ≡ xs
or_only_some got [] some = absurd (some refl)
or_only_some got (x ∷ xs) some = refl

module _ (rows : List VarBind) (got : VarBind) (Next Got : List ℕ → VarBind → Type 0) (first : WalkState) (table : IsOneTable rows got Next Got first)
    (s : List ℕ) (begins : first.asked ≡ first.root ++ s) where
  -- if `trail` is a trail from the name o, the rest of the walk after o is `trail`, and then the rest of the walk after the last name of `trail`
  pub trail_rest : (o : List ℕ) (trail : List VarBind) → IsTrail Next first.root o trail
      → rest_of first.root o rows ≡ trail ++ rest_of first.root (last_name o trail) rows
  trail_rest o [] h = refl
  trail_rest o (p ∷ trail) h =
      rest_next rows table.rising table.instances first.root o p (rows_after o rows) refl (table.next o p h.0)
      ((inside_decided first.root p).1 h.1)
      ∙ ap (λ (t : List VarBind). p ∷ t) (trail_rest p.name trail h.2)

  -- if a trail from the name that the walk begins from can end the walk (`IsAtEnd`), it is all of the rest of the walk after this name
  trail_ends : (trail : List VarBind) → IsTrail Next first.root first.asked trail → IsAtEnd Next first.root (last_name first.asked trail)
      → rest_of first.root first.asked rows ≡ trail
  trail_ends trail h end =
      let at = trail_begins Next first.root first.asked s trail begins h in
      let none = rest_ends rows table.rising table.instances first.root (last_name first.asked trail) at.0 end.0 (rows_after
      (last_name first.asked trail) rows) at.1 refl (table.next _ _ end.1) (outside_test first.root end.0 end.2) in
      trail_rest first.asked trail h ∙ ap (λ (t : List VarBind). trail ++ t) none ∙ append-nil trail

  abbrev All : List VarBind
  All = walk_from first.mode first.root first.asked got rows

  abbrev Of : Mode → List VarBind
  Of m = walk_from m first.root first.asked got rows

  row_of : (p : VarBind) → Got first.asked p → if_present p ≡ rows_named first.asked rows
  row_of p h = ap if_present (table.answer p h) ∙ table.row

  part_given : (m : Mode) (prefix trail : List VarBind) → IsOpening Got m first.asked prefix → IsTrail Next first.root first.asked trail
      → (more : List VarBind) × (Of m ≡ (prefix ++ trail) ++ more)
  part_given mode.Plain prefix trail opening h =
      let more = or_only_prefix got trail (rest_of first.root (last_name first.asked trail) rows) in
      (more.0, ap (or_only got) (trail_rest first.asked trail h) ∙ more.1 ∙ ap (λ (f : List VarBind). (f ++ trail) ++ more.0) (sym opening))
  part_given mode.Include prefix trail opening h =
      let rest = rest_of first.root (last_name first.asked trail) rows in (
        rest,
        ap (λ (f : List VarBind). f ++ rest_of first.root first.asked rows) (sym (row_of opening.0 opening.1) ∙ sym (present_is opening.0 prefix opening.2))
            ∙ ap (λ (t : List VarBind). prefix ++ t) (trail_rest first.asked trail h) ∙ sym (append_assoc prefix trail rest),
      )
  part_given mode.NoLast prefix trail opening h =
      let rest = rest_of first.root (last_name first.asked trail) rows in
      (rest, trail_rest first.asked trail h ∙ ap (λ (f : List VarBind). (f ++ trail) ++ rest) (sym opening))

  alone_whole : (given : List VarBind) → IsAlone Next Got first given → All ≡ given
  alone_whole given h =
      ap (λ (m : Mode). Of m) h.plain ∙ ap (or_only got) (trail_ends [] tt h.none) ∙ ap (λ (p : VarBind). p ∷ []) (sym (table.answer h.answer h.is_answer))
      ∙ sym h.only

  whole_given : (m : Mode) (prefix trail : List VarBind) → IsOpening Got m first.asked prefix → IsTrail Next first.root first.asked trail
      → IsAtEnd Next first.root (last_name first.asked trail) → (m ≡ mode.Plain → prefix ++ trail ≡ [] → ⊥) → Of m ≡ prefix ++ trail
  whole_given mode.Plain prefix trail opening h end some = grind (arith, common_steps, trail_ends, or_only_some)
  whole_given mode.Include prefix trail opening h end some = grind (arith, common_steps, row_of, present_is, trail_ends)
  whole_given mode.NoLast prefix trail opening h end some = grind (arith, common_steps, trail_ends)

  -- if rows are a part of a walk, then they are a prefix of the walk of the table
  pub part_is : (given : List VarBind) → IsPartOfWalk Next Got first given
      → (more : List VarBind) × (walk_from first.mode first.root first.asked got rows ≡ given ++ more)
  part_is given (inl none) = (All, ap (λ (g : List VarBind). g ++ All) (sym none))
  part_is given (inr (inl h)) = grind (arith, common_steps, part_given)
  part_is given (inr (inr h)) = ([], alone_whole given h ∙ sym (append-nil given))

  -- if rows are a whole walk, then they are the walk of the table
  pub whole_is : (given : List VarBind) → IsWholeWalk Next Got first given → given ≡ walk_from first.mode first.root first.asked got rows
  whole_is given (inl h) = grind (arith, common_steps, whole_given)
  whole_is given (inr h) = sym (alone_whole given h)

-- if the rows are instances, those below the root that come after its wire form are all rows below it
pub rest_from_wire : (root : List ℕ) (rows : List VarBind) → AreInstances rows → rest_of root (wire root) rows ≡ rows_below root rows
rest_from_wire root [] h = refl
rest_from_wire root (r ∷ rows) h = grind (arith, common_steps, rest_from_wire root rows h.3, cond_both, below_after_wire)

-- if the rows are instances, a walk from the root's wire form is the walk of the root
pub walk_from_wire : (m : Mode) (root : List ℕ) (got : VarBind) (rows : List VarBind) → AreInstances rows
    → walk_from m root (wire root) got rows ≡ walk_of m root got rows
walk_from_wire mode.Plain root got rows h = ap (or_only got) (rest_from_wire root rows h)
walk_from_wire mode.Include root got rows h = ap (λ (t : List VarBind). rows_named (wire root) rows ++ t) (rest_from_wire root rows h)
walk_from_wire mode.NoLast root got rows h = rest_from_wire root rows h
