-- The names that a walk has returned increase (`part_rises`), and a prefix of a part of a walk is a part of it too (`part_prefix`).
use Rattle.std.proofs.{lemmas.Grind.common_steps}
use Rattle.std.proofs.Common.{◌≡◌, ◌⊎◌, inl, inr, ℕ, true, false, List, [], ◌∷◌, ◌++◌, refl, sym, ◌∙◌, ap, subst, arith, append-nil}
use Rattle.snmp_wire.specs.Message.{VarBind}
use Rattle.snmp_walk.specs.{declared.mode.Mode.Mode, Names.is_end, Names.comes_after, Trail.last_name, Trail.IsTrail, WalkState.WalkState}
use Rattle.snmp_walk.specs.declared.mode.Mode.TheVariants as mode
use Rattle.snmp_walk.specs.Progress.{IsOpening, HasReturned, IsAlone, IsPartOfWalk}
use Rattle.snmp_walk.proofs.{Moves.nil_prefix, OneTable.after_more, Names.end_test}
use Rattle.snmp_walk.proofs.SortedRows.{AreAfter, AreIncreasing, AreLawfulReplies}

module _ (Next Got : List ℕ → VarBind → Type 0) (laws : AreLawfulReplies Next Got) (root : List ℕ) where
  -- the names of a trail increase, from the name before it on
  pub trail_rises : (o : List ℕ) (trail : List VarBind) → IsTrail Next root o trail → AreAfter o trail × AreIncreasing trail
  trail_rises o [] h = (tt, tt)
  trail_rises o (p ∷ trail) h =
      let value : is_end p.value ≡ false = end_test p.value h.1.value in
      let comes : comes_after o p.name ≡ true = laws.rises o p h.0 value in
      let rest = trail_rises p.name trail h.2 in
      ((comes, after_more o p trail comes rest.0), rest)

  opening_rises : (m : Mode) (o : List ℕ) (prefix trail : List VarBind) → IsOpening Got m o prefix → AreAfter o trail × AreIncreasing trail
      → AreIncreasing (prefix ++ trail)
  opening_rises mode.Include o prefix trail (p, got, inl is) h = rw is.1 h.1
  opening_rises mode.Include o prefix trail (p, got, inr is) h = rw (is.1, laws.same_name o p got) h
  opening_rises _ o prefix trail none h = rw none h.1

pub part_rises : (Next Got : List ℕ → VarBind → Type 0) → AreLawfulReplies Next Got → (first : WalkState) (given : List VarBind)
    → IsPartOfWalk Next Got first given → AreIncreasing given
part_rises Next Got laws first given (inl none) = rw none tt
part_rises Next Got laws first given (inr (inl (o, g))) = grind (arith, common_steps, opening_rises, trail_rises)
part_rises Next Got laws first given (inr (inr h)) = rw h.only (tt, tt)

-- the prefixes of a list of one element are the empty list and itself
one_prefix : (p : VarBind) (xs ys : List VarBind) → p ∷ [] ≡ xs ++ ys → (xs ≡ []) ⊎ (xs ≡ p ∷ [])
one_prefix p [] ys e = inl refl
one_prefix p (x ∷ []) ys e = let same : x ≡ p = cc in inr (ap (λ (q : VarBind). q ∷ []) same)
one_prefix p (x ∷ y ∷ xs) ys e = absurd cc

-- if a list is cut in two ways, one of the first parts is a prefix of the other
two_cuts : (xs ys prefix trail : List VarBind) → xs ++ ys ≡ prefix ++ trail
    → ((rest : List VarBind) × (prefix ≡ xs ++ rest)) ⊎ ((more : List VarBind) × (xs ≡ prefix ++ more) × (trail ≡ more ++ ys))
two_cuts [] ys prefix trail e = inl (prefix, refl)
two_cuts (x ∷ xs) ys [] trail e = inr (x ∷ xs, refl, sym e)
two_cuts (x ∷ xs) ys (f ∷ prefix) trail e =
    let same : x ≡ f = cc in
    let rest : xs ++ ys ≡ prefix ++ trail = cc in
    elim (two_cuts xs ys prefix trail rest) [ inl h ↦ inl (h.0, (let e1 = h.1 in cc)) | inr h ↦ inr (h.0, (let e1 = h.1 in cc), h.2) ]

trail_prefix : (Next : List ℕ → VarBind → Type 0) (root o : List ℕ) (xs ys : List VarBind) → IsTrail Next root o (xs ++ ys) → IsTrail Next root o xs
trail_prefix Next root o [] ys h = tt
trail_prefix Next root o (x ∷ xs) ys h = (h.0, h.1, trail_prefix Next root x.name xs ys h.2)

module _ (Next Got : List ℕ → VarBind → Type 0) (first : WalkState) where
  opening_prefix : (m : Mode) (xs rest prefix : List VarBind) → IsOpening Got m first.asked prefix → prefix ≡ xs ++ rest → (xs ≡ []) ⊎ (xs ≡ prefix)
  opening_prefix mode.Include xs rest prefix (p, got, inl none) e = inl (nil_prefix xs rest (sym none.1 ∙ e))
  opening_prefix mode.Include xs rest prefix (p, got, inr some) e = grind (arith, common_steps, one_prefix)
  opening_prefix _ xs rest prefix none e = inl (nil_prefix xs rest (sym none ∙ e))

  -- if a walk has returned `xs ++ ys`, then `xs` is a prefix of what it may return, wherever the opening ends
  given_prefix : (xs ys : List VarBind) (o : List ℕ) (g : HasReturned Next Got first (xs ++ ys) o)
      → ((rest : List VarBind) × (g.prefix ≡ xs ++ rest)) ⊎ ((more : List VarBind) × (xs ≡ g.prefix ++ more) × (g.trail ≡ more ++ ys))
      → IsPartOfWalk Next Got first xs
  given_prefix xs ys o g (inl h) = elim (opening_prefix first.mode xs h.0 g.prefix g.opening h.1) [
    | inl none ↦ inl none
    | inr whole ↦ inr (inl (
      first.asked,
      record { prefix = g.prefix; trail = []; parts = whole ∙ sym (append-nil g.prefix); opening = g.opening; is_trail = tt; last = refl },
    ))
  ]
  given_prefix xs ys o g (inr h) =
      inr (inl (
        last_name first.asked h.0,
        record {
          prefix = g.prefix;
          trail = h.0;
          parts = h.1;
          opening = g.opening;
          is_trail = trail_prefix Next first.root first.asked h.0 ys (subst (IsTrail Next first.root first.asked) h.2 g.is_trail);
          last = refl;
        },
      ))

  alone_prefix : (xs ys : List VarBind) → IsAlone Next Got first (xs ++ ys) → IsPartOfWalk Next Got first xs
  alone_prefix xs ys h = grind (arith, common_steps, one_prefix)

  pub part_prefix : (xs ys : List VarBind) → IsPartOfWalk Next Got first (xs ++ ys) → IsPartOfWalk Next Got first xs
  part_prefix xs ys (inl none) = inl (nil_prefix xs ys (sym none))
  part_prefix xs ys (inr (inl h)) = given_prefix xs ys h.0 h.1 (two_cuts xs ys h.1.prefix h.1.trail h.1.parts)
  part_prefix xs ys (inr (inr h)) = alone_prefix xs ys h
