-- The rows at the start of a reply, as the loop of `read_rows` reads them (`prefix_done`, `prefix_ended`).
use Rattle.std.proofs.{lemmas.Grind.common_steps, lemmas.Bool.le-ltb, lemmas.Bool.cond_both}
use Rattle.std.proofs.Common.{◌≡◌, ℕ, ◌+◌, Bool, true, false, cond, List, [], ◌∷◌, length, take, refl, sym, ◌∙◌, ap, subst, arith}
use Rattle.std.specs.Prelude.{◌||◌}
use Rattle.snmp_wire.specs.Message.{VarBind}
use Rattle.snmp_walk.specs.declared.mode.Phase.TheVariants as phase
use Rattle.snmp_walk.specs.declared.end.WalkEnd.TheVariants as walk_end
use Rattle.snmp_walk.specs.{Names.is_inside, Names.comes_after, WalkState.WalkState, Request.asked_for, declared.walk_core.Ending.Ending}
use Rattle.snmp_walk.specs.private.ComputedStep.{stops, goes_on, closes, reads, reads_as, reads_next}
use Rattle.snmp_walk.specs.declared.walk_core.Ending.TheVariants as ending
use Rattle.snmp_walk.specs.private.ReplyRows.{After, nothing, leaving, falling, ReplyRows, before, reply_rows, ending_at, after_of, IsReadTo, AreRowsRead}
use Rattle.snmp_walk.specs.private.ReplyRows.{is_misplaced}

-- Induction over the bindings by what `reply_rows` reads: if P holds without bindings, and with one more binding in each of the three cases, it holds of all
-- bindings.
pub prefixes_by : (root : List ℕ) (P : (o : List ℕ) → List VarBind → ReplyRows → Type 0)
    → ((o : List ℕ) → P o [] (record { rows = []; after = nothing }))
    → ((o : List ℕ) (p : VarBind) (more : List VarBind) (prefix : ReplyRows) → is_inside root p ≡ true → comes_after o p.name ≡ true
    → P p.name more prefix → P o (p ∷ more) (before p prefix))
    → ((o : List ℕ) (p : VarBind) (more : List VarBind) → is_inside root p ≡ true → comes_after o p.name ≡ false
    → P o (p ∷ more) (record { rows = []; after = falling p.name }))
    → ((o : List ℕ) (p : VarBind) (more : List VarBind) → is_inside root p ≡ false → P o (p ∷ more) (record { rows = []; after = leaving }))
    → (o : List ℕ) (bindings : List VarBind) → P o bindings (reply_rows root o bindings)
prefixes_by root P none up falls leaves o [] = none o
prefixes_by root P none up falls leaves o (p ∷ more) =
    let rest = prefixes_by root P none up falls leaves p.name more in
    cond_both (is_inside root p) _ _ (P o (p ∷ more))
    (λ i. cond_both (comes_after o p.name) _ _ (P o (p ∷ more)) (λ u. up o p more (reply_rows root p.name more) i u rest) (λ f. falls o p more i f))
    (λ f. leaves o p more f)

-- the rows are the first of the bindings, and all of them if nothing follows them
abbrev IsOf : List VarBind → ReplyRows → Type 0
IsOf bindings prefix = (take (length prefix.rows) bindings ≡ prefix.rows) × (prefix.after ≡ nothing → prefix.rows ≡ bindings)

pub prefix_taken : (root o : List ℕ) (bindings : List VarBind) → IsOf bindings (reply_rows root o bindings)
prefix_taken root = prefixes_by root (λ o. IsOf) (λ o. (refl, λ _. refl))
    (λ o p more prefix i u h. (ap (λ (s : List VarBind). p ∷ s) h.0, λ e. ap (λ (s : List VarBind). p ∷ s) (h.1 e)))
    (λ o p more i f. (refl, λ e. absurd cc)) (λ o p more f. (refl, λ e. absurd cc))

-- what is read of b and then of the bindings after it (`later`): b is a row if it is an instance below the root (`is_in`) and its name increases (`rises`);
-- otherwise it ends the rows
abbrev Read : VarBind → ReplyRows → Bool → Bool → ReplyRows
Read b later is_in rises = cond is_in (cond rises (before b later) record { rows = []; after = falling b.name }) record { rows = []; after = leaving }

abbrev EndOf : Bool → Bool → Ending
EndOf is_in rises = cond is_in (cond rises ending.GoesOn ending.Falls) ending.Leaves

ended_by : (b : VarBind) (later : ReplyRows) (is_in rises : Bool) → (EndOf is_in rises ≡ ending.GoesOn → ⊥)
    → Read b later is_in rises ≡ record { rows = []; after = after_of (EndOf is_in rises) b.name }
ended_by b later true true on = absurd (on refl)
ended_by b later _ _ on = refl

goes_by : (b : VarBind) (later : ReplyRows) (is_in rises : Bool) → EndOf is_in rises ≡ ending.GoesOn → Read b later is_in rises ≡ before b later
goes_by b later true true e = refl
goes_by b later _ _ e = absurd cc

pub prefix_done : (root asked last : List ℕ) (rows : ℕ) (all : List VarBind) (after : After)
    → IsReadTo asked (reply_rows root asked all) last rows (record { rows = []; after = after })
    → AreRowsRead asked all (reply_rows root asked all) last rows after
prefix_done root asked last rows all after h =
    let count : length (reply_rows root asked all).rows ≡ rows = omega (arith, h.count) in
    record { count = count; taken = rw (← count) (prefix_taken root asked all).0; name = h.name; after = h.after }

-- The loop has read `rows` bindings of `all`. `last` is the name of the last one, or `asked` if there is none. `left` are the bindings not read yet: b, then
-- `more`.
module _ (root asked last : List ℕ) (rows : ℕ) (b : VarBind) (all left more : List VarBind)
    (so_far : IsReadTo asked (reply_rows root asked all) last rows (reply_rows root last left)) (is : left ≡ b ∷ more) where
  pub prefix_ended : (e : Ending) → e ≡ ending_at root last b → (e ≡ ending.GoesOn → ⊥) → (name : List ℕ) → name ≡ b.name
      → AreRowsRead asked all (reply_rows root asked all) last rows (after_of e name)
  prefix_ended e end_is on name at = rw (end_is, at) (prefix_done root asked last rows all _ (subst (IsReadTo asked (reply_rows root asked all) last rows)
      (ap (reply_rows root last) is ∙ ended_by b (reply_rows root b.name more) (is_inside root b) (comes_after last b.name)
      (λ x. on (end_is ∙ x))) so_far))

  pub prefix_goes : (e : Ending) → e ≡ ending_at root last b → e ≡ ending.GoesOn → (now : List ℕ) → now ≡ b.name
      → IsReadTo asked (reply_rows root asked all) now (rows + 1) (reply_rows root now more)
  prefix_goes e end_is on now at =
      let f = ap (reply_rows root last) is ∙ goes_by b (reply_rows root b.name more) (is_inside root b) (comes_after last b.name) (sym end_is ∙ on) in
      let h = subst (IsReadTo asked (reply_rows root asked all) last rows) f so_far in
      rw at (record { count = omega (arith, h.count); name = h.name; after = h.after })

some_read : (w : WalkState) (bindings : List VarBind) → is_misplaced (asked_for w.method) bindings ≡ false → (bindings ≡ [] → ⊥)
    → reads_next w bindings ≡ reads w bindings
some_read w [] fine some = absurd (some refl)
some_read w (b ∷ more) fine some = rw fine

-- if there are bindings, and `is_misplaced` doesn't hold of them, a reply is read by what follows the rows at its start
module _ (w : WalkState) (bindings : List VarBind) (fine : is_misplaced (asked_for w.method) bindings ≡ false) (last : List ℕ) (rows : ℕ) (after : After)
    (h : AreRowsRead w.asked bindings (reply_rows w.root w.asked bindings) last rows after) where
  read : (bindings ≡ [] → ⊥) → reads_next w bindings ≡ reads_as after w (take rows bindings)
  read some = some_read w bindings fine some ∙ ap (λ (a : After). reads_as a w (reply_rows w.root w.asked bindings).rows) h.after
      ∙ ap (reads_as after w) (sym h.taken)

  -- without bindings there are no rows, and nothing follows them
  none_read : bindings ≡ [] → (rows ≡ 0) × (after ≡ nothing)
  none_read none = let k = rw none at h in (sym k.count, sym k.after)

  pub read_leaving : after ≡ leaving → reads_next w bindings ≡ closes w (take rows bindings)
  read_leaving e = grind (arith, common_steps, read, none_read)

  pub read_going : after ≡ nothing → (rows ≡ 0 → ⊥) → reads_next w bindings ≡ goes_on w phase.Rows (take rows bindings)
  read_going e some = grind (arith, common_steps, read, none_read)

  pub read_falling : (name : List ℕ) → after ≡ falling name → reads_next w bindings ≡ stops w (take rows bindings) (walk_end.NotIncreasing last name)
  read_falling name e = grind (arith, common_steps, read, none_read)

-- a reply without bindings is never misplaced
pub none_misplaced : (room : ℕ) → is_misplaced room [] ≡ false
none_misplaced room = ap (λ (b : Bool). b || false) (le-ltb room 0 (omega arith))
