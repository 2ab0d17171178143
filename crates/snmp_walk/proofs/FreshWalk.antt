-- A fresh walk has made no progress (`fresh_reached`), and an honest reply ends a walk lawfully (`lawful_reply`).
use Rattle.std.proofs.Common.{◌≡◌, ℕ, List, [], ◌++◌, refl, sym, ap, subst, arith, append-nil}
use Rattle.std.proofs.lemmas.List.Elements.{All-nil}
use Rattle.std.specs.Prelude.{◌≢◌}
use Rattle.snmp_wire.specs.Message.{VarBind}
use Rattle.snmp_walk.specs.{declared.mode.Mode.Mode, declared.end.WalkEnd.WalkEnd, WalkState.WalkState, Request.first_phase, Link.Agents, Link.IsNextFrom}
use Rattle.snmp_walk.specs.{Link.IsGotFrom, Link.IsTooLarge, Facts.IsFresh, Facts.IsLawfulEnd, Facts.DeliversNoRows}
use Rattle.snmp_walk.specs.declared.mode.Mode.TheVariants as mode
use Rattle.snmp_walk.specs.declared.end.WalkEnd.TheVariants as ending
use Rattle.snmp_walk.specs.Progress.{IsOpening, IsStage, IsPaced, Reaches, Ends, opening_gets}

-- a fresh walk has returned nothing and waits for the reply to its first request
pub fresh_reached : (Next Got : List ℕ → VarBind → Type 0) (first : WalkState) → IsFresh first → Reaches Next Got first first []
fresh_reached Next Got first h =
    let at = by_mode first.mode refl in
    record {
      same = refl;
      count = h.count;
      paced = subst (IsPaced Next Got first [] first.id) (sym h.phase) at.1;
      stage = subst (IsStage Next Got first [] first.asked) (sym h.phase) at.0;
    }
  where
    by_mode : (m : Mode) → first.mode ≡ m → IsStage Next Got first [] first.asked (first_phase m) × IsPaced Next Got first [] first.id (first_phase m)
    by_mode mode.Include e = ((refl, refl, e), refl)
    by_mode _ e =
        let opening : IsOpening Got first.mode first.asked [] = subst (λ (n : Mode). IsOpening Got n first.asked []) (sym e) refl in (
          record { prefix = []; trail = []; parts = refl; opening = opening; is_trail = tt; last = refl },
          record {
            prefix = [];
            replies = [];
            parts = refl;
            opening = opening;
            some = All-nil (λ (r : List VarBind). r ≢ []);
            is_trail = tt;
            ids = omega (arith, ap opening_gets e);
          },
        )

-- if an honest reply ends the walk, the end is lawful
pub lawful_reply : (agents : Agents) (Silent : WalkState → Type 0) (first w : WalkState) (given more : List VarBind) (why : WalkEnd)
    → DeliversNoRows why more → Reaches (IsNextFrom agents) (IsGotFrom agents) first w given
    → Ends (IsNextFrom agents) (IsGotFrom agents) (IsTooLarge agents) first w (given ++ more) why
    → IsLawfulEnd agents Silent first (given ++ more) why
lawful_reply agents Silent first w given more (ending.Done n) none h e = (w, given, more, refl, h, e)
lawful_reply agents Silent first w given more ending.TooManyRequests none h e = (w, given, more, refl, h, e)
lawful_reply agents Silent first w given more (ending.Fault a b) none h e = (w, rw (none, append-nil) h, e)
lawful_reply agents Silent first w given more (ending.NoProgress o) none h e = (w, rw (none, append-nil) h, e)
lawful_reply agents Silent first w given more _ none h e = absurd e
