-- The counts of a server are right after each turn (`no_turns`, `more_turns`), and so is the fault count of its endpoint (`risen_in_turn`).
use Rattle.std.proofs.{lemmas.Grind.common_steps, lemmas.List.flat_map_more, lemmas.List.length_push, lemmas.List.Sums.sum_by_push}
use Rattle.std.proofs.Common.{◌≡◌, ℕ, ◌+◌, List, [], ◌∷◌, ◌++◌, ap, ◌∙◌, subst, arith}
use Rattle.std.specs.Prelude.{cond, count_by}
use Rattle.std.proofs.lemmas.List.Elements.{All-nil, All-push}
use Rattle.snmp_io.specs.Count.{HasIncreasedBy}
use Rattle.snmp_agent.specs.{declared.server.Served.Served, declared.server.Turn.Turn, Reply.Agent, Event.Event, Event.InTurn}
use Rattle.snmp_agent.specs.declared.server.Turn.TheVariants as turn
use Rattle.snmp_agent.specs.Serving.{AreTurns, IsTurn, TurnDone, same_turn, tally}

-- if `xs` in turn change the state `old` into `between`, and `ys` change `between` into `new`, then all of them in turn change `old` into `new`
pub in_turn-append : {L X : Type 0} (step : L → X → L → Type 0) (xs ys : List X) (old between new : L) → InTurn step old xs between
    → InTurn step between ys new → InTurn step old (xs ++ ys) new
in_turn-append step [] ys old between new h k = subst (λ l. InTurn step l ys new) h k
in_turn-append step (x ∷ xs) ys old between new h k = (h.0, h.1, in_turn-append step xs ys h.0 between new h.2 k)

abbrev sum : Served → ℕ
sum s = s.replies + s.dropped + s.idle + s.faults

-- the counts with one more turn that ended in this way
abbrev pub one_more : Turn → Served → Served
one_more turn.Replied served = record served { replies = served.replies + 1 }
one_more turn.Dropped served = record served { dropped = served.dropped + 1 }
one_more turn.Idle served = record served { idle = served.idle + 1 }
one_more turn.Failed served = record served { faults = served.faults + 1 }

same_counts : (s t : Served) → s.replies ≡ t.replies → s.dropped ≡ t.dropped → s.idle ≡ t.idle → s.faults ≡ t.faults → s ≡ t
same_counts s t e f g h = λ i. record { replies = e i; dropped = f i; idle = g i; faults = h i }

one_more_of : {a b c d : ℕ} (n : Turn → ℕ) (t : Turn) → a ≡ n turn.Replied + cond (same_turn turn.Replied t) 1 0
    → b ≡ n turn.Dropped + cond (same_turn turn.Dropped t) 1 0 → c ≡ n turn.Idle + cond (same_turn turn.Idle t) 1 0
    → d ≡ n turn.Failed + cond (same_turn turn.Failed t) 1 0
    → one_more t (record { replies = n turn.Replied; dropped = n turn.Dropped; idle = n turn.Idle; faults = n turn.Failed })
    ≡ record { replies = a; dropped = b; idle = c; faults = d }
one_more_of n t e f g h = grind (arith, common_steps, same_counts)

module _ {Peer : Type 0} where
  count_push : (done : List (TurnDone Peer)) (d : TurnDone Peer) (kind : Turn)
      → count_by (λ u. same_turn kind u.turn) (done ++ d ∷ []) ≡ count_by (λ u. same_turn kind u.turn) done + cond (same_turn kind d.turn) 1 0
  count_push done d kind = sum_by_push (λ u. cond (same_turn kind u.turn) 1 0) done d

  one_more_counts : (done : List (TurnDone Peer)) (d : TurnDone Peer) → one_more d.turn (tally done) ≡ tally (done ++ d ∷ [])
  one_more_counts done d = grind (arith, common_steps, one_more_of, count_push)

  -- if all counts are 0, then they are right for 0 turns
  pub no_turns : (agent : Agent) (s : Served) → s ≡ record { replies = 0; dropped = 0; idle = 0; faults = 0 } → AreTurns {Peer = Peer} agent 0 s []
  no_turns agent s none = grind (arith, common_steps, All-nil)

  -- if the counts are right for `n` turns, and one more turn happens and is counted, then they are right for `n + 1` turns
  pub more_turns : (agent : Agent) (n : ℕ) (s more : Served) (events : List (Event Peer)) (t : Turn) (now : List (Event Peer)) → more ≡ one_more t s
      → AreTurns agent n s events → IsTurn agent t now → AreTurns agent (n + 1) more (events ++ now)
  more_turns agent n s more events t now counted so_far is =
      let d : TurnDone Peer = record { turn = t; events = now } in
      record {
        done = so_far.done ++ d ∷ [];
        each = All-push (λ (u : TurnDone Peer). IsTurn agent u.turn u.events) so_far.done d so_far.each is;
        count = length_push so_far.done d ∙ ap (λ k. k + 1) so_far.count;
        by_kind = counted ∙ ap (one_more t) so_far.by_kind ∙ one_more_counts so_far.done d;
        in_order = ap (λ e. e ++ now) so_far.in_order ∙ flat_map_more (λ (u : TurnDone Peer). u.events) [] so_far.done d;
      }

pub one_more_turn : (t : Turn) (s : Served) → sum (one_more t s) ≡ sum s + 1
one_more_turn t s = grind (arith, common_steps)

-- ---- the fault count of the endpoint

risen_more : (n m a b c : ℕ) → HasIncreasedBy n a b → HasIncreasedBy m b c → HasIncreasedBy (n + m) a c
risen_more n m a b c h k = grind (arith, common_steps)

faults_with : (t : Turn) (s : Served) → s.faults + cond (same_turn turn.Failed t) 1 0 ≡ (one_more t s).faults
faults_with t s = grind (arith, common_steps)

-- if the endpoint's fault count increased by `s.faults`, and then by 1 if the turn `t` failed, or not if it didn't, then it increased by `more.faults` in all
pub risen_in_turn : (t : Turn) (s more : Served) (a b c : ℕ) → more ≡ one_more t s → HasIncreasedBy s.faults a b
    → HasIncreasedBy (cond (same_turn turn.Failed t) 1 0) b c → HasIncreasedBy more.faults a c
risen_in_turn t s more a b c is h k = grind (arith, common_steps, faults_with, risen_more)
