-- The loops over tries and receives: what holds while no reply was received, and what ends them (`tried_so`).
use Rattle.std.proofs.{lemmas.Grind.common_steps, lemmas.List.length_push}
use Rattle.std.proofs.Common.{◌≡◌, ◌≢◌, inl, inr, ℕ, ◌+◌, ◌<◌, ◌≤◌, List, [], ◌∷◌, ◌++◌, length, take, refl, sym, subst, arith, Option, Some, None}
use Rattle.std.specs.Prelude.{Result, Ok, Err, IsErr, IfOk, IfSome, IfNone, OnOk, OnErr}
use Rattle.snmp_walk.specs.{Link.OneOf, Link.Outcome, Moves.Moves, Moved.IsMoved, Traffic.Receives, Traffic.received}
use Rattle.snmp_walk.specs.Link as outcome
use Rattle.snmp_walk.specs.Tries.{InTurn, Sends, SendFails, ReceivesDatagram, ReceivesNothing, ReceiveFails, EndsTry, AreReceives, IsTry, AreMissed, AreTried}
use Rattle.snmp_walk.specs.declared.link.Link.{Ghosts as LinkFacts}
use Rattle.snmp_walk.proofs.{Members.one_append, Moves.moves_as, Moves.received as moved_by}

-- if the steps `xs` took the link in turn from `old` to `now`, and x from `now` to `new`, then `xs` and x took it in turn from `old` to `new`
turn_more : {L X : Type 0} (step : L → X → L → Type 0) (old now new : L) (xs : List X) (x : X) → InTurn step old xs now → step now x new
    → InTurn step old (xs ++ x ∷ []) new
turn_more {L} step old now new [] x h s = (new, subst (λ (l : L). step l x new) h s, refl)
turn_more {L} step old now new (y ∷ xs) x h s = (h.0, h.1, turn_more step h.0 now new xs x h.2 s)

module _ {L : Type 0} (facts : LinkFacts L) where
  -- a send of d returned this result and took the link from `old` to `new`
  abbrev pub IsSend : L → List ℕ → {E : Type 0} → Result (Unit {0}) E → L → Type 0
  IsSend old d {E} (Ok x) new = Sends facts old d new
  IsSend old d {E} (Err e) new = SendFails facts old d new

  pub sent_so : {E : Type 0} (old : L) (d : List ℕ) (new : L) (r : Result (Unit {0}) E) → OnOk r (facts.sends old d new) → OnErr r (facts.send_fails old d new)
      → OnErr r (facts.traffic new ≡ facts.traffic old) → IsMoved facts old (d ∷ []) 0 (IsErr r) new → IsSend old d r new
  sent_so old d new (Ok x) sends fails same moves = (sends, moves_as facts (omega arith) (λ e. cc) (λ f. absurd f) moves)
  sent_so old d new (Err e) sends fails same moves = (fails, same, moves_as facts (omega arith) (λ e. tt) (λ f. refl) moves)

  -- a receive into `buffer`, as it is afterwards, returned this result and took the link from `old` to `new`
  abbrev pub IsReceive : L → (buffer : List ℕ) → {E : Type 0} → Result (Option ℕ) E → L → Type 0
  IsReceive old buffer {E} (Ok (Some n)) new = ReceivesDatagram facts old (take n buffer) new
  IsReceive old buffer {E} (Ok None) new = ReceivesNothing facts old new
  IsReceive old buffer {E} (Err e) new = ReceiveFails facts old new

  pub received_so : {E : Type 0} (old : L) (room : ℕ) (buffer : List ℕ) (new : L) (r : Result (Option ℕ) E) → 65507 ≤ room
      → IfOk r (λ got. IfSome got (λ n. facts.delivers old (take n buffer) new)) → IfOk r (λ got. IfNone got (facts.is_silent old new))
      → OnErr r (facts.receive_fails old new) → (facts.honest old → 65507 ≤ room → IfOk r (λ got. Receives (facts.agents old) (facts.traffic old).sent
      (facts.traffic old).ahead (received got buffer) (facts.traffic new).ahead)) → OnErr r (facts.traffic new ≡ facts.traffic old)
      → Moves facts.records facts.honest facts.agents facts.traffic facts.fault_count (λ link s o. (65507 ≤ room) × facts.ready link s o) old [] 1 (IsErr r) new
      → IsReceive old buffer r new
  received_so old room buffer new (Ok (Some n)) long delivers silent fails reply same moves = grind (arith, common_steps, moves_as, moved_by)
  received_so old room buffer new (Ok None) long delivers silent fails reply same moves = grind (arith, common_steps, moves_as, moved_by)
  received_so old room buffer new (Err e) long delivers silent fails reply same moves = grind (arith, common_steps, moves_as, moved_by)

module _ {L : Type 0} (facts : LinkFacts L) (Other : List ℕ → Type 0) where
  -- `count` receives returned datagrams that weren't the reply, and took the link from `old` to `now`
  pub record IsMissing (count : ℕ) (old now : L) : Type 0 where
    pub received : List (List ℕ)
    pub are : length received ≡ count
    pub brought : InTurn (ReceivesDatagram facts) old received now
    pub others : (datagram : List ℕ) → OneOf received datagram → Other datagram

  pub missing_first : (old : L) → IsMissing 0 old old
  missing_first old = record { received = []; are = refl; brought = refl; others = λ d one. absurd one }

  pub missing_more : (count : ℕ) (old now between : L) (datagram : List ℕ) → IsMissing count old now → ReceivesDatagram facts now datagram between
      → Other datagram
      → IsMissing (count + 1) old between
  missing_more count old now between datagram before brought other = record {
    received = before.received ++ datagram ∷ [];
    are = omega (arith, before.are, length_push before.received datagram);
    brought = turn_more (ReceivesDatagram facts) old now between before.received datagram before.brought brought;
    others = λ d one. elim (one_append before.received (datagram ∷ []) d one) [
      | inl earlier ↦ before.others d earlier
      | inr (inl same) ↦ subst Other (sym same) other
      | inr (inr never) ↦ absurd never
    ];
  }

  -- if `count` receives returned datagrams that weren't the reply, and then the try ended with `what`, then `AreReceives` holds of these datagrams
  pub received_all : (count : ℕ) (old now new : L) (what : Outcome) → IsMissing count old now → EndsTry facts count now what new
      → (strays : List (List ℕ)) × AreReceives facts Other old what new strays
  received_all count old now new what h over = grind (arith, common_steps)

module _ {L : Type 0} (facts : LinkFacts L) (Other : List ℕ → Type 0) (request : List ℕ) where
  pub tries_first : (old : L) → AreMissed facts Other request 0 old old
  tries_first old = record { received = []; all = refl; are_missed = refl }

  pub tries_more : (count : ℕ) (old now new : L) (strays : List (List ℕ)) → AreMissed facts Other request count old now
      → IsTry facts Other request outcome.missed now strays new → AreMissed facts Other request (count + 1) old new
  tries_more count old now new strays before missed = record {
    received = before.received ++ strays ∷ [];
    all = omega (arith, before.all, length_push before.received strays);
    are_missed = turn_more (IsTry facts Other request outcome.missed) old now new before.received strays before.are_missed missed;
  }

  -- if `count` tries, fewer than `tries`, missed the reply, and one more ended with another outcome, then the request had this outcome (`AreTried`)
  pub tried_so : (count tries : ℕ) (old now new : L) (what : Outcome) (strays : List (List ℕ)) → what ≢ outcome.missed → count < tries
      → AreMissed facts Other request count old now → IsTry facts Other request what now strays new → AreTried facts Other request tries old what new
  tried_so count tries old now new outcome.missed strays other few before h = absurd (other refl)
  tried_so count tries old now new what strays other few before h = (count, few, now, before, inl (strays, h))

  pub unsent : (count tries : ℕ) (old now new : L) → count < tries → AreMissed facts Other request count old now
      → SendFails facts now request new → AreTried facts Other request tries old outcome.cut_off new
  unsent count tries old now new few before failed = (count, few, now, before, inr (refl, failed))
