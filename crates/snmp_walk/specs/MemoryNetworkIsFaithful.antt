-- A network in memory neither invents nor alters datagrams (`faithful_in_memory`). Once no
-- delivery is left (`IsPrompt`), it stays so (`still_prompt_in_memory`), and a receive of the walk
-- returns the agent's reply, or nothing if there is none, or fails (`prompt_in_memory`). For
-- proofs.
use Rattle.std.specs.Prelude.{◌≡◌, ◌⊎◌, ◌+◌, ℕ, zero, suc, List, [], ◌∷◌, ◌++◌, length, map}
use Rattle.std.specs.Prelude.{Option, Some, None, flat_map}
use Rattle.std.specs.List.{AllByRecursion, slice_get}
use Rattle.std.proofs.Common.{inl, inr, ap, refl, subst, sym, ◌∙◌, append-nil}
use Rattle.std.proofs.lemmas.List.Elements.{recursion_from_All}
use Rattle.snmp_agent.specs.Event.{Event, InTurn, came, receive_failed, send_failed, sent, silence}
use Rattle.snmp_agent.specs.{Reply.Agent, Reply.IsReply}
use Rattle.snmp_agent.specs.Serving.{AreTurns, IsTurn, TurnDone}
use Rattle.snmp_agent.specs.{declared.server.Served.Served, declared.server.Turn.Turn}
use Rattle.snmp_agent.specs.declared.server.Turn.TheVariants as turn
use Rattle.snmp_walk.specs.{Link.OneOf, Traffic.datagram_at, Traffic.latest}
use Rattle.snmp_walk.specs.MemoryNetwork.{Carries, IsNew, IsNextReply, IsNextRequest, IsPrompt}
use Rattle.snmp_walk.specs.MemoryNetwork.{Uses, ahead_of, leading_requests, replies_by, replies_of}
use Rattle.snmp_walk.specs.MemoryNetwork.{requests_of}
use Rattle.snmp_walk.specs.Network.{Happening, IsFaithful, IsTriedTo, RepliesTo, at_agents, at_walk}
use Rattle.snmp_walk.specs.Network.{of_walk, requests_by, tried}
use Rattle.snmp_walk.specs.declared.memory_network.Delivery.{Delivery}
use Rattle.snmp_walk.specs.declared.memory_network.MemoryNetwork.{MemoryNetwork}

-- what happened on the network, in order
abbrev Run : Type 0
Run = List (Happening (Unit {0}))

-- ---- lists

one_of : (all : List (List ℕ)) (k : ℕ) (d : List ℕ) → slice_get all k ≡ Some d → OneOf all d
one_of [] k d e = let no : ⊥ = cc in absurd no
one_of (x ∷ all) zero d e = let same : d ≡ x = cc in inl same
one_of (x ∷ all) (suc k) d e = inr (one_of all k d e)

found : (all : List (List ℕ)) (k : ℕ) (d : List ℕ) → datagram_at all k ≡ Some d → OneOf all d
found all zero d e = let no : ⊥ = cc in absurd no
found all (suc k) d e = one_of all k d e

one_append : {X : Type 0} (xs ys : List X) (d : X) → OneOf (xs ++ ys) d → OneOf xs d ⊎ OneOf ys d
one_append [] ys d one = inr one
one_append (x ∷ xs) ys d (inl e) = inl (inl e)
one_append (x ∷ xs) ys d (inr one) = elim (one_append xs ys d one) [
  | inl h ↦ inl (inr h)
  | inr h ↦ inr h
]

-- if the events `xs`, x and `ys` took the network from `old` to `new`, then `xs` took it from
-- `old` to some state, and x took it from there to another
up_to : {L X : Type 0} (step : L → X → L → Type 0) (xs ys : List X) (x : X) (old new : L)
    → InTurn step old (xs ++ x ∷ ys) new
    → (mid : L) × (next : L) × InTurn step old xs mid × step mid x next
up_to step [] ys x old new h = (old, h.0, refl, h.1)
up_to step (y ∷ xs) ys x old new h =
    let s = up_to step xs ys x h.0 new h.2 in (s.0, s.1, (h.0, h.1, s.2), s.3)

-- ---- what was sent each way

module _ (d : List ℕ) where
  -- if the walk sent d by the event e, then it tried to send d in the run that begins with e
  by_walk : (e : Happening (Unit {0})) (run : Run) → OneOf (requests_by e) d
      → OneOf (tried (of_walk (e ∷ run))) d
  by_walk (at_walk (sent peer x)) run (inl same) = inl same
  by_walk (at_walk (sent peer x)) run (inr none) = absurd none
  by_walk e run none = absurd none

  in_more : (e : Happening (Unit {0})) (run : Run) → OneOf (tried (of_walk run)) d
      → OneOf (tried (of_walk (e ∷ run))) d
  in_more (at_walk (sent peer x)) run one = inr one
  in_more (at_walk (send_failed peer x)) run one = inr one
  in_more e run one = one

  requested : (run : Run) (old new : MemoryNetwork) → InTurn Carries old run new
      → OneOf (requests_of new) d → OneOf (requests_of old) d ⊎ OneOf (tried (of_walk run)) d
  requested [] old new h one = inl (subst (λ (n : MemoryNetwork). OneOf (requests_of n) d) h one)
  requested (e ∷ run) old new h one = elim (requested run h.0 new h.2 one) [
    | inl now ↦ elim (one_append (requests_of old) (requests_by e) d
        (subst (λ (ds : List (List ℕ)). OneOf ds d) h.1.requests now)) [
          | inl earlier ↦ inl earlier
          | inr by ↦ inr (by_walk e run by)
        ]
    | inr later ↦ inr (in_more e run later)
  ]

  -- if the agent sent d by the event e, then it sent d in the run that begins with e
  by_agent : (e : Happening (Unit {0})) (run : Run) → OneOf (replies_by e) d
      → IsTriedTo tt (e ∷ run) d
  by_agent (at_agents (sent peer x)) run (inl same) =
      inl (inl (ap (λ (y : List ℕ). at_agents (sent tt y)) same))
  by_agent (at_agents (sent peer x)) run (inr none) = absurd none
  by_agent e run none = absurd none

  replied : (run : Run) (old new : MemoryNetwork) → InTurn Carries old run new
      → OneOf (replies_of new) d → OneOf (replies_of old) d ⊎ IsTriedTo tt run d
  replied [] old new h one = inl (subst (λ (n : MemoryNetwork). OneOf (replies_of n) d) h one)
  replied (e ∷ run) old new h one = elim (replied run h.0 new h.2 one) [
    | inl now ↦ elim (one_append (replies_of old) (replies_by e) d
        (subst (λ (ds : List (List ℕ)). OneOf ds d) h.1.replies now)) [
          | inl earlier ↦ inl earlier
          | inr by ↦ inr (by_agent e run by)
        ]
    | inr (inl later) ↦ inr (inl (inr later))
    | inr (inr later) ↦ inr (inr (inr later))
  ]

pub faithful_in_memory : (first last : MemoryNetwork) (run : Run)
    → IsNew first → InTurn Carries first run last → IsFaithful tt run
faithful_in_memory first last run new h = record {
  replies = λ before after peer d is m spelt.
      let s = up_to Carries before after (at_walk (came peer d)) first last
      (subst (λ (r : Run). InTurn Carries first r last) is h) in
      elim (replied d before first s.0 s.2 (found (replies_of s.0) s.3.used.0 d s.3.used.2)) [
        | inl none ↦ absurd (subst (λ (ds : List (List ℕ)). OneOf ds d) new.replies none)
        | inr sent_it ↦ sent_it
      ];
  requests = λ before after d is.
      let s = up_to Carries before after (at_agents (came tt d)) first last
      (subst (λ (r : Run). InTurn Carries first r last) is h) in
      elim (requested d before first s.0 s.2 (found (requests_of s.0) s.3.used.0 d s.3.used.2)) [
        | inl none ↦ absurd (subst (λ (ds : List (List ℕ)). OneOf ds d) new.requests none)
        | inr sent_it ↦ sent_it
      ];
}

-- ---- without deliveries

module _ (old : MemoryNetwork) (none : IsPrompt old) where
  next_request : (number : ℕ) (left : List Delivery)
      → IsNextRequest (requests_of old) (ahead_of old) number left
      → (number ≡ length (requests_of old)) × (left ≡ [])
  next_request number left h =
      subst (λ (ahead : List Delivery). IsNextRequest (requests_of old) ahead number left) none h

  next_reply : (next : Option ℕ) (left : List Delivery)
      → IsNextReply old.answer (ahead_of old) next left → (next ≡ old.answer) × (left ≡ [])
  next_reply next left h =
      subst (λ (ahead : List Delivery). IsNextReply old.answer ahead next left) none h

  left_none : (e : Happening (Unit {0})) (left : List Delivery) → Uses old e left → left ≡ []
  left_none (at_walk (came peer d)) left h = (next_reply (Some h.0) left h.1).1
  left_none (at_walk silence) left h = (next_reply (Some h.0) left h.1).1
  left_none (at_walk receive_failed) left h = (next_reply h.0 left h.1).1
  left_none (at_walk (sent peer d)) left h = h ∙ none
  left_none (at_walk (send_failed peer d)) left h = h ∙ none
  left_none (at_agents (came peer d)) left h = (next_request h.0 left h.1).1
  left_none (at_agents silence) left h = (next_request h.0 left h.1).1
  left_none (at_agents receive_failed) left h = (next_request h.0 left h.1).1
  left_none (at_agents (sent peer d)) left h = h ∙ none
  left_none (at_agents (send_failed peer d)) left h = h ∙ none

pub still_prompt_in_memory : (old new : MemoryNetwork) (e : Happening (Unit {0})) → IsPrompt old
    → Carries old e new → IsPrompt new
still_prompt_in_memory old new e none h = left_none old none e (ahead_of new) h.used

-- the datagram whose number is the length of the list is the latest one
module _ (d : Option (List ℕ)) where
  latest_found : (ds : List (List ℕ)) → datagram_at ds (length ds) ≡ d → latest ds ≡ d
  latest_found [] found = found
  latest_found (x ∷ []) found = found
  latest_found (x ∷ y ∷ ds) found = latest_found (y ∷ ds) found

module _ (d : List ℕ) where
  latest_sent : (ds : List (List ℕ)) → latest (ds ++ d ∷ []) ≡ Some d
  latest_sent [] = refl
  latest_sent (x ∷ []) = refl
  latest_sent (x ∷ y ∷ ds) = latest_sent (y ∷ ds)

-- what the walk receives over a prompt network after a turn of the agent
module _ (between new : MemoryNetwork) (none : IsPrompt between) (agent : Agent)
    (request : Option (List ℕ)) where
  number_is : (number : ℕ) → IsNextReply between.answer (ahead_of between) (Some number)
      (ahead_of new)
      → Some number ≡ between.answer
  number_is number h = (next_reply between none (Some number) (ahead_of new) h).0

  -- if the agent sent nothing since it had no reply, the walk's receive returns nothing or fails
  after_nothing : (e : Event (Unit {0})) → between.answer ≡ Some 0 → RepliesTo agent request silence
      → Carries between (at_walk e) new → RepliesTo agent request e
  after_nothing (came peer d) is silent h =
      let found : datagram_at (replies_of between) h.used.0 ≡ Some d = h.used.2 in
      let same : Some h.used.0 ≡ Some 0 = number_is h.used.0 h.used.1 ∙ is in
      let zeroth : h.used.0 ≡ 0 = cc in
      let no : ⊥ = let f = subst (λ (n : ℕ). datagram_at (replies_of between) n
      ≡ Some d) zeroth found in cc in
      absurd no
  after_nothing silence is silent h = silent
  after_nothing receive_failed is silent h = tt
  after_nothing (sent peer d) is silent h = tt
  after_nothing (send_failed peer d) is silent h = tt

  -- if the agent sent the reply r, the walk's receive returns r or fails
  after_reply : (e : Event (Unit {0})) (before : List (List ℕ)) (d r : List ℕ) → request ≡ Some d
      → IsReply agent d r → replies_of between ≡ before ++ r ∷ []
      → between.answer ≡ Some (length (replies_of between))
      → Carries between (at_walk e) new → RepliesTo agent request e
  after_reply (came peer x) before d r asked replies are is h =
      let same : Some h.used.0 ≡ Some (length (replies_of between)) = number_is h.used.0 h.used.1
      ∙ is in
      let last : h.used.0 ≡ length (replies_of between) = cc in
      let found : datagram_at (replies_of between) (length (replies_of between)) ≡ Some x =
      subst (λ (n : ℕ). datagram_at (replies_of between) n ≡ Some x) last h.used.2 in
      let r_is : latest (replies_of between) ≡ Some r = ap latest are ∙ latest_sent r before in
      let both : Some r ≡ Some x = sym r_is ∙ latest_found (Some x) (replies_of between) found in
      let reply : r ≡ x = cc in
      (d, asked, subst (λ (y : List ℕ). IsReply agent d y) reply replies)
  after_reply silence before d r asked replies are is h =
      let same : Some h.used.0 ≡ Some (length (replies_of between)) = number_is h.used.0 h.used.1
      ∙ is in
      let last : h.used.0 ≡ length (replies_of between) = cc in
      let found : datagram_at (replies_of between) (length (replies_of between)) ≡ None =
      subst (λ (n : ℕ). datagram_at (replies_of between) n ≡ None) last h.used.2 in
      let r_is : latest (replies_of between) ≡ Some r = ap latest are ∙ latest_sent r before in
      let both : Some r ≡ None = sym r_is ∙ latest_found None (replies_of between) found in
      let no : ⊥ = cc in
      absurd no
  after_reply receive_failed before d r asked replies are is h = tt
  after_reply (sent peer x) before d r asked replies are is h = tt
  after_reply (send_failed peer x) before d r asked replies are is h = tt

  -- if the agent's receive or send failed, the walk's receive fails
  after_fault : (e : Event (Unit {0})) → between.answer ≡ None → Carries between (at_walk e) new
      → RepliesTo agent request e
  after_fault (came peer d) is h =
      let same : Some h.used.0 ≡ None = number_is h.used.0 h.used.1 ∙ is in
      let no : ⊥ = cc in
      absurd no
  after_fault silence is h =
      let same : Some h.used.0 ≡ None = number_is h.used.0 h.used.1 ∙ is in
      let no : ⊥ = cc in
      absurd no
  after_fault receive_failed is h = tt
  after_fault (sent peer d) is h = tt
  after_fault (send_failed peer d) is h = tt

module _ (old new : MemoryNetwork) (none : IsPrompt old) (agent : Agent) (e : Event
    (Unit {0})) where
  -- a datagram that the agent receives over a prompt network is the latest that the walk sent
  received : (mid : MemoryNetwork) (peer : Unit {0}) (d : List ℕ)
      → Carries old (at_agents (came peer d)) mid → latest (requests_of old) ≡ Some d
  received mid peer d h =
      let number = (next_request old none h.used.0 (ahead_of mid) h.used.1).0 in
      latest_found (Some d) (requests_of old)
      (subst (λ (n : ℕ). datagram_at (requests_of old) n ≡ Some d) number h.used.2)

  unsent : (mid : MemoryNetwork) → Carries old (at_agents silence) mid
      → latest (requests_of old) ≡ None
  unsent mid h =
      let number = (next_request old none h.used.0 (ahead_of mid) h.used.1).0 in
      latest_found None (requests_of old)
      (subst (λ (n : ℕ). datagram_at (requests_of old) n ≡ None) number h.used.2)

  still : (mid : MemoryNetwork) (f : Happening (Unit {0})) → Carries old f mid → IsPrompt mid
  still mid f h = still_prompt_in_memory old mid f none h

  after_turn : (t : Turn) (events : List (Event (Unit {0}))) → IsTurn agent t events
      → InTurn Carries old (map at_agents events ++ at_walk e ∷ []) new
      → RepliesTo agent (latest (requests_of old)) e
  after_turn turn.Replied events turned run =
      let chain : InTurn Carries old (at_agents (came turned.0 turned.1) ∷ at_agents
      (sent turned.0 turned.2) ∷ at_walk e ∷ []) new =
      subst (λ (es : List (Event (Unit {0}))). InTurn Carries old (map at_agents es
      ++ at_walk e ∷ []) new) turned.4 run in
      let mid = chain.0 in
      let between = chain.2.0 in
      let none_mid = still mid (at_agents (came turned.0 turned.1)) chain.1 in
      let none_between = still_prompt_in_memory mid between (at_agents
      (sent turned.0 turned.2)) none_mid chain.2.1 in
      after_reply between chain.2.2.0 none_between agent (latest (requests_of old)) e
      (replies_of mid) turned.1 turned.2
      (received mid turned.0 turned.1 chain.1) turned.3 chain.2.1.replies chain.2.1.answer
      chain.2.2.1
  after_turn turn.Dropped events turned run =
      let chain : InTurn Carries old (at_agents (came turned.0 turned.1) ∷ at_walk e ∷ []) new =
      subst (λ (es : List (Event (Unit {0}))). InTurn Carries old (map at_agents es
      ++ at_walk e ∷ []) new) turned.4 run in
      after_nothing chain.0 chain.2.0 (still chain.0 (at_agents
      (came turned.0 turned.1)) chain.1) agent (latest (requests_of old)) e
      chain.1.answer (inr (
        turned.1,
        turned.2,
        received chain.0 turned.0 turned.1 chain.1,
        turned.3,
      )) chain.2.1
  after_turn turn.Idle events turned run =
      let chain : InTurn Carries old (at_agents silence ∷ at_walk e ∷ []) new =
      subst (λ (es : List (Event (Unit {0}))). InTurn Carries old (map at_agents es
      ++ at_walk e ∷ []) new) turned run in
      after_nothing chain.0 chain.2.0 (still chain.0 (at_agents silence) chain.1) agent (latest
      (requests_of old)) e chain.1.answer
      (inl (unsent chain.0 chain.1)) chain.2.1
  after_turn turn.Failed events (inl turned) run =
      let chain : InTurn Carries old (at_agents receive_failed ∷ at_walk e ∷ []) new =
      subst (λ (es : List (Event (Unit {0}))). InTurn Carries old (map at_agents es
      ++ at_walk e ∷ []) new) turned run in
      after_fault chain.0 chain.2.0 (still chain.0 (at_agents receive_failed) chain.1) agent
      (latest (requests_of old)) e chain.1.answer
      chain.2.1
  after_turn turn.Failed events (inr turned) run =
      let chain : InTurn Carries old (at_agents (came turned.0 turned.1) ∷ at_agents
      (send_failed turned.0 turned.2) ∷ at_walk e ∷ []) new =
      subst (λ (es : List (Event (Unit {0}))). InTurn Carries old (map at_agents es
      ++ at_walk e ∷ []) new) turned.4 run in
      let mid = chain.0 in
      let between = chain.2.0 in
      let none_between = still_prompt_in_memory mid between (at_agents
      (send_failed turned.0 turned.2))
      (still mid (at_agents (came turned.0 turned.1)) chain.1) chain.2.1 in
      after_fault between chain.2.2.0 none_between agent (latest
      (requests_of old)) e chain.2.1.answer chain.2.2.1

  after_turns : (done : List (TurnDone (Unit {0}))) → length done ≡ 1
      → AllByRecursion (λ (t : TurnDone (Unit {0})). IsTurn agent t.turn t.events) done
      → InTurn Carries old (map at_agents (flat_map (λ (t : TurnDone (Unit {0})). t.events) done)
      ++ at_walk e ∷ []) new
      → RepliesTo agent (latest (requests_of old)) e
  after_turns [] one each run = let no : ⊥ = cc in absurd no
  after_turns (t ∷ []) one each run =
      after_turn t.turn t.events each.0
      (subst (λ (es : List (Event (Unit {0}))). InTurn Carries old (map at_agents es
      ++ at_walk e ∷ []) new) (append-nil t.events) run)
  after_turns (t ∷ u ∷ done) one each run = let no : ⊥ = cc in absurd no

pub prompt_in_memory : (old new : MemoryNetwork) (agent : Agent) (served : Served)
    (events : List (Event (Unit {0}))) (e : Event (Unit {0})) → IsPrompt old
    → AreTurns agent (leading_requests (ahead_of old) + 1) served events
    → InTurn Carries old (map at_agents events ++ at_walk e ∷ []) new
    → RepliesTo agent (latest (requests_of old)) e
prompt_in_memory old new agent served events e none are run =
    let one : length are.done ≡ 1 =
    are.count ∙ ap (λ (ahead : List Delivery). leading_requests ahead + 1) none in
    after_turns old new none agent e are.done one (recursion_from_All _ _ are.each)
    (subst (λ (es : List (Event (Unit {0}))). InTurn Carries old (map at_agents es
    ++ at_walk e ∷ []) new) are.in_order run)
