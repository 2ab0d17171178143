-- If the events over a `Direct`, a link to an agent that is called at each receive, begin with a send,
-- then each datagram that arrives is the agent's reply to one that was passed to a send before, in these events.
use Rattle.std.proofs.Common.{◌≡◌, ◌∙◌, ◌⊎◌, inl, inr, ⊎_elim, ℕ, List, [], ◌∷◌, ◌++◌, Some, None, refl, sym, ap, subst}
use Rattle.snmp_agent.specs.{Event.Event, Event.InTurn, Event.came, Event.silence, Event.receive_failed, Event.sent, Event.send_failed}
use Rattle.snmp_agent.specs.Reply.{Agent, IsReply}
use Rattle.snmp_walk.specs.{Link.OneOf, Memory.agents_over, Network.AreReplies, Network.BeginWithSend, Network.tried, Tries.Happens}
use Rattle.uses.specs.{Direct.agent_at, Direct.pending, declared.direct.Direct.Direct}
use Rattle.uses.specs.contracts.direct.DirectLink.TheImpl.{ghosts}

-- the events took the link from state `old` to state `new`, one after the other
abbrev Takes : Direct → List (Event (Unit {0})) → Direct → Type 0
Takes old events new = InTurn (Happens ghosts) old events new

-- if the events `xs`, then `x`, then `ys` took the link from `old` to `new`, then `xs` took it from `old` to a state `at`, and `x` happened there
up_to : (xs ys : List (Event (Unit {0}))) (x : Event (Unit {0})) (old new : Direct) → Takes old (xs ++ x ∷ ys) new
    → (at : Direct) × (next : Direct) × Takes old xs at × Happens ghosts at x next
up_to [] ys x old new h = (old, h.0, refl, h.1)
up_to (y ∷ xs) ys x old new h = let s = up_to xs ys x h.0 new h.2 in (s.0, s.1, (h.0, h.1, s.2), s.3)

same_step : (e : Event (Unit {0})) (old new : Direct) → Happens ghosts old e new → agent_at new ≡ agent_at old
same_step (sent peer d) old new h = h.agent
same_step (send_failed peer d) old new h = h.agent
same_step (came peer d) old new h = h.agent
same_step silence old new h = h.agent
same_step receive_failed old new h = h.agent

same_agent : (events : List (Event (Unit {0}))) (old new : Direct) → Takes old events new → agent_at new ≡ agent_at old
same_agent [] old new h = ap agent_at h
same_agent (e ∷ more) old new h = same_agent more h.0 new h.2 ∙ same_step e old h.0 h.1

-- if `events` took the link from `old` to `new`, and `q` is the pending datagram of `new`, then a send of `q`, which may have failed,
-- is in `events`, or `q` was pending in `old`
waited : (events : List (Event (Unit {0}))) (old new : Direct) (q : List ℕ) → Takes old events new → pending new ≡ Some q
    → OneOf (tried events) q ⊎ (pending old ≡ Some q)
waited [] old new q h waits = inr (ap pending (sym h) ∙ waits)
waited (sent peer d ∷ more) old new q h waits = ⊎_elim (λ later. inl (inr later))
    (λ (now : pending h.0 ≡ Some q). let was : pending h.0 ≡ Some d = h.1.now in let e : q ≡ d = cc in inl (inl e)) (waited more h.0 new q h.2 waits)
waited (send_failed peer d ∷ more) old new q h waits = ⊎_elim (λ later. inl (inr later))
    (λ (now : pending h.0 ≡ Some q). let was : pending h.0 ≡ None = h.1.now in let never : ⊥ = cc in absurd never) (waited more h.0 new q h.2 waits)
waited (came peer d ∷ more) old new q h waits = ⊎_elim (λ later. inl later) (λ now. inr (sym h.1.now ∙ now)) (waited more h.0 new q h.2 waits)
waited (silence ∷ more) old new q h waits = ⊎_elim (λ later. inl later) (λ now. inr (sym h.1.now ∙ now)) (waited more h.0 new q h.2 waits)
waited (receive_failed ∷ more) old new q h waits = ⊎_elim (λ later. inl later) (λ now. inr (sym h.1.now ∙ now)) (waited more h.0 new q h.2 waits)

-- Let the events `before`, then the arrival of `r`, then the events `after` begin with a send. If `before` took the link from `old` to `at`, and `q` is pending
-- in `at`, then a send of `q`, which may have failed, is in `before`.
sent_before : (before after : List (Event (Unit {0}))) (r : List ℕ) (old at : Direct) (q : List ℕ)
    → BeginWithSend (before ++ came tt r ∷ after) → Takes old before at → pending at ≡ Some q → OneOf (tried before) q
sent_before [] after r old at q begins h waits = absurd begins
sent_before (sent peer d ∷ more) after r old at q begins h waits = ⊎_elim (λ later. inr later)
    (λ (now : pending h.0 ≡ Some q). let was : pending h.0 ≡ Some d = h.1.now in let e : q ≡ d = cc in inl e) (waited more h.0 at q h.2 waits)
sent_before (send_failed peer d ∷ more) after r old at q begins h waits = ⊎_elim (λ later. inr later)
    (λ (now : pending h.0 ≡ Some q). let was : pending h.0 ≡ None = h.1.now in let never : ⊥ = cc in absurd never) (waited more h.0 at q h.2 waits)
sent_before (came peer d ∷ more) after r old at q begins h waits = absurd begins
sent_before (silence ∷ more) after r old at q begins h waits = absurd begins
sent_before (receive_failed ∷ more) after r old at q begins h waits = absurd begins

pub are_replies : (events : List (Event (Unit {0}))) (old new : Direct) → Takes old events new → BeginWithSend events
    → AreReplies (agents_over (old.table.now ∷ []) old.config) events
are_replies events old new h begins before after peer r parts m spelt any =
    let s = up_to before after (came tt r) old new (subst (λ (es : List (Event (Unit {0}))). Takes old es new) parts h) in (
      s.3.datagram,
      sent_before before after r old s.0 s.3.datagram (subst BeginWithSend parts begins) s.2 s.3.waits,
      inl (old.table.now, inl refl, subst (λ (a : Agent). IsReply a s.3.datagram r) (same_agent before old s.0 s.2) s.3.reply),
    )
