-- Over an honest link, a datagram that answers a request is a reply to it (`reply_of`). If each try misses the reply, an agent has none, or the deliveries
-- used lost it (`lost_of`).
use Rattle.std.proofs.lemmas.Grind.{common_steps}
use Rattle.std.proofs.Common.{◌≡◌, ◌≢◌, ◌⊎◌, inl, inr, ℕ, zero, suc, ◌+◌, ◌<◌, List, [], ◌∷◌, ◌++◌, length, replicate, refl, sym, ◌∙◌, ap, subst}
use Rattle.std.proofs.Common.{arith, append-nil, Option, Some, None}
use Rattle.std.specs.List.{slice_get}
use Rattle.snmp_walk.specs.{Link.Agents, Link.OneOf, Link.IsReplyFrom, Link.IsUnanswered, private.OwnReply.IsAsked, Moved.IsMoved, Tries.InTurn}
use Rattle.snmp_walk.specs.{Tries.Gets, Tries.ReceivesDatagram, Tries.EndsTry, Tries.IsTry, Tries.AreTried, declared.link.Link.Ghosts as LinkFacts}
use Rattle.snmp_walk.specs.Link as outcome
use Rattle.snmp_walk.specs.Traffic.{latest, datagram_at, Gives, Receives, IsOther, resent, Lost}
use Rattle.snmp_walk.proofs.{Members.one_append, Members.one_same, Moves.sent_all, Moves.unused}
use Rattle.snmp_walk.proofs.Moves.{few_strays, moved_before, moved_delivering, moved_missed}

-- ---- the datagrams sent

one_of : (sent : List (List ℕ)) (k : ℕ) (d : List ℕ) → slice_get sent k ≡ Some d → OneOf sent d
one_of [] k d e = let no : ⊥ = cc in absurd no
one_of (x ∷ sent) zero d e = let same : d ≡ x = cc in inl same
one_of (x ∷ sent) (suc k) d e = inr (one_of sent k d e)

found : (sent : List (List ℕ)) (k : ℕ) (d : List ℕ) → datagram_at sent k ≡ Some d → OneOf sent d
found sent zero d e = let no : ⊥ = cc in absurd no
found sent (suc k) d e = one_of sent k d e

latest_is : (sent : List (List ℕ)) (q : List ℕ) → latest (sent ++ q ∷ []) ≡ Some q
latest_is [] q = refl
latest_is (d ∷ []) q = refl
latest_is (d ∷ e ∷ sent) q = latest_is (e ∷ sent) q

-- ---- one receive

module _ (agents : Agents) (Other : List ℕ → Type 0) (q : List ℕ) where
  -- if `IsAsked` holds of the datagrams sent, it still holds after q was sent n more times
  asked_on : (n : ℕ) (sent : List (List ℕ)) → IsAsked agents Other q sent → IsAsked agents Other q (sent ++ replicate n q)
  asked_on n sent a = grind (arith, common_steps, one_append, one_same)

  -- The deliveries that are in `ahead` before `left` lose `tries` tries of q, if the first of these tries has already received `count` other replies; or one
  -- of the agents has no reply to q. Below, that deliveries "lose" tries means this, with both cases.
  abbrev Loses : List (List ℕ) → List (Option ℕ) → (tries count : ℕ) → List (Option ℕ) → Type 0
  Loses sent ahead tries count left =
      (used : List (Option ℕ)) × (ahead ≡ used ++ left) × (IsUnanswered agents q ⊎ Lost agents sent q used tries count)

  loses_more : {sent other : List (List ℕ)} {ahead left : List (Option ℕ)} (tries count fewer more : ℕ) (next : List (Option ℕ)) (e : Option ℕ)
      → ahead ≡ e ∷ next
      → ((used : List (Option ℕ)) → Lost agents other q used fewer more → Lost agents sent q (e ∷ used) tries count) → Loses other next fewer more left
      → Loses sent ahead tries count left
  loses_more tries count fewer more next e parts lost l =
      (e ∷ l.0, parts ∙ ap (λ (es : List (Option ℕ)). e ∷ es) l.1, elim l.2 [ inl u ↦ inl u | inr h ↦ inr (lost l.0 h) ])

  module _ (sent : List (List ℕ)) (last : latest sent ≡ Some q) (asked : IsAsked agents Other q sent) where
    -- if a receive delivers d, and d isn't the reply to another datagram (`Other`), then d is a reply to q
    own_reply : (d : List ℕ) → (Other d → ⊥) → (ahead left : List (Option ℕ)) → Receives agents sent ahead (Some d) left → IsReplyFrom agents q d
    own_reply d own [] left r = rw last at r.1
    own_reply d own (None ∷ next) left r = let e = r.1 in let no : ⊥ = cc in absurd no
    own_reply d own (Some k ∷ next) left r = by_datagram (datagram_at sent k) refl r.1
      where
        by_datagram : (x : Option (List ℕ)) → datagram_at sent k ≡ x → Gives agents x (Some d) → IsReplyFrom agents q d
        by_datagram None e given = let no : ⊥ = cc in absurd no
        by_datagram (Some x) e given = elim (asked.others x (found sent k x e)) [
          | inl same ↦ subst (λ (y : List ℕ). IsReplyFrom agents y d) same given
          | inr other ↦ absurd (own (other d given))
        ]

    module _ (t : ℕ) (final : List (Option ℕ)) where
      -- if a receive returns nothing, which ends a try, and the deliveries after it lose t tries, then with this receive they lose t + 1
      nothing_lost : (count : ℕ) (ahead left : List (Option ℕ)) → Receives agents sent ahead None left → Loses (resent sent q t) left t 0 final
          → Loses sent ahead (suc t) count final
      nothing_lost count [] left r l = let none : IsUnanswered agents q = rw last at r.1 in (l.0, sym r.0 ∙ l.1, inl none)
      nothing_lost count (None ∷ next) left r l =
          loses_more (suc t) count t 0 left None (ap (λ (es : List (Option ℕ)). None ∷ es) (sym r.0)) (λ used h. inl (tt, h)) l
      nothing_lost count (Some k ∷ next) left r l =
          loses_more (suc t) count t 0 left (Some k) (ap (λ (es : List (Option ℕ)). Some k ∷ es) (sym r.0)) (λ used h. inl (r.1, h)) l

      -- if a receive returns another reply, and the deliveries after it lose the other tries (and the rest of this one, unless this was its 64th receive),
      -- then with this receive they lose t + 1 tries
      other_lost : (count : ℕ) (d : List ℕ) → Other d → (ahead left : List (Option ℕ)) → Receives agents sent ahead (Some d) left
          → ((count ≡ 63) × Loses (resent sent q t) left t 0 final) ⊎ ((count ≢ 63) × Loses sent left (suc t) (count + 1) final)
          → Loses sent ahead (suc t) count final
      other_lost count d other [] left r l = absurd (asked.own d (rw last at r.1) other)
      other_lost count d other (None ∷ next) left r l = let e = r.1 in let no : ⊥ = cc in absurd no
      other_lost count d other (Some k ∷ next) left r l =
          let here = ap (λ (es : List (Option ℕ)). Some k ∷ es) (sym r.0) in
          let it = by_datagram (datagram_at sent k) refl r.1 in
          elim l [
            | inl h ↦ loses_more (suc t) count t 0 left (Some k) here (λ used x. inr (inl (it, h.0, x))) h.1
            | inr h ↦ loses_more (suc t) count (suc t) (count + 1) left (Some k) here (λ used x. inr (inr (it, h.0, x))) h.1
          ]
        where
          by_datagram : (x : Option (List ℕ)) → datagram_at sent k ≡ x → Gives agents x (Some d) → IsOther agents sent q (Some k)
          by_datagram None e given = let no : ⊥ = cc in absurd no
          by_datagram (Some x) e given = (x, d, e, (λ same. asked.own d (subst (λ (y : List ℕ). IsReplyFrom agents y d) same given) other), given)

-- if deliveries lose t tries with q sent once more, they also do if q is sent once more only when t isn't 0 (`resent`)
resent_lost : (agents : Agents) (q : List ℕ) (sent : List (List ℕ)) (used : List (Option ℕ)) (t : ℕ) → Lost agents (sent ++ q ∷ []) q used t 0
    → Lost agents (resent sent q t) q used t 0
resent_lost agents q sent [] zero lost = lost
resent_lost agents q sent (e ∷ used) zero lost = absurd lost
resent_lost agents q sent used (suc t) lost = lost

-- ---- tries

module _ {L : Type 0} (facts : LinkFacts L) (recording : (link : L) → facts.honest link → facts.records link) (agents : Agents) (Other : List ℕ → Type 0)
    (q : List ℕ) where
  abbrev Ahead : L → List (Option ℕ)
  Ahead link = (facts.traffic link).ahead

  -- the link is honest, has these agents, and these datagrams were sent over it
  pub record Serves (sent : List (List ℕ)) (link : L) : Type 0 where
    pub honest : facts.honest link
    pub agents_are : facts.agents link ≡ agents
    pub sent_is : (facts.traffic link).sent ≡ sent

  serves_on : {sent more : List (List ℕ)} {n : ℕ} (old new : L) → Serves sent old → IsMoved facts old more n ⊥ new → Serves (sent ++ more) new
  serves_on {sent} {more} old new s m = grind (arith, common_steps, sent_all)

  module _ (sent : List (List ℕ)) (last : latest sent ≡ Some q) (asked : IsAsked agents Other q sent) where
    still_serves : {n : ℕ} (old new : L) → Serves sent old → IsMoved facts old [] n ⊥ new → Serves sent new
    still_serves old new s m = subst (λ (x : List (List ℕ)). Serves x new) (append-nil sent) (serves_on old new s m)

    given_by : (old new : L) (given : Option (List ℕ)) → Serves sent old → Gets facts old given new → Receives agents sent (Ahead old) given (Ahead new)
    given_by old new given s h = rw (s.agents_are, s.sent_is) at (h.1 s.honest)

    -- A try that has received `count` other replies receives `strays` too (`all` in total), and misses the reply. If the deliveries after the try lose t
    -- tries, then with the deliveries of this try from `strays` on they lose t + 1.
    try_lost : (t : ℕ) (final : List (Option ℕ)) (strays : List (List ℕ)) (count all : ℕ) (old now new : L) → all ≡ count + length strays → Serves sent old
        → count < 64 → InTurn (ReceivesDatagram facts) old strays now → ((d : List ℕ) → OneOf strays d → Other d) → EndsTry facts all now outcome.missed new
        → Loses agents Other q (resent sent q t) (Ahead new) t 0 final → Loses agents Other q sent (Ahead old) (suc t) count final
    try_lost t final [] count all old now new is s less h others (inl over) l =
        subst (λ (x : L). Loses agents Other q sent (Ahead x) (suc t) count final) h
        (nothing_lost agents Other q sent last asked t final count (Ahead now) (Ahead new)
        (given_by now new None (subst (Serves sent) (sym h) s) over.1.1) l)
    try_lost t final [] count all old now new is s less h others (inr over) l = absurd (omega (arith, is, less, over.0))
    try_lost t final (d ∷ []) count all old now new is s less h others (inr over) l =
        other_lost agents Other q sent last asked t final count d (others d (inl refl)) (Ahead old) (Ahead h.0) (given_by old h.0 (Some d) s h.1.1)
        (inl (omega (arith, is, over.0), rw (over.1, h.2) at l))
    try_lost t final (d ∷ []) count all old now new is s less h others (inl over) l =
        other_lost agents Other q sent last asked t final count d (others d (inl refl)) (Ahead old) (Ahead h.0) (given_by old h.0 (Some d) s h.1.1)
        (inr (
          (λ e. omega (arith, is, e, over.0)),
          try_lost t final [] (count + 1) all h.0 now new (omega (arith, is)) (still_serves old h.0 s h.1.1.0)
              (omega (arith, is, over.0)) h.2 (λ x one. absurd one) (inl over) l,
        ))
    try_lost t final (d ∷ more) count all old now new is s less h others over l =
        let few = few_strays facts Other q all now new outcome.missed over in
        other_lost agents Other q sent last asked t final count d (others d (inl refl)) (Ahead old) (Ahead h.0) (given_by old h.0 (Some d) s h.1.1)
        (inr (
          (λ e. omega (arith, is, e, few)),
          try_lost t final more (count + 1) all h.0 now new (omega (arith, is)) (still_serves old h.0 s h.1.1.0)
              (omega (arith, is, few)) h.2 (λ x one. others x (inr one)) over l,
        ))

  -- if each try of q missed the reply, then the deliveries that the tries used lose `length received` tries, the number of these tries
  tries_lost : (received : List (List (List ℕ))) (old new : L) (sent : List (List ℕ)) → Serves sent old → IsAsked agents Other q sent
      → InTurn (IsTry facts Other q outcome.missed) old received new
      → Loses agents Other q (sent ++ q ∷ []) (Ahead old) (length received) 0 (Ahead new)
  tries_lost [] old new sent s asked h = ([], ap Ahead (sym h), inr refl)
  tries_lost (strays ∷ more) old new sent s asked h =
      let now = sent ++ q ∷ [] in
      let t = h.1 in
      let still = asked_on agents Other q 1 sent asked in
      let l = tries_lost more h.0 new now (serves_on old h.0 s (moved_missed facts Other q old h.0 strays t)) still h.2 in
      let lost = try_lost now (latest_is sent q) still (length more) (Ahead new) strays 0 (length strays) t.between t.received.last h.0
      (omega arith) (serves_on old t.between s t.sent.1) (omega arith) t.received.brought t.received.others t.received.over (
        l.0,
        l.1,
        elim l.2 [ inl u ↦ inl u | inr x ↦ inr (resent_lost agents q now l.0 (length more) x) ],
      ) in
      (lost.0, unused (t.sent.1.used s.honest) ∙ lost.1, lost.2)

-- over an honest link, if `IsAsked` holds of the datagrams sent before: if all tries of q missed the reply, the deliveries used lose them (`lost_of`); if d
-- answered q, d is a reply to q (`reply_of`)
module _ {L : Type 0} (facts : LinkFacts L) (recording : (link : L) → facts.honest link → facts.records link) (Other : List ℕ → Type 0) (q : List ℕ)
    (tries : ℕ) (old new : L) (honest : facts.honest old) (asked : IsAsked (facts.agents old) Other q (facts.traffic old).sent) where
  pub lost_of : AreTried facts Other q tries old outcome.missed new
      → Loses (facts.agents old) Other q ((facts.traffic old).sent ++ q ∷ []) (facts.traffic old).ahead tries 0 (facts.traffic new).ahead
  lost_of h = rw (← h.all) (tries_lost facts recording (facts.agents old) Other q h.received old new (facts.traffic old).sent
      (record { honest = honest; agents_are = refl; sent_is = refl }) asked h.are_missed)

  pub reply_of : (d : List ℕ) → (Other d → ⊥) → AreTried facts Other q tries old (outcome.answered d) new → IsReplyFrom (facts.agents old) q d
  reply_of d own h = elim h.4 [
    | inl t ↦
        let agents = facts.agents old in
        let before = (facts.traffic old).sent ++ replicate h.0 q in
        let first : Serves facts recording agents Other q (facts.traffic old).sent old = record { honest = honest; agents_are = refl; sent_is = refl } in
        let s = serves_on facts recording agents Other q h.2 t.1.between (serves_on facts recording agents Other q old h.2 first
        (moved_before facts Other q h.0 old h.2 h.3)) t.1.sent.1 in
        let still = asked_on agents Other q 1 before (asked_on agents Other q h.0 (facts.traffic old).sent asked) in
        let r = t.1.received in
        let now = still_serves facts recording agents Other q (before ++ q ∷ []) (latest_is before q) still t.1.between r.last s
        (moved_delivering facts Other q t.0 t.1.between r.last r.brought) in
        own_reply agents Other q (before ++ q ∷ []) (latest_is before q) still d own (facts.traffic r.last).ahead (facts.traffic new).ahead
        (given_by facts recording agents Other q (before ++ q ∷ []) (latest_is before q) still r.last new (Some d) now r.over.1.1)
    | inr f ↦ let e = f.0 in let never : ⊥ = cc in absurd never
  ]
