-- Moves of a link compose: of two calls (`moves_on`), and of the tries of a request (`moved_of`, `tries_as`).
use Rattle.std.proofs.{lemmas.Grind.common_steps, lemmas.Grind.replicate_next, lemmas.List.nil_from_length, lemmas.List.length-replicate}
use Rattle.std.proofs.Common.{◌≡◌, ℕ, zero, suc, ◌+◌, ◌*◌, ◌≤◌, List, [], ◌∷◌, ◌++◌, length, replicate, sym, ◌∙◌, ap, subst, arith, Option}
use Rattle.std.proofs.Common.{append-nil, append_assoc, length-append, inl, inr, ◌-◌, ◌<◌, refl, ◌≢◌}
use Rattle.std.specs.Prelude.{false, true}
use Rattle.snmp_io.specs.Count.{HasIncreased}
use Rattle.snmp_walk.specs.{Moves.AreSent, Moves.AreUsed, Moves.Moves, Moves.octets_in, Moved.IsMoved, Moved.AreFew, Moved.IsMovedByTries}
use Rattle.snmp_walk.specs.{declared.link.Link.Ghosts as LinkFacts, Link.Outcome, Traffic.Traffic, declared.end.WalkEnd.WalkEnd}
use Rattle.snmp_walk.specs.Link as outcome
use Rattle.snmp_walk.specs.Tries.{InTurn, ReceivesDatagram, EndsTry, IsTry, IsLastTry, AreMissed, AreTried}
use Rattle.snmp_walk.specs.declared.end.WalkEnd.TheVariants as ending

-- ---- what was sent

pub octets-append : (xs ys : List (List ℕ)) → octets_in (xs ++ ys) ≡ octets_in xs + octets_in ys
octets-append [] ys = omega arith
octets-append (x ∷ xs) ys = let rest = octets-append xs ys in omega (arith, rest)

pub octets-replicate : (n : ℕ) (q : List ℕ) → octets_in (replicate n q) ≡ n * length q
octets-replicate zero q = omega arith
octets-replicate (suc n) q = omega (arith, octets-replicate n q)

pub nil_prefix : {X : Type 0} (prefix left : List X) → [] ≡ prefix ++ left → prefix ≡ []
nil_prefix prefix left e = nil_from_length prefix (omega (arith, ap length e, length-append prefix left))

pub sent_nothing : (failed : Type 0) {before after : List (List ℕ)} → after ≡ before → AreSent [] failed before after
sent_nothing failed {before} e = grind (arith, common_steps, append-nil)

pub sent_all : {tried before after : List (List ℕ)} {failed : Type 0} → (failed → ⊥) → AreSent tried failed before after → after ≡ before ++ tried
sent_all {tried} {before} fine h = grind (arith, common_steps, append-nil)

pub sent_none : {before after : List (List ℕ)} {failed : Type 0} → AreSent [] failed before after → after ≡ before
sent_none {before} h = h.sent ∙ ap (λ (s : List (List ℕ)). before ++ s) (nil_prefix h.prefix h.left h.parts) ∙ append-nil before

sent_more : (tried more before between after : List (List ℕ)) (failed : Type 0) → between ≡ before ++ tried → AreSent more failed between after
    → AreSent (tried ++ more) failed before after
sent_more tried more before between after failed e h = grind (arith, common_steps, append_assoc)

pub ok_fine : false ≡ true → ⊥
ok_fine e = cc

-- ---- the deliveries used

pub used_on : {ahead between left : List (Option ℕ)} {m n : ℕ} → AreUsed ahead m between → AreUsed between n left → AreUsed ahead (m + n) left
used_on {ahead} {between} {left} u v = (
  u.0 ++ v.0,
  u.1 ∙ ap (λ (es : List (Option ℕ)). u.0 ++ es) v.1 ∙ sym (append_assoc u.0 v.0 left),
  omega (arith, u.2, v.2, length-append u.0 v.0),
)

pub unused : {ahead left : List (Option ℕ)} → AreUsed ahead 0 left → ahead ≡ left
unused {ahead} {left} u = u.1 ∙ ap (λ (es : List (Option ℕ)). es ++ left) (nil_from_length u.0 (omega (arith, u.2)))

-- ---- how sends and receives change the link

pub by_equal : (R : ℕ → ℕ → Type 0) (s t o p : ℕ) → s ≡ t → o ≡ p → R s o → R t p
by_equal R s t o p e f h = subst (λ (x : ℕ). R x p) e (subst (R s) f h)

module _ {W : Type 0} (facts : LinkFacts W) where
  -- with no sends and no receives, `IsMoved` holds of a link and itself
  pub moves_none : (link : W) → IsMoved facts link [] 0 ⊥ link
  moves_none link = grind (arith, common_steps, sent_nothing, by_equal)

  -- if calls without a failure took the link from `old` to `between`, and more calls took it to `new`, all of them took it from `old` to `new`
  pub moves_on : {old between new : W} {tried more : List (List ℕ)} {k l : ℕ} {failed : Type 0} → IsMoved facts old tried k ⊥ between
      → IsMoved facts between more l failed new → IsMoved facts old (tried ++ more) (k + l) failed new
  moves_on {old} {between} {new} {tried} {more} {k} {l} {failed} m n = record {
    keeps = λ k. n.keeps (m.keeps k);
    honest = λ h. n.honest (m.honest h);
    agents = n.agents ∙ m.agents;
    sent = λ k. sent_more tried more (facts.traffic old).sent (facts.traffic between).sent (facts.traffic new).sent failed
        (sent_all (λ f. f) (m.sent k)) (n.sent (m.keeps k));
    used = λ h. used_on (m.used h) (n.used (m.honest h));
    count = λ fine. n.count fine ∙ m.count (λ f. f);
    fault = λ f. subst (λ (c : ℕ). HasIncreased c (facts.fault_count new)) (m.count (λ no. no)) (n.fault f);
    ready = λ s o r. n.ready s o (m.ready (s + length more) (o + octets_in more)
        (by_equal (facts.ready old) (s + length (tried ++ more)) (s + length more + length tried) (o + octets_in (tried ++ more))
        (o + octets_in more + octets_in tried) (omega (arith, length-append tried more)) (omega (arith, octets-append tried more)) r)).1;
  }

  -- if `IsMoved` holds with at most m receives and with `failed`, it holds with any n ≥ m, and with any proposition equivalent to `failed`
  pub moves_as : {old new : W} {tried : List (List ℕ)} {m n : ℕ} {failed other : Type 0} → m ≤ n → (failed → other) → (other → failed)
      → IsMoved facts old tried m failed new → IsMoved facts old tried n other new
  moves_as few there back m = grind (arith, common_steps)

  pub went : {old new : W} {tried : List (List ℕ)} {m n : ℕ} {failed : Type 0} → m ≤ n → (failed → ⊥) → IsMoved facts old tried m failed new
      → IsMoved facts old tried n ⊥ new
  went few fine m = moves_as few fine (λ f. absurd f) m

  -- from what the trait says of a receive into a buffer of at least 65507 octets, `IsMoved` follows
  pub received : {old new : W} {n : ℕ} {failed : Type 0} → 65507 ≤ n
      → Moves facts.records facts.honest facts.agents facts.traffic facts.fault_count (λ link s o. (65507 ≤ n) × facts.ready link s o) old [] 1 failed new
      → IsMoved facts old [] 1 failed new
  received long m = grind (arith, common_steps)

-- ---- how the tries of a request change the link

same_prefix : (q : List ℕ) (n : ℕ) (prefix left : List (List ℕ)) → replicate n q ≡ prefix ++ left → prefix ≡ replicate (length prefix) q
same_prefix q n [] left e = refl
same_prefix q zero (d ∷ prefix) left e = absurd cc
same_prefix q (suc n) (d ∷ prefix) left e =
    let rest : replicate n q ≡ prefix ++ left = cc in
    let first : d ≡ q = cc in
    let later = same_prefix q n prefix left rest in cc

module _ {L : Type 0} (facts : LinkFacts L) (Other : List ℕ → Type 0) (q : List ℕ) where
  abbrev Stays : (old new : L) (n : ℕ) (failed : Type 0) → Type 0
  Stays old new n failed = IsMoved facts old [] n failed new

  pub moved_delivering : (strays : List (List ℕ)) (old new : L) → InTurn (ReceivesDatagram facts) old strays new → Stays old new (length strays) ⊥
  moved_delivering [] old new h = subst (λ (l : L). Stays old l 0 ⊥) (sym h) (moves_none facts old)
  moved_delivering (d ∷ more) old new h =
      went facts (omega arith) (λ f. f) (moves_on facts h.1.1.0 (moved_delivering more h.0 new h.2))

  pub few_strays : (count : ℕ) (old new : L) (what : Outcome) → EndsTry facts count old what new → count ≤ 64
  few_strays count old new outcome.missed (inr h) = omega (arith, h.0)
  few_strays count old new outcome.missed (inl h) = omega (arith, h.0)
  few_strays count old new what h = omega (arith, h.0)

  moved_ending : (count : ℕ) (old new : L) (what : Outcome) → EndsTry facts count old what new → Stays old new (64 - count) (what ≡ outcome.cut_off)
  moved_ending count old new (outcome.answered d) h = moves_as facts (omega (arith, h.0)) (λ f. absurd f) (λ e. cc) h.1.1.0
  moved_ending count old new outcome.missed (inl h) = moves_as facts (omega (arith, h.0)) (λ f. absurd f) (λ e. cc) h.1.1.0
  moved_ending count old new outcome.missed (inr h) = grind (arith, common_steps, moves_as, moves_none)
  moved_ending count old new outcome.cut_off h = moves_as facts (omega (arith, h.0)) (λ f. refl) (λ e. tt) h.1.2

  pub moved_try : (what : Outcome) (old new : L) (strays : List (List ℕ)) → IsTry facts Other q what old strays new
      → IsMoved facts old (q ∷ []) 64 (what ≡ outcome.cut_off) new
  moved_try what old new strays t =
      let few = few_strays (length strays) t.received.last new what t.received.over in
      moves_as facts (omega (arith, few)) (λ f. f) (λ f. f) (moves_on facts t.sent.1
      (moves_on facts (moved_delivering strays t.between t.received.last t.received.brought)
      (moved_ending (length strays) t.received.last new what t.received.over)))

  pub moved_missed : (old new : L) (strays : List (List ℕ)) → IsTry facts Other q outcome.missed old strays new → IsMoved facts old (q ∷ []) 64 ⊥ new
  moved_missed old new strays t = went facts (omega arith) (λ e. cc) (moved_try outcome.missed old new strays t)

  moved_missing : (received : List (List (List ℕ))) (old new : L) → InTurn (IsTry facts Other q outcome.missed) old received new
      → IsMoved facts old (replicate (length received) q) (64 * length received) ⊥ new
  moved_missing [] old new h = subst (IsMoved facts old [] 0 ⊥) (sym h) (moves_none facts old)
  moved_missing (s ∷ more) old new h =
      went facts (omega arith) (λ f. f) (moves_on facts (moved_missed old h.0 s h.1) (moved_missing more h.0 new h.2))

  pub moved_before : (tries : ℕ) (old new : L) → AreMissed facts Other q tries old new → IsMoved facts old (replicate tries q) (64 * tries) ⊥ new
  moved_before tries old new h = rw (← h.all) (moved_missing h.received old new h.are_missed)

  sent_before : (tries : ℕ) (old new : L) → AreMissed facts Other q tries old new → facts.records old
      → (facts.traffic new).sent ≡ (facts.traffic old).sent ++ replicate tries q
  sent_before tries old new h keeps = sent_all (λ f. f) ((moved_before tries old new h).sent keeps)

  pub few_before : (tries : ℕ) (old new : L) → AreMissed facts Other q tries old new → AreFew facts old (64 * tries) new
  few_before tries old new h keeps =
      omega (arith, ap length (sent_before tries old new h keeps), length-append (facts.traffic old).sent (replicate tries q), length-replicate tries q)

  -- over a link that lists what is sent, a try of the request adds it to the list
  pub sent_try : (what : Outcome) (old new : L) (strays : List (List ℕ)) → IsTry facts Other q what old strays new → facts.records old
      → (facts.traffic new).sent ≡ (facts.traffic old).sent ++ q ∷ []
  sent_try what old new strays t keeps = grind (arith, common_steps, sent_none, moves_on, moved_delivering, moved_ending, sent_all)

  -- if at least one try is allowed, the tries of a request move the link (`IsMovedByTries`), which failed if and only if the outcome is `cut_off`
  unfoldable pub moved_of : (tries : ℕ) → 0 < tries → (what : Outcome) (old new : L) → AreTried facts Other q tries old what new
      → IsMovedByTries facts old q tries (what ≡ outcome.cut_off) new
  moved_of tries some outcome.missed old new h = (
    tries,
    omega arith,
    some,
    64 * tries,
    moves_as facts (omega arith) (λ f. absurd f) (λ e. cc) (moved_before tries old new h),
    few_before tries old new h,
    omega arith,
  )
  moved_of tries some what old new h = by_last h.4
    where
      once_more : {n : ℕ} → IsMoved facts h.2 (q ∷ []) n (what ≡ outcome.cut_off) new
          → IsMoved facts old (replicate (h.0 + 1) q) (64 * h.0 + n) (what ≡ outcome.cut_off) new
      once_more {n} m = subst (λ (d : List (List ℕ)). IsMoved facts old d (64 * h.0 + n) (what ≡ outcome.cut_off) new) (sym (replicate_next h.0 q))
          (moves_on facts (moved_before h.0 old h.2 h.3) m)

      by_last : IsLastTry facts Other q h.2 what new → IsMovedByTries facts old q tries (what ≡ outcome.cut_off) new
      by_last (inl t) = (
        h.0 + 1,
        omega (arith, h.1),
        omega arith,
        64 * h.0 + 64,
        once_more (moved_try what h.2 new t.0 t.1),
        λ keeps.
            omega (
              arith,
              few_before h.0 old h.2 h.3 keeps,
              ap length (sent_try what h.2 new t.0 t.1 ((moved_before h.0 old h.2 h.3).keeps keeps)),
              length-append (facts.traffic h.2).sent (q ∷ []),
            ),
        omega arith,
      )
      by_last (inr f) = (
        h.0 + 1,
        omega (arith, h.1),
        omega arith,
        64 * h.0 + 0,
        once_more (moves_as facts (omega arith) (λ _. f.0) (λ _. tt) f.1.2),
        λ keeps.
            omega (arith, few_before h.0 old h.2 h.3 keeps, ap (λ (t : Traffic). length t.sent) f.1.1),
        omega arith,
      )

  -- by the list of the datagrams sent, the request was sent at most `tries` times: at least once unless the link failed, and exactly `tries` times if no try
  -- received its reply
  abbrev pub IsSent : (tries : ℕ) → Outcome → L → L → Type 0
  IsSent tries what old new = (times : ℕ) × (times ≤ tries) × ((facts.traffic new).sent ≡ (facts.traffic old).sent ++ replicate times q)
      × ((what ≡ outcome.cut_off → ⊥) → 0 < times) × (what ≡ outcome.missed → times ≡ tries)

  pub sent_of : (tries : ℕ) → 0 < tries → (what : Outcome) (old new : L) → AreTried facts Other q tries old what new → facts.records old
      → IsSent tries what old new
  sent_of tries some outcome.missed old new h keeps = (tries, omega arith, sent_before tries old new h keeps, (λ fine. some), λ is. refl)
  sent_of tries some what old new h keeps =
      let m = moved_of tries some what old new h in
      let s = m.4.sent keeps in
      let long : m.0 ≡ length s.prefix + length s.left = omega (arith, ap length s.parts, length-append s.prefix s.left, length-replicate m.0 q) in (
        length s.prefix,
        omega (arith, m.1, long),
        s.sent ∙ ap (λ (ds : List (List ℕ)). (facts.traffic old).sent ++ ds) (same_prefix q m.0 s.prefix s.left s.parts),
        (λ fine. omega (arith, m.2, long, ap length (s.all fine))),
        λ is. cc,
      )

  -- if `IsMovedByTries` holds with `failed`, it holds with any proposition equivalent to `failed`
  abbrev pub tries_as : {old new : L} {tries : ℕ} {failed other : Type 0} → (failed → other) → (other → failed) → IsMovedByTries facts old q tries failed new
      → IsMovedByTries facts old q tries other new
  tries_as there back h = (h.0, h.1, h.2, h.3, moves_as facts (omega arith) there back h.4, h.5, h.6)

-- ---- the ends that an outcome allows

abbrev pub Suits : Outcome → WalkEnd → Type 0
Suits (outcome.answered d) end = (end ≢ ending.Link) × (end ≢ ending.NoResponse)
Suits outcome.missed end = end ≡ ending.NoResponse
Suits outcome.cut_off end = end ≡ ending.Link

abbrev pub Agrees : Outcome → WalkEnd → Type 0
Agrees what end = (what ≡ outcome.cut_off → end ≡ ending.Link) × (end ≡ ending.Link → what ≡ outcome.cut_off)
    × (end ≡ ending.NoResponse → what ≡ outcome.missed)

pub agrees : (what : Outcome) (end : WalkEnd) → Suits what end → Agrees what end
agrees (outcome.answered d) end h = ((λ e. cc), (λ e. absurd (h.0 e)), λ e. absurd (h.1 e))
agrees outcome.missed end h = ((λ e. cc), (λ e. cc), λ e. refl)
agrees outcome.cut_off end h = ((λ e. h), (λ e. refl), λ e. cc)
