-- The requests of a run, their ids and their number (`tries_push`, `moved_more`).
use Rattle.std.proofs.{lemmas.Grind.common_steps, Math.Nat.mul-le-mul_left, Math.Nat.mul-le-mul_right, lemmas.List.length-replicate}
use Rattle.std.proofs.Common.{◌≡◌, ◌⊎◌, inl, inr, ℕ, ◌+◌, ◌^◌, ◌<◌, ◌≤◌, List, [], ◌∷◌, ◌++◌, length, replicate, refl, sym, ◌∙◌, ap, subst}
use Rattle.std.proofs.Common.{arith, append-nil, append_assoc, length-append, ◌-◌, ◌*◌}
use Rattle.snmp_wire.specs.{Message.VarBind, Canon.canon}
use Rattle.snmp_walk.specs.{declared.mode.Phase.Phase, Trail.last_name, WalkState.WalkState, WalkState.IsWalkState, Request.request_of}
use Rattle.snmp_walk.specs.{Traffic.Traffic, Progress.IsStage, Progress.IsPaced}
use Rattle.snmp_walk.specs.{Progress.Reaches, Progress.Increases, Progress.Named, Moves.octets_in, declared.link.Link.Ghosts as LinkFacts}
use Rattle.snmp_walk.specs.declared.mode.Phase.TheVariants as phase
use Rattle.snmp_walk.specs.Run.{Try, sent_by, IsNameIn, AsksFor, Asks, AreTries, IsEachSent}
use Rattle.snmp_walk.proofs.Members.{one_append}
use Rattle.snmp_walk.specs.Moved.{IsMoved, IsMovedByTries, IsMovedByRequests}
use Rattle.snmp_walk.proofs.Moves.{by_equal, moves_none, moves_on, octets-append, octets-replicate}

-- ---- names

pub named_more : (rows more : List VarBind) (name : List ℕ) → IsNameIn rows name → IsNameIn (rows ++ more) name
named_more [] more name h = absurd h
named_more (p ∷ rows) more name (inl e) = inl e
named_more (p ∷ rows) more name (inr h) = inr (named_more rows more name h)

pub named_after : (prefix rows : List VarBind) (name : List ℕ) → IsNameIn rows name → IsNameIn (prefix ++ rows) name
named_after [] rows name h = h
named_after (p ∷ prefix) rows name h = inr (named_after prefix rows name h)

-- the last name is o or the name of one of the rows
last_named : (o : List ℕ) (rows : List VarBind) → (last_name o rows ≡ o) ⊎ IsNameIn rows (last_name o rows)
last_named o [] = inl refl
last_named o (p ∷ rows) = inr (last_named p.name rows)

asks_more : (first : WalkState) (rows more : List VarBind) (p : Phase) (by : WalkState) → AsksFor first rows p by → AsksFor first (rows ++ more) p by
asks_more first rows more phase.Rows by (inl e) = inl e
asks_more first rows more phase.Rows by (inr h) = inr (named_more rows more by.asked h)
asks_more first rows more p by h = h

asks_stage : (first : WalkState) (given : List VarBind) (p : Phase) (by : WalkState) → IsStage Increases Named first given by.asked p
    → IsPaced Increases Named first given by.id p → AsksFor first given p by
asks_stage first given phase.First by h paced = (h.1, h.2, paced)
asks_stage first given phase.Last by h paced = (h.1, h.2)
asks_stage first given phase.Over by h paced = absurd h
asks_stage first given phase.Rows by h paced = grind (arith, common_steps, last_named, named_after)

-- if the walk that began as `first` has reached w, then w's request is one that it can send, whatever rows it passes on later (`Asks`)
pub asks_now : (first w : WalkState) (given rows : List VarBind) → Reaches Increases Named first w given → Asks first (given ++ rows) w
asks_now first w given rows h = record { same = h.same; name = asks_more first given rows w.phase w (asks_stage first given w.phase w h.stage h.paced) }

-- ---- requests

pub tries_more : (tries : ℕ) (first : WalkState) (rows more : List VarBind) (id : ℕ) (requests : List Try) → AreTries tries first rows id requests
    → AreTries tries first (rows ++ more) id requests
tries_more tries first rows more id [] h = tt
tries_more tries first rows more id (t ∷ requests) h = grind (arith, common_steps, tries_more tries first rows more (id + 1) requests h.4, asks_more)

pub tries_push : (tries : ℕ) (first : WalkState) (rows : List VarBind) (id : ℕ) (requests : List Try) (t : Try) → AreTries tries first rows id requests
    → t.by.id ≡ id + length requests → t.by.id < 2 ^ 31 → t.times ≤ tries → Asks first rows t.by → AreTries tries first rows id (requests ++ t ∷ [])
tries_push tries first rows id [] t h e low few asks = let same : t.by.id ≡ id = omega (arith, e) in (same, omega (arith, low, same), few, asks, tt)
tries_push tries first rows id (u ∷ requests) t h e low few asks =
    (h.0, h.1, h.2, h.3, tries_push tries first rows (id + 1) requests t h.4 (omega (arith, e)) low few asks)

pub sent_push : (requests : List Try) (t : Try) → sent_by (requests ++ t ∷ []) ≡ sent_by requests ++ replicate t.times (canon (request_of t.by))
sent_push [] t = append-nil (replicate t.times (canon (request_of t.by)))
sent_push (u ∷ requests) t = grind (arith, common_steps, sent_push requests t, append_assoc)

pub each_push : (requests : List Try) (t : Try) → IsEachSent requests → 0 < t.times → IsEachSent (requests ++ t ∷ [])
each_push requests t each some u one = grind (arith, common_steps, one_append)

-- the datagrams sent between `old` and `now` are the walk's requests with ids from `first.id` on and below `next`, each at most `tries` times
pub record Sends (tries : ℕ) (first : WalkState) (given : List VarBind) (old : Traffic) (next : ℕ) (now : Traffic) : Type 0 where
  pub requests : List Try
  pub sent : now.sent ≡ old.sent ++ sent_by requests
  pub are_tries : AreTries tries first given first.id requests
  pub ids : next ≡ first.id + length requests

-- once the waiting request was sent too, at most `tries` times, `Sends` holds for the next id
abbrev pub sends_more : (tries times : ℕ) (first w : WalkState) (given rows : List VarBind) (old now later : Traffic) → IsWalkState w
    → Reaches Increases Named first w given → Sends tries first given old w.id now → times ≤ tries
    → later.sent ≡ now.sent ++ replicate times (canon (request_of w)) → Sends tries first (given ++ rows) old (w.id + 1) later
sends_more tries times first w given rows old now later good reached h few sent =
    let t : Try = record { by = w; times = times } in
    record {
      requests = h.requests ++ t ∷ [];
      sent = sent ∙ ap (λ (s : List (List ℕ)). s ++ replicate times (canon (request_of w))) h.sent
          ∙ append_assoc old.sent (sent_by h.requests) (replicate times (canon (request_of w)))
          ∙ ap (λ (s : List (List ℕ)). old.sent ++ s) (sym (sent_push h.requests t));
      are_tries = tries_push tries first (given ++ rows) first.id h.requests t
          (tries_more tries first given rows first.id h.requests h.are_tries) h.ids good.id few (asks_now first w given rows reached);
      ids = omega (arith, h.ids, length-append h.requests (t ∷ []));
    }

-- ---- the sends of a run over any link, request by request

-- if each request was sent at most `tries` times, then at most `tries` times as many datagrams as requests were sent
few_sent : (tries : ℕ) (first : WalkState) (rows : List VarBind) (id : ℕ) (requests : List Try) → AreTries tries first rows id requests
    → length (sent_by requests) ≤ length requests * tries
few_sent tries first rows id [] h = omega arith
few_sent tries first rows id (t ∷ more) h = grind (arith, common_steps, few_sent tries first rows (id + 1) more h.4, length-append, length-replicate)

module _ {W : Type 0} (facts : LinkFacts W) where
  -- Requests took the link from `old` to `now`. In total, the datagrams passed to sends have at most `tries` times 1,000 octets for each request. `to` is the
  -- id of the next request.
  pub record HasMoved (old : W) (tries : ℕ) (first : WalkState) (given : List VarBind) (to : ℕ) (failed : Type 0) (now : W) : Type 0 where
    pub by : IsMovedByRequests facts tries first given old failed now
    pub ids : to ≡ first.id + length by.requests
    pub short : octets_in (sent_by by.requests) ≤ length by.requests * tries * 1000

  abbrev pub moved_first : (link : W) (tries : ℕ) (first : WalkState) (given : List VarBind) → HasMoved link tries first given first.id ⊥ link
  moved_first link tries first given = record {
    by = record {
      requests = [];
      are_tries = tt;
      each_tried = λ t one. absurd one;
      receives = 0;
      moved = moves_none facts link;
      few = λ keeps. omega arith;
      within = omega arith;
    };
    ids = omega arith;
    short = omega arith;
  }

  abbrev pub moved_more : {old now new : W} {failed : Type 0} (tries : ℕ) (first w : WalkState) (given rows : List VarBind) → IsWalkState w
      → Reaches Increases Named first w given → HasMoved old tries first given w.id ⊥ now
      → IsMovedByTries facts now (canon (request_of w)) tries failed new → length (canon (request_of w)) ≤ 1000
      → HasMoved old tries first (given ++ rows) (w.id + 1) failed new
  moved_more {old} {now} {new} {failed} tries first w given rows good reached h t size =
      let one : Try = record { by = w; times = t.0 } in
      let q : List ℕ = canon (request_of w) in
      let n : ℕ = length h.by.requests in
      let longer : length (h.by.requests ++ one ∷ []) ≡ n + 1 = omega (arith, length-append h.by.requests (one ∷ [])) in
      let own : t.0 * length q ≤ t.0 * 1000 = mul-le-mul_left t.0 size in
      let sum : octets_in (sent_by (h.by.requests ++ one ∷ [])) ≡ octets_in (sent_by h.by.requests) + t.0 * length q =
      ap octets_in (sent_push h.by.requests one) ∙ octets-append (sent_by h.by.requests) (replicate t.0 q)
      ∙ ap (λ (k : ℕ). octets_in (sent_by h.by.requests) + k) (octets-replicate t.0 q) in
      record {
        by = record {
          requests = h.by.requests ++ one ∷ [];
          are_tries = tries_push tries first (given ++ rows) first.id h.by.requests one
              (tries_more tries first given rows first.id h.by.requests h.by.are_tries) h.ids good.id t.1 (asks_now first w given rows reached);
          each_tried = each_push h.by.requests one h.by.each_tried t.2;
          receives = h.by.receives + t.3;
          moved = subst (λ (d : List (List ℕ)). IsMoved facts old d (h.by.receives + t.3) failed new) (sym (sent_push h.by.requests one))
              (moves_on facts h.by.moved t.4);
          few = λ keeps. omega (arith, h.by.few keeps, t.5 (h.by.moved.keeps keeps));
          within = omega (
            arith,
            h.by.within,
            t.6,
            ap length (sent_push h.by.requests one),
            length-append (sent_by h.by.requests) (replicate t.0 q),
            length-replicate t.0 q,
          );
        };
        ids = omega (arith, h.ids, longer);
        short = subst (λ (k : ℕ). octets_in (sent_by (h.by.requests ++ one ∷ [])) ≤ k * tries * 1000) (sym longer)
            (omega (arith, own, t.1, h.short, sum));
      }

  -- if there were at most k + 2 requests, and the link was ready for the tries of k + 3, then none of its calls failed
  pub moved_fine : {old new : W} {failed : Type 0} (tries : ℕ) (first : WalkState) (given : List VarBind) (to : ℕ)
      → HasMoved old tries first given to failed new
      → (k : ℕ) → to ≤ first.id + k + 2 → facts.ready old ((k + 3) * tries) ((k + 3) * tries * 1000) → failed → ⊥
  moved_fine {old} {new} tries first given to h k few_ids ready =
      let tried : List (List ℕ) = sent_by h.by.requests in
      let few = few_sent tries first given first.id h.by.requests h.by.are_tries in
      let most : length h.by.requests * tries ≤ (k + 3) * tries =
      mul-le-mul_right tries (let least : length h.by.requests ≤ k + 3 = omega (arith, h.ids, few_ids) in least) in
      (h.by.moved.ready ((k + 3) * tries - length tried) ((k + 3) * tries * 1000 - octets_in tried)
      (by_equal (facts.ready old) ((k + 3) * tries) _ ((k + 3) * tries * 1000) _ (omega (arith, most, few)) (omega (arith, most, h.short)) ready)).0
