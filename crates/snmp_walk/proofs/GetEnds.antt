-- The ends of a Get, and what each says of the names that it asked for (`prefix_of_reply`, `lost_get`).
use Rattle.std.proofs.{lemmas.Grind.common_steps, lemmas.Bool.eqb-true, lemmas.Bool.false≢true, lemmas.List.map-append, lemmas.List.nil_from_length}
use Rattle.std.proofs.Common.{◌≡◌, ◌≢◌, ◌⊎◌, inl, inr, ◌++◌, ◌<◌, ℕ, Bool, true, false, List, [], ◌∷◌, length, map, Result, Ok, Err, refl, sym, ◌∙◌}
use Rattle.std.proofs.Common.{ap, subst, append_assoc, append-nil, length-append, arith, replicate}
use Rattle.std.proofs.lemmas.Bool.Decides.{Decides-and, Decides-not, Decides-like, Decides-int_eq}
use Rattle.std.specs.{Prelude.not, Prelude.◌&&◌, Prelude.◌==◌, Bool.nat_eq, Bool.Decides}
use Rattle.std.specs.Cmp.Lexicographic.{pointwise, bytes_decides}
use Rattle.snmp_oid.specs.Identifier.{wire}
use Rattle.snmp_wire.specs.{Canon.canon, Message.Message, Message.VarBind, Message.end_of_mib_view, Spelling.Spells, Range.IsMessageInRange}
use Rattle.snmp_walk.specs.{Facts.IsDone, private.Course.Heard, Link.Outcome, Link.Agents, Link.OneOf, Link.AreLawful, Link.IsReplyFrom, Names.is_end}
use Rattle.snmp_walk.specs.{Read.Delivers, Read.all_taken, Read.is_refused, Sink.Took, declared.end.SinkFault.SinkFault, declared.end.WalkEnd.WalkEnd}
use Rattle.snmp_walk.specs.{declared.rows.Step.Step, private.Codec.Codec, StepRules.IsResponseTo, private.OwnReply.IsAsked, private.ComputedStep.awaits}
use Rattle.snmp_walk.specs.{RunResult.IsHonestFrom, RunResult.IsGetTried, Tries.IsNotAwaited, declared.link.Link.Ghosts as LinkFacts}
use Rattle.snmp_walk.specs.Get.{AreFor, AreForNames, IsEndOfGet, IsReasonOfGet, MeansToGet, answers_of, are_for, step_of, get_request, IsDelivered}
use Rattle.snmp_walk.specs.Get.{IsLostGet}
use Rattle.snmp_walk.specs.private.Course as heard
use Rattle.snmp_walk.specs.declared.end.WalkEnd.TheVariants as ending
use Rattle.snmp_walk.proofs.{OwnReply.lower_not_awaited}
use Rattle.snmp_walk.specs.{RunResult.AreOfLowerIds}
use Rattle.snmp_walk.proofs.{Names.end_decided, StepRules.response_to_decided, Lost.lost_of, Lost.reply_of}
use Rattle.snmp_wire.specs.declared.kind.Kind.TheVariants as kind
use Rattle.snmp_agent.specs.{Reply.IsResponse, table.Table.MibView}
use Rattle.snmp_walk.specs.Link as outcome
use Rattle.snmp_walk.proofs.OwnReply.{IsAnsweredBy, answered_by}

-- if p is for o, and `more` is for `names`, then `p ∷ more` is for `o ∷ names`
pub for_more : (o : List ℕ) (names : List (List ℕ)) (p : VarBind) (more : List VarBind)
    → ((p.name ≡ wire o) × (p.value ≡ end_of_mib_view → ⊥)) × AreFor names more → AreFor (o ∷ names) (p ∷ more)
for_more o names p more h = grind (arith, common_steps)

for_fewer : (o : List ℕ) (names : List (List ℕ)) (p : VarBind) (more : List VarBind) → AreFor (o ∷ names) (p ∷ more)
    → ((p.name ≡ wire o) × (p.value ≡ end_of_mib_view → ⊥)) × AreFor names more
for_fewer o names p more h =
    let named = h.named in
    let name : p.name ≡ wire o = cc in
    let others : map wire names ≡ map (λ q. q.name) more = cc in
    ((name, h.values p (inl refl)), record { named = others; values = λ q one. h.values q (inr one) })

pub for_nothing : AreFor [] []
for_nothing = record { named = refl; values = λ q one. absurd one }

for_decided : (names : List (List ℕ)) (bindings : List VarBind) → Decides (are_for names bindings) (AreFor names bindings)
for_decided [] [] = ((λ _. for_nothing), (λ _. refl))
for_decided (o ∷ names) (p ∷ more) =
    Decides-like _ (for_more o names p more) (for_fewer o names p more)
    (Decides-and (pointwise nat_eq p.name (wire o) && not (is_end p.value)) (are_for names more)
    (Decides-and (pointwise nat_eq p.name (wire o)) (not (is_end p.value)) (bytes_decides p.name (wire o))
    (Decides-not (is_end p.value) (end_decided p.value))) (for_decided names more))
for_decided names bindings = ((λ e. absurd (false≢true e)), (λ h. let named = h.named in let no : ⊥ = cc in absurd no))

-- `answers_of` computes what a reply means to a Get
pub means_to_get : (names : List (List ℕ)) (m : Message) → MeansToGet names m (answers_of names m)
means_to_get names m = grind (arith, common_steps, Decides-int_eq, for_decided)

-- a Get of these names can end with `end`, if the link may deliver anything
abbrev pub MayEnd : Message → List (List ℕ) → WalkEnd → Type 0
MayEnd request names end = IsEndOfGet (λ _ _. Unit {0}) (Unit {0}) (Unit {0}) request names end

-- the end isn't one that a Get of at least one name has without a reply: `RequestTooLong`, `NoResponse` or `Link`
abbrev pub IsByReply : WalkEnd → Type 0
IsByReply ending.RequestTooLong = ⊥
IsByReply ending.NoResponse = ⊥
IsByReply ending.Link = ⊥
IsByReply _ = Unit {0}

module _ {S : Type 0} (takes : S → VarBind → Result (Unit {0}) SinkFault → S → Type 0) (request : Message) (names : List (List ℕ))
    (Tried : Outcome → Type 0) (From : Message → Type 0) (before after : S) where
  -- the Get ended with `end`, which has its reason, after the sink took `rows` and perhaps refused one more
  pub record IsGot (end : WalkEnd) : Type 0 where
    pub rows : List VarBind
    pub refused : List VarBind
    pub took : Took takes before rows refused end after
    pub reason : IsReasonOfGet Tried From names rows refused end
    pub ends : MayEnd request names end

  -- if the reply m arrived, the Get ended by it
  module _ (m : Message) (from : From m) where
    by_step : (r : Result (List VarBind) WalkEnd) → MeansToGet names m r → (what : Heard) → Delivers takes (step_of (length names) r) before what after
        → (end : WalkEnd) × (what ≡ heard.ends end) × IsByReply end × IsGot end
    by_step (Ok all) means what (all_taken e given) =
        (ending.Done (length names), e, tt, record { rows = all; refused = []; took = (given, refl); reason = (m, from, means, refl); ends = refl })
    by_step (Ok all) means what (is_refused fault rows p left between parts e given turned) = (
      ending.Sink fault,
      e,
      tt,
      record {
        rows = rows;
        refused = p ∷ [];
        took = (between, given, (p, refl, turned));
        reason = (m, p, left, from, subst (λ (x : List VarBind). MeansToGet names m (Ok x)) parts means, refl);
        ends = tt;
      },
    )
    by_step (Err cause) (inl h) what (all_taken e given) = (
      ending.Fault m.a m.b,
      e ∙ ap heard.ends h.1,
      tt,
      record {
        rows = [];
        refused = [];
        took = (given, refl);
        reason = (m, from, inl (h.0, refl), refl);
        ends = tt;
      },
    )
    by_step (Err cause) (inr h) what (all_taken e given) = (
      ending.BadReply,
      e ∙ ap heard.ends h.2,
      tt,
      record {
        rows = [];
        refused = [];
        took = (given, refl);
        reason = (m, from, inr (h.0, h.1, refl), refl);
        ends = tt;
      },
    )
    by_step (Err cause) means what (is_refused fault rows p left between parts e given turned) =
        absurd (omega (arith, ap length parts, length-append rows (p ∷ left)))

    pub by_reply : (given : Step) (what : Heard) → given ≡ step_of (length names) (answers_of names m) → Delivers takes given before what after
        → (end : WalkEnd) × (what ≡ heard.ends end) × IsByReply end × IsGot end
    by_reply given what is d = by_step (answers_of names m) (means_to_get names m) what (subst (λ (x : Step). Delivers takes x before what after) is d)

module _ (names : List (List ℕ)) (Tried : Outcome → Type 0) (From : Message → Type 0) (rows refused : List VarBind) where
  -- `rows` and `refused` are a prefix of a reply's bindings, and all of them if the Get is done; or they are empty
  abbrev pub IsPrefixOfReply : WalkEnd → Type 0
  IsPrefixOfReply end = ((m : Message) × (left : List VarBind) × From m × MeansToGet names m (Ok ((rows ++ refused) ++ left))
      × (IsDone end → (left ≡ []) × (refused ≡ []))) ⊎ ((rows ++ refused ≡ []) × (IsDone end → ⊥))

  pub prefix_of_reply : (end : WalkEnd) → IsReasonOfGet Tried From names rows refused end → IsPrefixOfReply end
  prefix_of_reply (ending.Done count) r = inl (r.0, [], r.1, simp (r.3, append-nil) r.2, λ _. (refl, r.3))
  prefix_of_reply (ending.Sink fault) r = inl (r.0, r.2, r.3, simp (r.5, append_assoc) r.4, λ d. absurd d)
  prefix_of_reply ending.NoResponse r = inr (r.1, λ d. d)
  prefix_of_reply ending.RequestTooLong r = inr (r, λ d. d)
  prefix_of_reply ending.Link r = inr (r.1, λ d. d)
  prefix_of_reply end r = inr (r.3, λ d. d)

  pub for_names : (request : Message) (end : WalkEnd) → IsPrefixOfReply end → MayEnd request names end → names ≢ []
      → (65507 < length (canon request) → end ≡ ending.RequestTooLong) → AreForNames request names rows refused end
  for_names request end prefix ends some long =
      let f = by_prefix prefix in record {
        left = f.0;
        named = f.1;
        whole = f.2;
        ends = ends;
        no_names = λ none. absurd (some none);
        too_long = λ _. long;
      }
    where
      by_prefix : IsPrefixOfReply end → (left : List (List ℕ)) × (map wire names ≡ map (λ p. p.name) (rows ++ refused) ++ left)
          × (IsDone end → (left ≡ []) × (refused ≡ []))
      by_prefix (inl h) = (
        map (λ p. p.name) h.1,
        h.3.1.named ∙ ap (map (λ p. p.name)) (sym h.3.2) ∙ map-append (λ p. p.name) (rows ++ refused) h.1,
        λ d. (ap (map (λ p. p.name)) (h.4 d).0, (h.4 d).1),
      )
      by_prefix (inr h) = (map wire names, ap (λ (s : List VarBind). map (λ p. p.name) s ++ map wire names) (sym h.0), λ d. absurd (h.1 d))

pub some_names : (names : List (List ℕ)) (b : Bool) → b ≡ (length names == 0) → b ≡ false → names ≢ []
some_names names b e f none = false≢true (sym f ∙ e ∙ ap (λ (ns : List (List ℕ)). length ns == 0) none)

pub no_names : (names : List (List ℕ)) (b : Bool) → b ≡ (length names == 0) → b ≡ true → names ≡ []
no_names names b e f = nil_from_length names (eqb-true (length names) 0 (sym e ∙ f))

pub for_none : (request : Message) (names : List (List ℕ)) → names ≡ [] → AreForNames request names [] [] (ending.Done 0)
for_none request names none = record {
  left = [];
  named = ap (map wire) none;
  whole = λ _. (refl, refl);
  ends = sym (ap length none);
  no_names = λ _. tt;
  too_long = λ some. absurd (some none);
}

-- ---- an agent's reply to a Get is awaited, and is its Response

pub no_set : kind.GetRequest ≡ kind.SetRequest → ⊥
no_set k = cc

module _ (codec : Codec) (community : List ℕ) (id : ℕ) (names : List (List ℕ)) (ranged : IsMessageInRange (get_request community id names)) where
  abbrev Asked : Message
  Asked = get_request community id names

  answered : (agents : Agents) → AreLawful agents → (octets : List ℕ) → IsReplyFrom agents (canon Asked) octets
      → IsAnsweredBy codec Asked ranged no_set agents octets
  answered agents lawful octets h = answered_by codec Asked ranged no_set agents lawful octets h

  -- a message that the agents' reply encodes is the Response of one of them
  pub response_of : (agents : Agents) → AreLawful agents → (m : Message) (d : List ℕ) → Spells m d → IsReplyFrom agents (canon Asked) d
      → (view : MibView) × OneOf agents.tables view × (community ≡ agents.community) × IsResponse view agents.max_size Asked m
  response_of agents lawful m d spelt reply =
      let a = answered agents lawful d reply in
      let same = (codec.one a.message m d d [] [] a.spelt spelt refl).0 in
      (a.view, a.one, a.named, subst (IsResponse a.view agents.max_size Asked) same a.is_response)

  asked_alone : (agents : Agents) → AreLawful agents → (sent : List (List ℕ)) → AreOfLowerIds sent id
      → IsAsked agents (IsNotAwaited community id) (canon Asked) sent
  asked_alone agents lawful sent low = record {
    own = λ octets reply other. let a = answered agents lawful octets reply in
        other a.message a.spelt (subst (IsResponseTo community id) (sym a.is) (record { version = refl; community_is = refl; kind = refl; id_is = refl }));
    others = λ d one. inr (λ octets reply. lower_not_awaited codec agents lawful community id d octets (low d one) reply);
  }

  module _ {L : Type 0} (facts : LinkFacts L) (recording : (link : L) → facts.honest link → facts.records link) (link after : L) (tries : ℕ)
      (lawful : facts.honest link → AreLawful (facts.agents link)) where
    -- if the datagram d answered the Get's request and encodes m, and m is awaited, then m is the reply to that request (`IsDelivered`)
    pub brought : (m : Message) (d : List ℕ) → IsGetTried facts link after tries community id names (outcome.answered d) → Spells m d
        → awaits community id m ≡ true
        → IsDelivered (IsGetTried facts link after tries community id names) (facts.agents link) (IsHonestFrom facts id link) community id names m
    brought m d tried spelt awaited = (
      (response_to_decided community id m).0 awaited,
      λ h. response_of (facts.agents link) (lawful h.0) m d spelt
          (reply_of facts recording (IsNotAwaited community id) (canon Asked) tries link after h.0
          (asked_alone (facts.agents link) (lawful h.0) (facts.traffic link).sent h.1) d
          (λ other. other m spelt ((response_to_decided community id m).0 awaited)) tried),
      (d, tried, spelt),
    )

    -- if no reply arrived over an honest link, and earlier runs had lower ids, one of the agents has no reply to the request, or the deliveries lost the
    -- reply (`IsLostGet`)
    pub lost_get : IsGetTried facts link after tries community id names outcome.missed → IsHonestFrom facts id link
        → (facts.traffic after).sent ≡ (facts.traffic link).sent ++ replicate tries (canon Asked)
        → IsLostGet (facts.agents link) tries (facts.traffic link) (canon Asked) (facts.traffic after)
    lost_get tried h sent =
        let l = lost_of facts recording (IsNotAwaited community id) (canon Asked) tries link after h.0
        (asked_alone (facts.agents link) (lawful h.0) (facts.traffic link).sent h.1) tried in
        record { sent = sent; lost = elim l.2 [ inl none ↦ inl none | inr gone ↦ inr (l.0, l.1, gone) ] }
