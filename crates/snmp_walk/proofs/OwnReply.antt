-- An agent's reply to the waiting request is honest (`honest_reply`, `any_reply`).
use Rattle.std.proofs.{lemmas.Grind.common_steps, lemmas.Int.ints, lemmas.List.nil_from_length}
use Rattle.std.proofs.Common.{◌≡◌, ◌≢◌, ◌≤ℤ◌, ◌⊎◌, inl, inr, ℕ, zero, ◌^◌, ◌<◌, ◌≤◌, List, [], ◌∷◌, ◌++◌, length, refl, sym, ◌∙◌, ap, subst, arith, ℤ}
use Rattle.std.proofs.Common.{pos, negsuc, length-append, append-nil, replicate, true, false}
use Rattle.std.specs.{Prelude.FitsSigned, Prelude.unsigned_abs, Int.w32, List.list_any}
use Rattle.snmp_wire.specs.declared.kind.Kind.TheVariants as kind
use Rattle.snmp_wire.specs.{Message.VarBind, Message.Message, Message.null_value, Name.asking, Spelling.Spells, Canon.canon, Range.IsMessageInRange}
use Rattle.snmp_walk.specs.{private.Codec.Codec, declared.mode.Method.Method, declared.mode.Phase.Phase, private.ComputedStep.is_over, StepRules.IsResponseTo}
use Rattle.snmp_walk.specs.{Names.is_end, Run.IsFull, Run.IsFullReply, private.OwnReply.IsAsked, private.OwnReply.IsEarlier, Tries.IsNotAwaited}
use Rattle.snmp_walk.specs.{private.OwnReply.IsSentBefore, RunResult.AreOfLowerIds, Request.IsOfLowerId}
use Rattle.snmp_walk.specs.{Tries.IsTried, declared.link.Link.Ghosts as LinkFacts, Responses.IsResponseFrom, Responses.MayRespond, WalkState.WalkState}
use Rattle.snmp_walk.specs.{WalkState.HasRange, WalkState.IsMethod, WalkState.IsWalkState, Request.request_of, Request.request_kind}
use Rattle.snmp_walk.specs.{Request.request_repetitions}
use Rattle.snmp_walk.specs.{Request.asked_for, Progress.IsChain, Progress.IsGetContent, Progress.IsLarge, Progress.IsReplyContent, Progress.IsReplyTo}
use Rattle.snmp_agent.specs.{table.Table.MibView, table.Table.IsMibView, table.Table.IsGet, table.Table.IsNext, declared.config.DropReason.DropReason}
use Rattle.snmp_agent.specs.declared.config.DropReason.TheVariants as why
use Rattle.snmp_agent.specs.Reply.{Agent, IsDropped, IsServed, response, AreAnswers, got, got_next, unwritten, Fits, IsBulk, IsLongestPrefix}
use Rattle.snmp_agent.specs.Reply.{IsResponse, whole, shortened, bulk, no_error}
use Rattle.snmp_walk.specs.declared.mode.Method.TheVariants as method
use Rattle.snmp_walk.specs.declared.mode.Phase.TheVariants as phase
use Rattle.snmp_walk.specs.Link.{Agents, OneOf, agent_in, full_response, AreLawful, IsNextFrom, IsGotFrom, IsTooLarge, IsReplyFrom}
use Rattle.snmp_walk.proofs.{RequestParts.name_short, SortedRows.view_of, Room.longer_full, Lost.reply_of}
use Rattle.snmp_walk.proofs.{Members.one_append, Members.one_same}
use Rattle.snmp_walk.proofs.Bulk.{IsOneBulk, one_bulk, chain_prefix, chain_by}
use Rattle.snmp_walk.specs.Link as outcome
use Rattle.snmp_walk.specs.Responses as sending

-- whole numbers from 0 on and below 2^31 fit into a signed number of 32 bits
pub fits_from : (n : ℕ) → n < 2 ^ 31 → FitsSigned w32 (pos n)
fits_from n h = omega arith

few_by : (n : ℕ) (z : ℤ) → pos n ≤ℤ z → n ≤ unsigned_abs z
few_by n (pos k) h = omega (arith, ints, h)
few_by n (negsuc k) h = omega (arith, ints, h)

few_of : (n : ℕ) (z : ℤ) → pos 1 ≤ℤ z → n ≤ unsigned_abs z → pos n ≤ℤ z
few_of n (pos k) some h = omega (arith, ints, h)
few_of n (negsuc k) some h = absurd (omega (arith, ints, some))

repetitions_fit : (p : Phase) (m : Method) → HasRange m → FitsSigned w32 (request_repetitions p m)
repetitions_fit phase.Rows (method.Bulk r) h = h
repetitions_fit p m h = fits_from 0 (omega arith)

pub request_in_range : (w : WalkState) → IsWalkState w → IsMessageInRange (request_of w)
request_in_range w good = grind (arith, common_steps, fits_from, repetitions_fit, name_short)

-- the error status of a message is 0 or isn't
error_of : (z : ℤ) → (z ≡ pos 0) ⊎ (Unit {0} × (z ≢ pos 0))
error_of (pos zero) = inl refl
error_of z = inr (tt, λ e. let no : ⊥ = cc in no)

pub error_or_none : (m : Message) → (m.a ≡ pos 0) ⊎ (Unit {0} × (m.a ≢ pos 0))
error_or_none m = error_of m.a

-- q is a request in range and not a Set
module _ (codec : Codec) (q : Message) (ranged : IsMessageInRange q) (no_set : q.kind ≡ kind.SetRequest → ⊥) where
  pub own : Spells q (canon q)
  own = codec.read q (canon q) (codec.strict q ranged)

  response_by : (view : MibView) (n : ℕ) (r : Message) → IsResponse view n q r
      → (status : ℤ) × (bindings : List VarBind) × (r ≡ response q status (pos 0) bindings)
  response_by view n r (whole (got bindings k answers e) fits) = (pos 0, bindings, e)
  response_by view n r (whole (got_next bindings k answers e) fits) = (pos 0, bindings, e)
  response_by view n r (whole (unwritten k e) fits) = absurd (no_set k)
  response_by view n r (shortened large a no_fit e) = (pos 1, [], e)
  response_by view n r (bulk all bindings k asked longest e) = (pos 0, bindings, e)

  -- `octets` encode a Response of one of the agents to q
  pub record IsAnsweredBy (agents : Agents) (octets : List ℕ) : Type 0 where
    pub message : Message
    pub spelt : Spells message octets
    pub status : ℤ
    pub bindings : List VarBind
    pub is : message ≡ response q status (pos 0) bindings
    pub view : MibView
    pub one : OneOf agents.tables view
    pub named : q.community ≡ agents.community
    pub is_response : IsResponse view agents.max_size q message

  pub answered_by : (agents : Agents) → AreLawful agents → (octets : List ℕ) → IsReplyFrom agents (canon q) octets → IsAnsweredBy agents octets
  answered_by agents lawful octets (view, one, agent) =
      let same : agent.request ≡ q = (codec.one agent.request q (canon q) (canon q) [] [] agent.is_request.spelt own refl).0 in
      let is_response = subst (λ (x : Message). IsResponse view agents.max_size x agent.response) same agent.is_response in
      let by = response_by view agents.max_size agent.response is_response in
      record {
        message = agent.response;
        spelt = codec.reply (agent_in agents view) (canon q) octets (view_of agents.tables lawful.views view one) (omega (arith, lawful.size)) agent;
        status = by.0;
        bindings = by.1;
        is = by.2;
        view = view;
        one = one;
        named = ap (λ (x : Message). x.community) (sym same) ∙ agent.is_request.named;
        is_response = is_response;
      }

-- an agent doesn't drop a request of SNMPv2c with its community, of a kind that it serves, if it has room for each Response to it
pub no_drop : Codec → (q : Message) → Spells q (canon q) → q.version ≡ pos 1 → (agent : Agent) → q.community ≡ agent.community → IsServed q.kind
    → ((r : Message) → IsResponse agent.view agent.max_size q r → Fits agent.max_size r) → (cause : DropReason) → IsDropped agent (canon q) cause → ⊥
no_drop codec q own version agent named served fits = elim [
  | why.Undecodable ↦ λ d. d q own
  | why.Version ↦ λ d. d.2 (ap (λ (m : Message). m.version) (same d.0 d.1) ∙ version)
  | why.Community ↦ λ d. d.3 (ap (λ (m : Message). m.community) (same d.0 d.1) ∙ named)
  | why.Pdu ↦ λ d. d.4 (subst (λ (m : Message). IsServed m.kind) (sym (same d.0 d.1)) served)
  | why.TooLong ↦ λ d. d.4 (fits d.1 (subst (λ (m : Message). IsResponse agent.view agent.max_size m d.1) (same d.0 d.2.spelt) d.3))
]
  where
    same : (m : Message) → Spells m (canon q) → m ≡ q
    same m spelt = (codec.one m q (canon q) (canon q) [] [] spelt own refl).0

-- the answers to a request for one name are one binding
pub one_answer : (R : VarBind → VarBind → Type 0) (o : List ℕ) (bindings : List VarBind) → AreAnswers R (record { name = o; value = null_value } ∷ []) bindings
    → (p : VarBind) × (bindings ≡ p ∷ []) × R (record { name = o; value = null_value }) p
one_answer R o [] h = absurd h
one_answer R o (p ∷ []) h = (p, refl, h.0)
one_answer R o (p ∷ q ∷ more) h = absurd h.1

-- a request that is a Get is the first or the last of its walk
pub get_phase : (p : Phase) (m : Method) → is_over p ≡ false → request_kind p m ≡ kind.GetRequest → (p ≡ phase.First) ⊎ (p ≡ phase.Last)
get_phase phase.First m waits k = inl refl
get_phase phase.Last m waits k = inr refl
get_phase phase.Rows method.Next waits k = let never : ⊥ = cc in absurd never
get_phase p m waits k = let never : ⊥ = cc in absurd never

next_phase : (p : Phase) (m : Method) → request_kind p m ≡ kind.GetNextRequest → (p ≡ phase.Rows) × (m ≡ method.Next)
next_phase phase.Rows method.Next k = (refl, refl)
next_phase p m k = let never : ⊥ = cc in absurd never

pub bulk_phase : (p : Phase) (m : Method) → request_kind p m ≡ kind.GetBulkRequest → (p ≡ phase.Rows) × (repetitions : ℤ) × (m ≡ method.Bulk repetitions)
bulk_phase phase.Rows (method.Bulk r) k = (refl, r, refl)
bulk_phase p m k = let never : ⊥ = cc in absurd never

pub set_phase : (p : Phase) (m : Method) → request_kind p m ≡ kind.SetRequest → ⊥
set_phase phase.Rows method.Next k = cc
set_phase p m k = cc

-- the replies of an agent that serves the table `view` to the waiting request
module _ (codec : Codec) (agents : Agents) (w : WalkState) (good : IsWalkState w) (view : MibView) (view_good : IsMibView view) where
  bulk_of : (all : List VarBind) → IsBulk view (request_of w) all → IsOneBulk codec view view_good w.asked (request_repetitions w.phase w.method) all
  bulk_of all asked = one_bulk codec view view_good (request_of w) w.asked all refl refl asked

  prefix_chain : (all bindings : List VarBind) → IsBulk view (request_of w) all → IsLongestPrefix agents.max_size (request_of w) all bindings
      → IsChain (IsNext view) w.asked bindings
  prefix_chain all bindings asked longest =
      chain_prefix (IsNext view) w.asked bindings longest.more (subst (IsChain (IsNext view) w.asked) longest.prefix (bulk_of all asked).chain)

  module _ (waits : is_over w.phase ≡ false) (one : OneOf agents.tables view) (community : w.community ≡ agents.community) where
    abbrev IsContent : Phase → Message → Type 0
    IsContent p m = IsReplyContent (IsNextFrom agents) (IsGotFrom agents) (IsTooLarge agents) p w m

    get_content : (m : Message) → (w.phase ≡ phase.First) ⊎ (w.phase ≡ phase.Last) → IsGetContent (IsGotFrom agents) (IsTooLarge agents w.id) w.asked m
        → IsContent w.phase m
    get_content m (inl e) c = subst (λ (p : Phase). IsContent p m) (sym e) c
    get_content m (inr e) c = subst (λ (p : Phase). IsContent p m) (sym e) c

    -- if the Response with p only doesn't fit into a message of the agents, then p is too large (`IsTooLarge`)
    large : (p : VarBind) → (Fits agents.max_size (response (request_of w) no_error (pos 0) (p ∷ [])) → ⊥) → IsTooLarge agents w.id p
    large p no_fit =
        let more : agents.max_size < length (canon (full_response w.community w.id (p ∷ []))) = omega (arith, no_fit) in (good.id, rw community at more)

    too_large : (m : Message) (bindings : List VarBind) (p : VarBind) → bindings ≡ p ∷ [] → m ≡ response (request_of w) no_error (pos 0) bindings
        → (Fits agents.max_size m → ⊥) → IsTooLarge agents w.id p
    too_large m bindings p only e no_fit =
        large p (λ fit. no_fit (subst (Fits agents.max_size) (sym (e ∙ ap (response (request_of w) no_error (pos 0)) only)) fit))

    -- a Response that the agent may send has bindings that were asked for, or is tooBig because they have no room
    content_of : (r : Message) → MayRespond view agents.max_size (request_of w) r → IsContent w.phase r
    content_of r (sending.whole (got bindings k answers e)) =
        let p = one_answer (λ asked given. IsGet view asked.name given) w.asked bindings answers in
        subst (IsContent w.phase) (sym e) (get_content (response (request_of w) (pos 0) (pos 0) bindings) (get_phase w.phase w.method waits k)
        (inl (refl, (p.0, (view, one, p.2), p.1))))
    content_of r (sending.whole (got_next bindings k answers e)) =
        let p = one_answer (λ asked given. IsNext view asked.name given) w.asked bindings answers in
        let at = next_phase w.phase w.method k in
        let chain : IsChain (IsNextFrom agents) w.asked bindings = subst (IsChain (IsNextFrom agents) w.asked) (sym p.1) ((view, one, p.2), tt) in
        let count : length bindings ≡ asked_for w.method = ap length p.1 ∙ sym (ap asked_for at.1) in
        let some : bindings ≡ [] → IsLarge (IsNextFrom agents) (IsTooLarge agents w.id) w.asked =
        λ none. let both = p.1 in let never : ⊥ = cc in absurd never in
        subst (IsContent w.phase) (sym e) (subst (λ (q : Phase). IsContent q (response (request_of w) (pos 0) (pos 0) bindings)) (sym at.0)
        (inl (refl, chain, omega (arith, count), some)))
    content_of r (sending.whole (unwritten k e)) = absurd (set_phase w.phase w.method k)
    content_of r (sending.shortened m (got bindings k answers e) no_fit is) =
        let p = one_answer (λ asked given. IsGet view asked.name given) w.asked bindings answers in
        subst (IsContent w.phase) (sym is) (get_content (response (request_of w) (pos 1) (pos 0) []) (get_phase w.phase w.method waits k)
        (inr (refl, refl, (p.0, (view, one, p.2), too_large m bindings p.0 p.1 e no_fit))))
    content_of r (sending.shortened m (got_next bindings k answers e) no_fit is) =
        let p = one_answer (λ asked given. IsNext view asked.name given) w.asked bindings answers in
        subst (IsContent w.phase) (sym is) (subst (λ (q : Phase). IsContent q (response (request_of w) (pos 1) (pos 0) []))
        (sym (next_phase w.phase w.method k).0) (inr (refl, refl, (p.0, (view, one, p.2), too_large m bindings p.0 p.1 e no_fit))))
    content_of r (sending.shortened m (unwritten k e) no_fit is) = absurd (set_phase w.phase w.method k)
    content_of r (sending.bulk asked bindings k singles names chain few none e) =
        let at = bulk_phase w.phase w.method k in
        let repetitions : request_repetitions w.phase w.method ≡ at.1 = ap (λ (q : Phase). request_repetitions q w.method) at.0
        ∙ ap (request_repetitions phase.Rows) at.2 in
        let count : unsigned_abs (request_repetitions w.phase w.method) ≡ asked_for w.method =
        ap unsigned_abs repetitions ∙ sym (ap asked_for at.2) in
        let name : asked.name ≡ w.asked = cc in
        let chained : IsChain (IsNext view) w.asked bindings = subst (λ (o : List ℕ). IsChain (IsNext view) o bindings) name chain in
        let chain_from = chain_by (IsNext view) (IsNextFrom agents) (λ o p n. (view, one, n)) w.asked bindings chained in
        subst (IsContent w.phase) (sym e) (subst (λ (q : Phase). IsContent q (response (request_of w) (pos 0) (pos 0) bindings)) (sym at.0) (inl (
          refl,
          chain_from,
          omega (arith, few_by (length bindings) (request_repetitions w.phase w.method) few, count),
          λ empty. let p = none empty in (p.0, (view, one, subst (λ (o : List ℕ). IsNext view o p.0) name p.1), large p.0 p.2),
        )))

    -- if the longest prefix that fits is empty, the first binding has no room
    first_large : (all bindings : List VarBind) → bindings ≡ [] → IsChain (IsNext view) w.asked all → all ≢ []
        → IsLongestPrefix agents.max_size (request_of w) all bindings
        → (p : VarBind) × IsNext view w.asked p × (Fits agents.max_size (response (request_of w) no_error (pos 0) (p ∷ [])) → ⊥)
    first_large [] bindings none chain some longest = absurd (some refl)
    first_large (p ∷ later) bindings none chain some longest = (
      p,
      chain.0,
      λ fit.
          let short : length (p ∷ []) ≤ length bindings = longest.longest (p ∷ []) later refl fit in
          absurd (omega (arith, short, ap length none)),
    )

    positive : request_kind w.phase w.method ≡ kind.GetBulkRequest → pos 1 ≤ℤ request_repetitions w.phase w.method
    positive k =
        let at = bulk_phase w.phase w.method k in
        rw (at.0, at.2) (subst IsMethod at.2 good.method)

    -- the Responses of `snmp_agent` are among those that agents may send
    may_respond : (r : Message) → IsResponse view agents.max_size (request_of w) r → MayRespond view agents.max_size (request_of w) r
    may_respond r (whole is fits) = sending.whole is
    may_respond r (shortened m is no_fit e) = sending.shortened m is no_fit e
    may_respond r (bulk all bindings k asked longest e) =
        let one_name = bulk_of all asked in
        let few : length bindings ≤ unsigned_abs (request_repetitions w.phase w.method) =
        omega (arith, ap length longest.prefix, length-append bindings longest.more, one_name.few) in
        sending.bulk (asking w.asked) bindings k refl refl (prefix_chain all bindings asked longest)
        (few_of (length bindings) (request_repetitions w.phase w.method) (positive k) few)
        (λ none. first_large all bindings none one_name.chain (one_name.some (positive k)) longest) e

    -- if there is room for all bindings, the Response with them fits
    all_fit : (all : List VarBind) → length (canon (full_response agents.community 2147483647 all)) ≤ agents.max_size
        → Fits agents.max_size (response (request_of w) no_error (pos 0) all)
    all_fit all room =
        let longer = longer_full codec agents.community w.id 2147483647 all (omega (arith, good.id)) in
        let fits : length (canon (full_response agents.community w.id all)) ≤ agents.max_size = omega (arith, room, longer) in
        rw (← community) at fits

    -- a prefix of a list that isn't shorter than the list is the whole list
    whole_prefix : (all bindings more : List VarBind) → all ≡ bindings ++ more → length all ≤ length bindings → all ≡ bindings
    whole_prefix all bindings more prefix long =
        let none = nil_from_length more (omega (arith, long, ap length prefix, length-append bindings more)) in
        prefix ∙ ap (λ (s : List VarBind). bindings ++ s) none ∙ append-nil bindings

    -- the Response has all bindings if they have room
    full_of : (r : Message) → IsResponse view agents.max_size (request_of w) r → IsFullReply agents w r
    full_of r (whole (got bindings k answers e) fits) room rows status = elim (get_phase w.phase w.method waits k) [
      | inl first ↦ let no : ⊥ = cc in absurd no
      | inr last ↦ let no : ⊥ = cc in absurd no
    ]
    full_of r (whole (got_next bindings k answers e) fits) room rows status =
        let p = one_answer (λ asked given. IsNext view asked.name given) w.asked bindings answers in
        inl (ap (λ (m : Message). length m.bindings) e ∙ ap length p.1 ∙ sym (ap asked_for (next_phase w.phase w.method k).1))
    full_of r (whole (unwritten k e) fits) room rows status = absurd (set_phase w.phase w.method k)
    full_of r (shortened m is no_fit e) room rows status = let never : ⊥ = cc in absurd never
    full_of r (bulk all bindings k asked longest e) room rows status =
        let at = bulk_phase w.phase w.method k in
        let count : unsigned_abs (request_repetitions w.phase w.method) ≡ asked_for w.method = rw (at.0, at.2) refl in
        let long : length all ≤ length bindings = longest.longest all [] (sym (append-nil all)) (all_fit all (room view one all asked)) in
        let is : all ≡ r.bindings = whole_prefix all bindings longest.more longest.prefix long ∙ sym (ap (λ (m : Message). m.bindings) e) in
        subst (IsFull w.method) is
        (subst (λ (n : ℕ). (length all ≡ n) ⊎ (list_any (λ p. is_end p.value) all ≡ true)) count ((bulk_of all asked).full (positive k)))

-- the reply of one of the agents to the waiting request encodes an honest reply, which has all bindings if they have room
pub honest_reply : Codec → (agents : Agents) → AreLawful agents → (w : WalkState) → IsWalkState w → is_over w.phase ≡ false → (reply : List ℕ)
    → IsReplyFrom agents (canon (request_of w)) reply
    → (m : Message) × Spells m reply × IsReplyTo (IsNextFrom agents) (IsGotFrom agents) (IsTooLarge agents) w m × IsFullReply agents w m
honest_reply codec agents lawful w good waits reply h =
    let a = answered_by codec (request_of w) (request_in_range w good) (set_phase w.phase w.method) agents lawful reply h in
    let view_good = view_of agents.tables lawful.views a.view a.one in
    let sent = may_respond codec agents w good a.view view_good waits a.one a.named a.message a.is_response in (
      a.message,
      a.spelt,
      record {
        response = subst (IsResponseTo w.community w.id) (sym a.is) (record { version = refl; community_is = refl; kind = refl; id_is = refl });
        content = content_of codec agents w good a.view view_good waits a.one a.named a.message sent;
      },
      full_of codec agents w good a.view view_good waits a.one a.named a.message a.is_response,
    )

-- m is a Response that one of the agents may send to q, a request that isn't a Set
module _ (codec : Codec) (q : Message) (ranged : IsMessageInRange q) (no_set : q.kind ≡ kind.SetRequest → ⊥) (agents : Agents) (m : Message)
    (h : IsResponseFrom agents (canon q) m) where
  same_request : h.request ≡ q
  same_request = (codec.one h.request q (canon q) (canon q) [] [] h.is_request.spelt (own codec q ranged no_set) refl).0

  pub may_be : MayRespond h.view agents.max_size q m
  may_be = subst (λ (x : Message). MayRespond h.view agents.max_size x m) same_request h.may

  pub of_community : q.community ≡ agents.community
  of_community = ap (λ (x : Message). x.community) (sym same_request) ∙ h.is_request.named

  form : MayRespond h.view agents.max_size q m → (status index : ℤ) × (bindings : List VarBind) × (m ≡ response q status index bindings)
  form (sending.whole (got bindings k answers e)) = (pos 0, pos 0, bindings, e)
  form (sending.whole (got_next bindings k answers e)) = (pos 0, pos 0, bindings, e)
  form (sending.whole (unwritten k e)) = absurd (no_set k)
  form (sending.shortened large is no_fit e) = (pos 1, pos 0, [], e)
  form (sending.bulk asked bindings k singles names chain few none e) = (pos 0, pos 0, bindings, e)

  pub responds : (id : ℕ) → q.version ≡ pos 1 → q.id ≡ pos id → IsResponseTo q.community id m
  responds id version is_id =
      let is = form may_be in
      subst (IsResponseTo q.community id) (sym is.3) (record { version = version; community_is = refl; kind = refl; id_is = is_id })

-- the reply of one of the agents to the waiting request, or another Response that one of them may send to it, is honest
pub any_reply : Codec → (agents : Agents) → AreLawful agents → (w : WalkState) → IsWalkState w → is_over w.phase ≡ false → (reply : List ℕ) (m : Message)
    → Spells m reply → IsReplyFrom agents (canon (request_of w)) reply ⊎ IsResponseFrom agents (canon (request_of w)) m
    → IsReplyTo (IsNextFrom agents) (IsGotFrom agents) (IsTooLarge agents) w m
any_reply codec agents lawful w good waits reply m spelt (inl h) =
    let honest = honest_reply codec agents lawful w good waits reply h in
    subst (IsReplyTo (IsNextFrom agents) (IsGotFrom agents) (IsTooLarge agents) w)
    (codec.one honest.0 m reply reply [] [] honest.1 spelt refl).0 honest.2
any_reply codec agents lawful w good waits reply m spelt (inr h) =
    let ranged = request_in_range w good in
    let no_set = set_phase w.phase w.method in
    record {
      response = responds codec (request_of w) ranged no_set agents m h w.id refl refl;
      content = content_of codec agents w good h.view (view_of agents.tables lawful.views h.view h.one) waits h.one
          (of_community codec (request_of w) ranged no_set agents m h) m (may_be codec (request_of w) ranged no_set agents m h);
    }

-- ---- what was sent before

lower_own : (q : Message) → IsMessageInRange q → (q.kind ≡ kind.SetRequest → ⊥) → (number next : ℕ) → q.id ≡ pos number → number < next
    → (d : List ℕ) → d ≡ canon q → IsOfLowerId next d
lower_own q ranged no_set number next id_is less d e = record {
  request = q;
  in_range = ranged;
  no_set = no_set;
  number = number;
  id_is = id_is;
  lower = less;
  encoding = e;
}

lower_more : (id next : ℕ) (d : List ℕ) → id ≤ next → IsOfLowerId id d → IsOfLowerId next d
lower_more id next d more low =
    lower_own low.request low.in_range low.no_set low.number next low.id_is (omega (arith, low.lower, more)) d low.encoding

pub all_lower_more : (sent : List (List ℕ)) (id next : ℕ) → id ≤ next → AreOfLowerIds sent id → AreOfLowerIds sent next
all_lower_more sent id next more low d one = lower_more id next d more (low d one)

-- if the datagrams sent have ids below `next`, and q's id is below `next`, then all ids are still below `next` after q was sent more times
pub all_lower_sent : (q : Message) → IsMessageInRange q → (q.kind ≡ kind.SetRequest → ⊥) → (number next : ℕ) → q.id ≡ pos number → number < next
    → (sent after : List (List ℕ)) (times : ℕ) → after ≡ sent ++ replicate times (canon q) → AreOfLowerIds sent next → AreOfLowerIds after next
all_lower_sent q ranged no_set number next id_is less sent after times e low d one =
    elim (one_append sent (replicate times (canon q)) d (subst (λ (ds : List (List ℕ)). OneOf ds d) e one)) [
      | inl before ↦ low d before
      | inr now ↦ lower_own q ranged no_set number next id_is less d (one_same times (canon q) d now)
    ]

lower_before : (w : WalkState) (next : ℕ) → IsWalkState w → w.id < next → (d : List ℕ) → IsSentBefore w d → IsOfLowerId next d
lower_before w next good less d (inl e) = lower_own (request_of w) (request_in_range w good) (set_phase w.phase w.method) w.id next refl less d e
lower_before w next good less d (inr low) = lower_more w.id next d (omega (arith, less)) low

pub before_more : (w v : WalkState) → IsWalkState w → w.id < v.id → (d : List ℕ) → IsSentBefore w d → IsSentBefore v d
before_more w v good less d before = inr (lower_before w v.id good less d before)

-- if what was sent are the request of w, whose id is below `next`, and requests with lower ids, then all ids are still below `next` after the request of w was
-- sent more times
pub all_lower_after : (w : WalkState) (sent after : List (List ℕ)) (times next : ℕ) → IsWalkState w → w.id < next
    → after ≡ sent ++ replicate times (canon (request_of w)) → IsEarlier sent w → AreOfLowerIds after next
all_lower_after w sent after times next good less e earlier =
    all_lower_sent (request_of w) (request_in_range w good) (set_phase w.phase w.method) w.id next refl less sent after times e
    (λ d one. lower_before w next good less d (earlier d one))

pub earlier_more : (w v : WalkState) (sent later : List (List ℕ)) (times : ℕ) → IsWalkState w → w.id < v.id
    → later ≡ sent ++ replicate times (canon (request_of w)) → IsEarlier sent w → IsEarlier later v
earlier_more w v sent later times good less e h d one = grind (arith, common_steps, one_append, before_more, one_same)

pub earlier_first : (sent : List (List ℕ)) (w : WalkState) → AreOfLowerIds sent w.id → IsEarlier sent w
earlier_first sent w low d one = inr (low d one)

-- ---- an honest reply and the walk that waits for it

-- octets encode at most one message
pub one_spelt : Codec → (m n : Message) (octets : List ℕ) → Spells m octets → Spells n octets → m ≡ n
one_spelt codec m n octets a b = (codec.one m n octets octets [] [] a b refl).0

-- a reply to a request with an id below `id` has an id below `id`
pub lower_reply : Codec → (agents : Agents) → AreLawful agents → (id : ℕ) (d r : List ℕ) (m : Message) → IsOfLowerId id d → Spells m r
    → IsReplyFrom agents d r ⊎ IsResponseFrom agents d m → (n : ℕ) × (m.id ≡ pos n) × (n < id)
lower_reply codec agents lawful id d r m low spelt (inl h) =
    let a = answered_by codec low.request low.in_range low.no_set agents lawful r (subst (λ (x : List ℕ). IsReplyFrom agents x r) low.encoding h) in
    (low.number, ap (λ (x : Message). x.id) (one_spelt codec m a.message r spelt a.spelt ∙ a.is) ∙ low.id_is, low.lower)
lower_reply codec agents lawful id d r m low spelt (inr h) =
    let from = subst (λ (x : List ℕ). IsResponseFrom agents x m) low.encoding h in
    let is = form codec low.request low.in_range low.no_set agents m from (may_be codec low.request low.in_range low.no_set agents m from) in
    (low.number, ap (λ (x : Message). x.id) is.3 ∙ low.id_is, low.lower)

-- a reply to a request with a lower id isn't awaited
pub lower_not_awaited : Codec → (agents : Agents) → AreLawful agents → (community : List ℕ) (id : ℕ) (d r : List ℕ) → IsOfLowerId id d
    → IsReplyFrom agents d r → IsNotAwaited community id r
lower_not_awaited codec agents lawful community id d r low reply m spelt response =
    let l = lower_reply codec agents lawful id d r m low spelt (inl reply) in
    let same : pos l.0 ≡ pos id = sym l.1 ∙ response.id_is in
    let equal : l.0 ≡ id = cc in
    omega (arith, equal, l.2)

-- if what was sent before are requests with lower ids, only the replies to the waiting one are awaited
pub asked_of : Codec → (agents : Agents) (sent : List (List ℕ)) (w : WalkState) → AreLawful agents → IsWalkState w → is_over w.phase ≡ false → IsEarlier sent w
    → IsAsked agents (IsNotAwaited w.community w.id) (canon (request_of w)) sent
asked_of codec agents sent w lawful good waits earlier = record {
  own = λ octets reply other. let given = honest_reply codec agents lawful w good waits octets reply in other given.0 given.1 given.2.response;
  others = λ d one. elim (earlier d one) [
    | inl e ↦ inl e
    | inr low ↦ inr (λ octets reply. lower_not_awaited codec agents lawful w.community w.id d octets low reply)
  ];
}

-- over an honest link, if what was sent before are requests with lower ids, the reply m that was read is an honest reply to the waiting request, and full if
-- the agents have room
pub from_of : {L : Type 0} (facts : LinkFacts L) → ((link : L) → facts.honest link → facts.records link) → Codec → (tries : ℕ) (w : WalkState) (link after : L)
    → (facts.honest link → AreLawful (facts.agents link)) → IsWalkState w → is_over w.phase ≡ false → (m : Message) (d : List ℕ)
    → IsTried facts tries w link (outcome.answered d) after → Spells m d → IsResponseTo w.community w.id m
    → facts.honest link → IsEarlier (facts.traffic link).sent w
    → IsReplyTo (IsNextFrom (facts.agents link)) (IsGotFrom (facts.agents link)) (IsTooLarge (facts.agents link)) w m × IsFullReply (facts.agents link) w m
from_of facts recording codec tries w link after lawful good waits m d tried spelt response honest earlier =
    let agents = facts.agents link in
    let reply = reply_of facts recording (IsNotAwaited w.community w.id) (canon (request_of w)) tries link after honest
    (asked_of codec agents (facts.traffic link).sent w (lawful honest) good waits earlier) d (λ other. other m spelt response) tried in
    let given = honest_reply codec agents (lawful honest) w good waits d reply in
    let same = one_spelt codec given.0 m d given.1 spelt in
    (subst (IsReplyTo (IsNextFrom agents) (IsGotFrom agents) (IsTooLarge agents) w) same given.2, subst (IsFullReply agents w) same given.3)
