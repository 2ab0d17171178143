-- If a walk has the agents' community, each binding of each table fits into a message and there are enough ids, the walk ends with `Done`, by the link or
-- by the sink (`swift_end`), or, if replies can be lost, with `NoResponse` (`left_end`).
use Rattle.std.proofs.lemmas.Grind.{common_steps}
use Rattle.std.proofs.Common.{◌≡◌, ◌≢◌, ◌⊎◌, ◌≤ℤ◌, inl, inr, ℕ, ◌+◌, ◌≤◌, false, List, [], ◌∷◌, ◌++◌, length, refl, sym, ◌∙◌, ap, subst, arith, pos}
use Rattle.std.proofs.Common.{length-append}
use Rattle.snmp_wire.specs.{Message.VarBind, Message.Message, Message.end_of_mib_view, Canon.canon}
use Rattle.snmp_walk.specs.{private.Codec.Codec, declared.mode.Mode.Mode, declared.mode.Method.Method, declared.mode.Phase.Phase}
use Rattle.snmp_walk.specs.{declared.end.WalkEnd.WalkEnd, Trail.last_name, Trail.IsTrail, WalkState.WalkState, WalkState.IsMethod, WalkState.IsWalkState}
use Rattle.snmp_walk.specs.{Walk.rest_of, Request.request_of, Request.request_kind, Request.request_repetitions, private.ComputedStep.is_over, Room.HasRoom}
use Rattle.snmp_walk.specs.{Room.HasRoomForEach, Facts.IsLawfulEnd, Facts.HasNone, Facts.IsDoneOrStopped, Facts.IsDoneOrCutOff, Facts.gets}
use Rattle.snmp_agent.specs.table.Table.{MibView, IsMibView, IsGet, variable, unknown_object, unknown_instance, IsNext, successor, end_of_view}
use Rattle.snmp_agent.specs.{table.Listing.variables, declared.config.DropReason.DropReason}
use Rattle.snmp_agent.specs.Reply.{IsServed, response, IsWhole, got, got_next, unwritten, Fits, IsLongestPrefix, IsResponse, whole, shortened, bulk}
use Rattle.snmp_agent.specs.Reply.{IsDropped, no_error}
use Rattle.snmp_walk.specs.declared.mode.Mode.TheVariants as mode
use Rattle.snmp_walk.specs.declared.mode.Method.TheVariants as method
use Rattle.snmp_walk.specs.declared.mode.Phase.TheVariants as phase
use Rattle.snmp_walk.specs.declared.end.WalkEnd.TheVariants as ending
use Rattle.snmp_walk.specs.Progress.{IsChain, IsLarge, IsStage, IsReplyTooLarge, opening_gets, Reaches}
use Rattle.snmp_walk.specs.Link.{Agents, OneOf, agent_in, IsNextFrom, IsGotFrom, IsTooLarge, AreViews}
use Rattle.snmp_walk.proofs.OwnReply.{request_in_range, own as spelt_own, no_drop as served_by, one_answer, get_phase, bulk_phase, set_phase}
use Rattle.snmp_walk.proofs.{Bulk.IsOneBulk, Bulk.one_bulk, OneTable.trail_rest, Trail.few_replies, SortedRows.view_of}
use Rattle.snmp_walk.proofs.{SortedRows.views_answer, StepProgress.waiting, Tables.row_of_next, Names.end_test, SortedRows.IsOneTable}
use Rattle.snmp_walk.proofs.Room.{room_fits, room_small, room_exception}

pub gets_one : (m : Mode) → gets m ≤ 1
gets_one mode.NoLast = omega arith
gets_one _ = omega arith

pub opening_is_get : (m : Mode) → opening_gets m ≤ gets m
opening_is_get mode.Plain = omega arith
opening_is_get _ = omega arith

-- a request of a walk, in any phase and with any method, is of a kind that agents serve
served : (p : Phase) (m : Method) → IsServed (request_kind p m)
served phase.Rows method.Next = tt
served _ _ = tt

-- each trail from the name that the walk begins from has at most k rows
abbrev pub HasFew : (List ℕ → VarBind → Type 0) → WalkState → ℕ → Type 0
HasFew Next first k = (trail : List VarBind) → IsTrail Next first.root first.asked trail → length trail ≤ k

-- if each trail has at most k rows, a walk has sent at most k requests before the waiting one, and a Get
pub few_in : (Next Got : List ℕ → VarBind → Type 0) (first : WalkState) (k : ℕ) → HasFew Next first k → (w : WalkState) (given : List VarBind)
    → Reaches Next Got first w given → w.id ≤ first.id + k + gets first.mode
few_in Next Got first k bound w given h = grind (arith, common_steps, opening_is_get, few_replies)

-- before the waiting request, a walk has sent at most one for each row returned, and a Get
pub few_asked : (Next Got : List ℕ → VarBind → Type 0) (first w : WalkState) (given : List VarBind) → Reaches Next Got first w given
    → w.id ≤ first.id + length given + gets first.mode
few_asked Next Got first w given h = grind (arith, common_steps, opening_is_get, few_replies)

-- over one table, a trail from the name that the walk begins from has at most as many rows as the rest of the walk after this name
pub trail_in_rest : (agents : Agents) (first : WalkState) (view : MibView) (answer : VarBind) → IsOneTable (variables view) answer (IsNextFrom agents)
    (IsGotFrom agents) first
    → (s : List ℕ) → first.asked ≡ first.root ++ s → HasFew (IsNextFrom agents) first (length (rest_of first.root first.asked (variables view)))
trail_in_rest agents first view answer table s begins trail h =
    let rest = trail_rest (variables view) answer (IsNextFrom agents) (IsGotFrom agents) first table s begins first.asked trail h in
    omega (arith, ap length rest, length-append trail (rest_of first.root (last_name first.asked trail) (variables view)))

module _ (codec : Codec) (agents : Agents) (first : WalkState) (good_views : AreViews agents.tables) (rooms : (view : MibView) → OneOf agents.tables view
    → HasRoomForEach agents view first) where
  abbrev Next : List ℕ → VarBind → Type 0
  Next = IsNextFrom agents

  abbrev Got : List ℕ → VarBind → Type 0
  Got = IsGotFrom agents

  -- the agents' messages have room for the name o with endOfMibView
  abbrev EndRoom : List ℕ → Type 0
  EndRoom o = HasRoom agents (record { name = o; value = end_of_mib_view })

  next_room : (o : List ℕ) (p : VarBind) → EndRoom o → (view : MibView) → OneOf agents.tables view → IsNext view o p → HasRoom agents p
  next_room o p end view one (successor s) = (rooms view one).rows p s.row
  next_room o p end view one (end_of_view none is) = subst (HasRoom agents) (sym is) end

  get_room : (p : VarBind) (view : MibView) → OneOf agents.tables view → IsGet view first.asked p → HasRoom agents p
  get_room p view one (variable e row) = (rooms view one).rows p row
  get_room p view one (unknown_object none unknown is) = subst (HasRoom agents) (sym is) ((rooms view one).exceptions _ tt)
  get_room p view one (unknown_instance none has is) = subst (HasRoom agents) (sym is) ((rooms view one).exceptions _ tt)

  trail_room : (o : List ℕ) (trail : List VarBind) → EndRoom o → IsTrail Next first.root o trail → EndRoom (last_name o trail)
  trail_room o [] end h = end
  trail_room o (p ∷ trail) end h =
      trail_room p.name trail (room_exception codec agents p.name end_of_mib_view p.value tt
      ((rooms h.0.0 h.0.1).rows p (row_of_next h.0.0 o p h.0.2 (end_test p.value h.1.value)))) h.2

  -- if there is room for the name that the walk begins from with endOfMibView, there is also room for the name o in the waiting request with endOfMibView
  stage_room : (given : List VarBind) (o : List ℕ) (p : Phase) → EndRoom first.asked → IsStage Next Got first given o p → EndRoom o
  stage_room given o phase.First own h = subst EndRoom (sym h.1) own
  stage_room given o phase.Rows own h = subst EndRoom (sym h.last) (trail_room first.asked h.trail own h.is_trail)
  stage_room given o phase.Last own h = subst EndRoom (sym h.1) own
  stage_room given o phase.Over own h = absurd h

  own_room : (view : MibView) → OneOf agents.tables view → EndRoom first.asked
  own_room view one = (rooms view one).exceptions end_of_mib_view tt

  no_large_next : (id : ℕ) (o : List ℕ) → (EndRoom first.asked → EndRoom o) → IsLarge Next (IsTooLarge agents id) o → ⊥
  no_large_next id o end h = room_small codec agents id h.0 (next_room o h.0 (end (own_room h.1.0 h.1.1)) h.1.0 h.1.1 h.1.2) h.2

  no_large_get : (id : ℕ) (o : List ℕ) → o ≡ first.asked → IsLarge Got (IsTooLarge agents id) o → ⊥
  no_large_get id o e h = room_small codec agents id h.0 (get_room h.0 h.1.0 h.1.1 (subst (λ (n : List ℕ). IsGet h.1.0 n h.0) e h.1.2)) h.2

  -- at no stage of the walk is the answer to the waiting request too large for an agent's messages
  no_refusal : (id : ℕ) (given : List VarBind) (o : List ℕ) (p : Phase) → IsStage Next Got first given o p
      → IsReplyTooLarge Next Got (IsTooLarge agents id) p o → ⊥
  no_refusal id given o phase.First h large = no_large_get id o h.1 large
  no_refusal id given o phase.Rows h large = no_large_next id o (λ own. stage_room given o phase.Rows own h) large
  no_refusal id given o phase.Last h large = no_large_get id o h.1 large
  no_refusal id given o phase.Over h large = absurd h

  module _ (w : WalkState) (given : List VarBind) (good : IsWalkState w) (h : Reaches Next Got first w given) (view : MibView)
      (one : OneOf agents.tables view) where
    view_good : IsMibView view
    view_good = view_of agents.tables good_views view one

    waits : is_over w.phase ≡ false
    waits = waiting Next Got (IsTooLarge agents) (views_answer agents good_views) first given w.asked w.phase h.stage

    community : w.community ≡ agents.community
    community = ap (λ (v : WalkState). v.community) h.same ∙ (rooms view one).community

    -- the Response with one binding fits if the binding has room
    fits : (p : VarBind) → HasRoom agents p → Fits agents.max_size (response (request_of w) no_error (pos 0) (p ∷ []))
    fits p room = rw (← community) at (room_fits codec agents p w.id good.id room)

    asked_at_get : (p : Phase) → (p ≡ phase.First) ⊎ (p ≡ phase.Last) → IsStage Next Got first given w.asked p
        → w.asked ≡ first.asked
    asked_at_get p (inl e) s = (subst (IsStage Next Got first given w.asked) e s).1
    asked_at_get p (inr e) s = (subst (IsStage Next Got first given w.asked) e s).1

    -- the whole Response to a Get or a GetNext fits
    whole_fits : (r : Message) → IsWhole view (request_of w) r → Fits agents.max_size r
    whole_fits r (got bindings k answers e) =
        let p = one_answer (λ asked given. IsGet view asked.name given) w.asked bindings answers in
        let at : w.asked ≡ first.asked = asked_at_get w.phase (get_phase w.phase w.method waits k) h.stage in
        let room : HasRoom agents p.0 = get_room p.0 view one (subst (λ (o : List ℕ). IsGet view o p.0) at p.2) in
        rw (e, p.1) (fits p.0 room)
    whole_fits r (got_next bindings k answers e) =
        let p = one_answer (λ asked given. IsNext view asked.name given) w.asked bindings answers in
        let room : HasRoom agents p.0 = next_room w.asked p.0 (stage_room given w.asked w.phase (own_room view one) h.stage) view one p.2 in
        rw (e, p.1) (fits p.0 room)
    whole_fits r (unwritten k e) = absurd (set_phase w.phase w.method k)

    -- if a GetBulk asks for at least one binding, the longest prefix that fits (`IsLongestPrefix`) isn't empty, and the Response with it fits
    bulk_fits : (all bindings : List VarBind) → IsChain (IsNext view) w.asked all → all ≢ [] → IsLongestPrefix agents.max_size (request_of w) all bindings
        → Fits agents.max_size (response (request_of w) no_error (pos 0) bindings)
    bulk_fits all (p ∷ more) chain some longest = longest.fits (λ e. let never : ⊥ = cc in never)
    bulk_fits [] [] chain some longest = absurd (some refl)
    bulk_fits (p ∷ later) [] chain some longest =
        let room : HasRoom agents p = next_room w.asked p (stage_room given w.asked w.phase (own_room view one) h.stage) view one chain.0 in
        let short : 1 ≤ 0 = longest.longest (p ∷ []) later refl (fits p room) in
        absurd (omega (arith, short))

    response_fits : (r : Message) → IsResponse view agents.max_size (request_of w) r → Fits agents.max_size r
    response_fits r (whole is fit) = fit
    response_fits r (shortened large is no_fit e) = absurd (no_fit (whole_fits large is))
    response_fits r (bulk all bindings k asked longest e) =
        let is_bulk = bulk_phase w.phase w.method k in
        let positive : pos 1 ≤ℤ request_repetitions w.phase w.method = rw (is_bulk.0, is_bulk.2) (subst IsMethod is_bulk.2 good.method) in
        let one_name : IsOneBulk codec view view_good w.asked (request_repetitions w.phase w.method) all = one_bulk codec view view_good
        (request_of w) w.asked all refl refl asked in
        subst (Fits agents.max_size) (sym e) (bulk_fits all bindings one_name.chain (one_name.some positive) longest)

    -- no agent drops the waiting request
    no_drop : (cause : DropReason) → IsDropped (agent_in agents view) (canon (request_of w)) cause → ⊥
    no_drop = served_by codec (request_of w) (spelt_own codec (request_of w) (request_in_range w good) (set_phase w.phase w.method)) refl
        (agent_in agents view) community (served w.phase w.method) response_fits

  module _ (k : ℕ) (bound : HasFew Next first k) (ids : first.id + k + 2 ≤ 2147483647) where
    -- if the end is lawful, the walk is done, or the link or the sink stopped it, or no reply arrived
    pub left_end : (Silent : WalkState → Type 0) (rows : List VarBind) (end : WalkEnd) → IsLawfulEnd agents Silent first rows end → IsDoneOrCutOff end
    left_end Silent rows (ending.Fault status index) h = no_refusal h.0.id rows h.0.asked h.0.phase h.1.stage h.2.2
    left_end Silent rows (ending.NoProgress o) h =
        no_large_next h.0.id h.0.asked (λ own. stage_room rows h.0.asked h.0.phase own h.1.stage)
        (subst (IsLarge Next (IsTooLarge agents h.0.id)) h.2.1 h.2.2)
    left_end Silent rows ending.TooManyRequests h =
        absurd (omega (arith, ids, few_in Next Got first k bound h.0 h.1 h.4, gets_one first.mode, h.5))
    left_end Silent rows (ending.Done n) h = tt
    left_end Silent rows ending.NoResponse h = tt
    left_end Silent rows ending.Link h = tt
    left_end Silent rows (ending.Sink fault) h = tt
    left_end Silent rows _ h = h.5

    -- if the end is lawful, and a reply fails to arrive only if an agent has none, then the walk is done, or the link or the sink stopped it
    pub swift_end : (rows : List VarBind) (end : WalkEnd) → IsLawfulEnd agents (HasNone agents) first rows end → IsDoneOrStopped end
    swift_end rows ending.NoResponse h = no_drop h.0 rows h.1 h.2 h.3.view h.3.one h.3.why h.3.dropped
    swift_end rows why h = left_end (HasNone agents) rows why h
