-- The request of a Get of names, and what its reply means (RFC 3416, section 4.2.1).
use Rattle.std.specs.Prelude.{◌≡◌, ◌≢◌, ◌⊎◌, ◌<◌, ◌≤◌, ℕ, ℤ, pos, Bool, true, false, ◌&&◌, not}
use Rattle.std.specs.Prelude.{if◌then◌else◌, List, [], ◌∷◌, ◌++◌, map, length, replicate, Option}
use Rattle.std.specs.Prelude.{Result, Ok, Err}
use Rattle.std.specs.{Bool.nat_eq, Ordering.int_eq, Cmp.Lexicographic.pointwise}
use Rattle.snmp_oid.specs.Identifier.{wire}
use Rattle.snmp_wire.specs.declared.kind.Kind.TheVariants as kind
use Rattle.snmp_wire.specs.{Name.asking, Canon.canon, Spelling.Spells}
use Rattle.snmp_wire.specs.Message.{VarBind, Message, end_of_mib_view}
use Rattle.snmp_agent.specs.Reply.{AreAnswers, IsResponse, Fits, response}
use Rattle.snmp_walk.specs.{declared.end.WalkEnd.WalkEnd, declared.rows.Step.Step, Names.is_end}
use Rattle.snmp_walk.specs.{StepRules.IsResponseTo, Traffic.Traffic, Traffic.Lost}
use Rattle.snmp_walk.specs.declared.rows.Step.TheVariants as step
use Rattle.snmp_walk.specs.declared.end.WalkEnd.TheVariants as ending
use Rattle.snmp_walk.specs.Link.{Agents, OneOf, IsUnanswered, Outcome, answered, missed, cut_off}
use Rattle.snmp_walk.specs.Facts.{IsDone, IsDoneOrCutOff, IsDoneOrStopped}
use Rattle.snmp_agent.specs.table.Table.{MibView, IsGet}

-- the wire form of each name, with the value NULL
abbrev pub asked_names : List (List ℕ) → List VarBind
asked_names names = map (λ o. asking (wire o)) names

-- the Get of these names in one message, with this community and id
abbrev pub get_request : List ℕ → ℕ → List (List ℕ) → Message
get_request community id names = record {
  version = pos 1;
  community = community;
  kind = kind.GetRequest;
  id = pos id;
  a = pos 0;
  b = pos 0;
  bindings = asked_names names;
}

-- the names of the bindings are the wire forms of `names`, in order, and no value is endOfMibView
pub record AreFor (names : List (List ℕ)) (bindings : List VarBind) : Type 0 where
  pub named : map wire names ≡ map (λ p. p.name) bindings
  pub values : (p : VarBind) → OneOf bindings p → p.value ≢ end_of_mib_view

-- What the reply m means to a Get of these names. If m has no error status and its bindings are for
-- the names (`AreFor`), they are passed on. Otherwise the Get ends, and none is passed on.
abbrev pub MeansToGet : List (List ℕ) → Message → Result (List VarBind) WalkEnd → Type 0
MeansToGet names m (Ok rows) = (m.a ≡ pos 0) × AreFor names m.bindings × (rows ≡ m.bindings)
MeansToGet names m (Err end) =
    ((m.a ≢ pos 0) × (end ≡ ending.Fault m.a m.b))
    ⊎ ((m.a ≡ pos 0) × (AreFor names m.bindings → ⊥) × (end ≡ ending.BadReply))

-- a Get of these names that waits for its reply
pub record WaitingGet : Type 0 where
  pub names : List (List ℕ)
  pub community : List ℕ
  pub id : ℕ

-- A datagram that answered the Get's request (`Tried`) encodes m. m is a Response with this
-- community and request-id. If `honest` holds, the agents have this community, and m is the
-- Response of one of them to the request.
abbrev pub IsDelivered : (Tried : Outcome → Type 0) → Agents → (honest : Type 0) → List ℕ → ℕ
    → List (List ℕ) → Message → Type 0
IsDelivered Tried agents honest community id names m =
    IsResponseTo community id m
    × (honest → (view : MibView) × OneOf agents.tables view × (community ≡ agents.community)
    × IsResponse view agents.max_size (get_request community id names) m)
    × ((datagram : List ℕ) × Tried (answered datagram) × Spells m datagram)

-- the bindings are the results of Gets of these names in the table, in the order of the names
abbrev pub AreGot : MibView → (names : List (List ℕ)) → List VarBind → Type 0
AreGot view names bindings = AreAnswers (λ asked given. IsGet view asked.name given)
    (asked_names names) bindings

-- There is room: the request has the agents' community and fits into a datagram, and the Response
-- with the results of Gets of the names fits into the agents' messages.
pub record HasRoomForGet (agents : Agents) (request : Message) (names : List
    (List ℕ)) : Type 0 where
  pub community : request.community ≡ agents.community
  pub request_fits : length (canon request) ≤ 65507
  pub response_fits : (view : MibView) (all : List VarBind) → OneOf agents.tables view
      → AreGot view names all
      → Fits agents.max_size (response request (pos 0) (pos 0) all)

-- the request q was sent once for each try, and one of the agents has no reply to it, or the
-- deliveries used by these tries lost the reply
pub record IsLostGet (agents : Agents) (tries : ℕ) (old : Traffic) (q : List ℕ)
    (new : Traffic) : Type 0 where
  pub sent : new.sent ≡ old.sent ++ replicate tries q
  pub lost : IsUnanswered agents q
      ⊎ ((used : List (Option ℕ)) × (old.ahead ≡ used ++ new.ahead)
      × Lost agents (old.sent ++ q ∷ []) q used tries 0)

-- The error status is tooBig, with index 0, and the Response with the results of Gets of the names
-- is longer than an agent's messages may be.
pub record IsTooBig (agents : Agents) (request : Message) (names : List (List ℕ))
    (status index : ℤ) : Type 0 where
  pub too_big : status ≡ pos 1
  pub no_index : index ≡ pos 0
  pub view : MibView
  pub one : OneOf agents.tables view
  pub all : List VarBind
  pub got : AreGot view names all
  pub no_room : Fits agents.max_size (response request (pos 0) (pos 0) all) → ⊥

-- How a Get can end. `Fails` says which error statuses a reply can have, `Bad` that a reply
-- without an error can have other bindings than those for the names, and `Silent` that perhaps no
-- reply arrives.
abbrev pub IsEndOfGet : (Fails : ℤ → ℤ → Type 0) → (Bad Silent : Type 0) → Message
    → List (List ℕ) → WalkEnd → Type 0
IsEndOfGet Fails Bad Silent request names (ending.Done count) = count ≡ length names
IsEndOfGet Fails Bad Silent request names (ending.Fault status index) = Fails status index
IsEndOfGet Fails Bad Silent request names ending.BadReply = Bad
IsEndOfGet Fails Bad Silent request names ending.NoResponse = Silent
IsEndOfGet Fails Bad Silent request names ending.RequestTooLong =
    65507 < length (canon request)
IsEndOfGet Fails Bad Silent request names ending.Link = Unit {0}
IsEndOfGet Fails Bad Silent request names (ending.Sink fault) = Unit {0}
IsEndOfGet Fails Bad Silent request names _ = ⊥

-- What holds of a Get over any link. The names of the bindings passed on, and of the one refused,
-- if any, are in order the wire forms of the first names asked for. If the Get is done, they are
-- the wire forms of all names asked for, and none was refused.
pub record AreForNames (request : Message) (names : List (List ℕ)) (given refused : List VarBind)
    (end : WalkEnd) : Type 0 where
  pub left : List (List ℕ)
  pub named : map wire names ≡ map (λ p. p.name) (given ++ refused) ++ left
  pub whole : IsDone end → (left ≡ []) × (refused ≡ [])
  pub ends : IsEndOfGet (λ _ _. Unit {0}) (Unit {0}) (Unit {0}) request names end
  -- without names, the Get is done; with names, it ends if its request is too long for a datagram
  pub no_names : names ≡ [] → IsDone end
  pub too_long : names ≢ [] → 65507 < length (canon request) → end ≡ ending.RequestTooLong

-- Why a Get of names ended, whatever the link delivered. `Tried outcome` says that its request had
-- this outcome, and `From m` that m is the reply to it. The Get ended as that reply says, or
-- because the sink refused a binding of the reply. Or nothing was passed on, since no reply
-- arrived, the link failed, or the request would be too long.
abbrev pub IsReasonOfGet : (Tried : Outcome → Type 0) → (From : Message → Type 0)
    → (names : List (List ℕ)) → (given refused : List VarBind) → WalkEnd → Type 0
IsReasonOfGet Tried From names given refused (ending.Done count) =
    (m : Message) × From m × MeansToGet names m (Ok given) × (refused ≡ [])
IsReasonOfGet Tried From names given refused (ending.Sink fault) =
    (m : Message) × (p : VarBind) × (left : List VarBind) × From m
    × MeansToGet names m (Ok (given ++ p ∷ left)) × (refused ≡ p ∷ [])
IsReasonOfGet Tried From names given refused ending.NoResponse = Tried missed
    × (given ++ refused ≡ [])
IsReasonOfGet Tried From names given refused ending.RequestTooLong = given ++ refused ≡ []
IsReasonOfGet Tried From names given refused ending.Link = Tried cut_off × (given ++ refused ≡ [])
IsReasonOfGet Tried From names given refused end =
    (m : Message) × From m × MeansToGet names m (Err end) × (given ++ refused ≡ [])

-- What is promised of a Get if the reply that it read, if any, is a reply of one of these agents
-- to its request. The sink took `rows` and then refused the binding in `refused`, if there is one.
pub record GotFacts (agents : Agents) (request : Message) (names : List (List ℕ))
    (rows refused : List VarBind) (end : WalkEnd) : Type 0 where
  -- with one table, `rows` and `refused` are a prefix of the results of Gets of the names
  pub beginning : (view : MibView) (all : List VarBind) → agents.tables ≡ view ∷ []
      → AreGot view names all → (more : List VarBind) × (all ≡ (rows ++ refused) ++ more)
  -- with one table, `rows` are all results of Gets of the names, if the Get is done
  pub all_at_done : (view : MibView) (all : List VarBind) → agents.tables ≡ view ∷ []
      → AreGot view names all → IsDone end → rows ≡ all
  -- it ends with an error status only if an agent's messages have no room for the results, and
  -- never with `BadReply`
  pub ends : IsEndOfGet (IsTooBig agents request names) ⊥ (Unit {0}) request names end
  -- if there is room, it is done unless the link or the sink stops it or no reply arrives
  pub done_unless_lost : HasRoomForGet agents request names → IsDoneOrCutOff end

-- What is promised of a Get over an honest link, if earlier runs over it had lower ids. The sink
-- took `rows` and then refused the binding in `refused`, if there is one.
pub record GetFacts (agents : Agents) (tries : ℕ) (old : Traffic) (request : Message) (names : List
    (List ℕ)) (rows refused : List VarBind) (end : WalkEnd) (new : Traffic) : Type 0 where
  -- what holds of a Get that reads only a reply of one of the agents to its request
  pub given : GotFacts agents request names rows refused end
  -- if no reply arrived, each try sent the request, and one of the agents has no reply to it, or
  -- the deliveries lost the reply
  pub lost_without_response : end ≡ ending.NoResponse
      → IsLostGet agents tries old (canon request) new
  -- If there is room, and each receive returns the reply to the latest datagram, the Get is done
  -- unless the link or the sink stops it.
  pub done_unless_stopped : HasRoomForGet agents request names → old.ahead ≡ []
      → IsDoneOrStopped end

-- ---- for private functions

-- whether the bindings are for these names (`AreFor`), computed
abbrev pub are_for : List (List ℕ) → List VarBind → Bool
are_for [] [] = true
are_for [] (p ∷ more) = false
are_for (o ∷ names) [] = false
are_for (o ∷ names) (p ∷ more) = (pointwise nat_eq p.name (wire o) && not
    (is_end p.value)) && are_for names more

-- what a reply means to a Get of these names (`MeansToGet`), computed
abbrev pub answers_of : List (List ℕ) → Message → Result (List VarBind) WalkEnd
answers_of names m =
    if int_eq m.a (pos 0)
    then (if are_for names m.bindings then Ok m.bindings else Err ending.BadReply)
    else Err (ending.Fault m.a m.b)

-- the step that a reply means to a Get of `count` names: it ends the Get, with all its bindings or
-- without them
abbrev pub step_of : ℕ → Result (List VarBind) WalkEnd → Step
step_of count (Ok rows) = step.Last rows (ending.Done count)
step_of count (Err end) = step.Last [] end

abbrev pub got_step : List (List ℕ) → Message → Step
got_step names m = step_of (length names) (answers_of names m)
