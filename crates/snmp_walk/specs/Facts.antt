-- What is promised of a whole walk over a link.
use Rattle.std.specs.Prelude.{◌≡◌, ℕ, ◌+◌, ◌*◌, ◌≤◌, ◌<◌, ◌≢◌, ◌⊎◌, List, [], ◌∷◌, ◌++◌, length}
use Rattle.std.specs.Prelude.{flat_map, replicate, Option}
use Rattle.snmp_walk.specs.{declared.mode.Mode.Mode, Traffic.Traffic, Traffic.Lost}
use Rattle.snmp_walk.specs.{declared.end.WalkEnd.WalkEnd, declared.rows.Step.Step, Read.rows_in}
use Rattle.snmp_walk.specs.{Ordered.AreOrdered, Walk.rest_of, Walk.walk_from, StepRules.MeansBy}
use Rattle.snmp_walk.specs.{WalkState.WalkState, WalkState.IsWalkState}
use Rattle.snmp_walk.specs.declared.mode.Mode.TheVariants as mode
use Rattle.snmp_walk.specs.Run.{Try, sent_by, AreTries, IsEachSent}
use Rattle.snmp_oid.specs.Identifier.{Precedes}
use Rattle.snmp_wire.specs.{Message.VarBind, Canon.canon}
use Rattle.snmp_walk.specs.declared.end.WalkEnd.TheVariants as ending
use Rattle.snmp_agent.specs.{table.Table.MibView, table.Table.IsGet, table.Listing.variables}
use Rattle.snmp_walk.specs.declared.rows.Step.TheVariants as step
use Rattle.snmp_walk.specs.declared.mode.Phase.TheVariants as phase
use Rattle.snmp_walk.specs.Request.{asked_for, request_of, first_phase}
use Rattle.snmp_walk.specs.Progress.{Reaches, IsPartOfWalk, Ends, Increases, Named, CountsAll}
use Rattle.snmp_walk.specs.Progress.{IsReplyEnd}
use Rattle.snmp_walk.specs.Link.{Agents, OneOf, IsNextFrom, IsGotFrom, IsTooLarge, IsUnanswered}
use Rattle.snmp_walk.specs.Link.{Outcome, answered, missed, cut_off}
use Rattle.snmp_walk.specs.Room.{HasRoomForAll}
use Rattle.snmp_walk.specs.Tables.{IsOfWalk, AreFromTables, IsInEach, OccursOnce, CountsNames}
use Rattle.snmp_walk.specs.Tables.{HasRoomInEach, HasIdsFor}

-- w is the state of a walk in its first phase that has passed on nothing, and the name in its
-- request is its root or a name below the root
pub record IsFresh (w : WalkState) : Type 0 where
  pub phase : w.phase ≡ first_phase w.mode
  pub count : w.count ≡ 0
  pub begins : (s : List ℕ) × (w.asked ≡ w.root ++ s)

-- The list of the datagrams sent ends with the request of w, `times` times: at least once unless
-- the walk ended with `Link`, and exactly `tries` times if it ended with `NoResponse`.
pub record IsLastSent (tries : ℕ) (end : WalkEnd) (new : Traffic) (w : WalkState) : Type 0 where
  pub earlier : List (List ℕ)
  pub times : ℕ
  pub sent : new.sent ≡ earlier ++ replicate times (canon (request_of w))
  pub some : end ≢ ending.Link → 0 < times
  pub all : end ≡ ending.NoResponse → times ≡ tries

-- a datagram, and the rows that a walk read in it
pub record Reading : Type 0 where
  pub datagram : List ℕ
  pub rows : List VarBind

-- the rows of these readings, in order
abbrev pub rows_read : List Reading → List VarBind
rows_read readings = flat_map (λ r. r.rows) readings

-- The walk read the datagrams of these readings, in order, as their rows. This took the walk from
-- state v to w, and the link from `old` to `new`. Each datagram answered the request that waited
-- then. `Tried u l outcome m` says that the request of u had this outcome and took the link from l
-- to m. `IsWalkState` holds of each state in which the walk waited for one of these datagrams.
abbrev pub AreRead : {L : Type 0} → (Tried : WalkState → L → Outcome → L → Type 0) → WalkState → L
    → List Reading → WalkState → L → Type 0
AreRead {L} Tried v old [] w new = (w ≡ v) × (new ≡ old)
AreRead {L} Tried v old (r ∷ more) w new =
    IsWalkState v × (u : WalkState) × (between : L) × Tried v old (answered r.datagram) between
    × MeansBy v r.datagram (step.Rows r.rows) u × AreRead Tried u between more w new

-- The walk that began as `first`, over the link in state `old`, passed on `given`: exactly the
-- rows that it read in the replies to its requests. After these replies, the walk is in state w
-- and the link in state `new`.
pub record HasRead {L : Type 0} (Tried : WalkState → L → Outcome → L → Type 0) (first : WalkState)
    (old : L) (w : WalkState) (new : L) (given : List VarBind) : Type 0 where
  pub readings : List Reading
  pub rows : given ≡ rows_read readings
  pub are_read : AreRead Tried first old readings w new

-- The walk that began as `first`, over the link in state `old`, sent its last request in state w.
-- This request had this outcome, and took the link from `now` to `new`. Before it, the walk had
-- passed on all of `rows` but `more`. `Sent w` says how the request was sent.
pub record IsAskedLast {L : Type 0} (Tried : WalkState → L → Outcome → L → Type 0)
    (Sent : WalkState → Type 0) (first : WalkState) (old : L) (rows : List VarBind) (new : L)
    (outcome : Outcome) (w : WalkState) (more : List VarBind) : Type 0 where
  pub now : L
  pub given : List VarBind
  pub parts : rows ≡ given ++ more
  pub walker : IsWalkState w
  pub id : first.id ≤ w.id
  pub read : HasRead Tried first old w now given
  pub reaches : Reaches Increases Named first w given
  pub sent : Sent w
  pub tried : Tried w now outcome new

-- `Asked outcome w more` says that the last request was sent in state w and had this outcome, and
-- that `more` are the rows passed on after it. The reply to that request is read as the rows `more`
-- and this end.
abbrev pub IsReadSo : (Asked : Outcome → WalkState → List VarBind → Type 0) → WalkEnd → Type 0
IsReadSo Asked end =
    (datagram : List ℕ) × (w : WalkState) × (more : List VarBind) × Asked (answered datagram) w more
    × (over : WalkState) × MeansBy w datagram (step.Last more end) over

-- `Asked outcome w more` says that the last request was sent in state w and had this outcome, and
-- that `more` are the rows passed on after it. The reply to that request is read as the rows
-- `more`, then the row that the sink refused, and perhaps others.
abbrev pub IsRefusedSo : (Asked : Outcome → WalkState → List VarBind → Type 0)
    → (refused : List VarBind) → Type 0
IsRefusedSo Asked refused =
    (datagram : List ℕ) × (w : WalkState) × (more : List VarBind) × Asked (answered datagram) w more
    × (read : Step) × (over : WalkState) × (left : List VarBind) × MeansBy w datagram read over
    × (rows_in read ≡ more ++ (refused ++ left))

-- Why a walk ended, whatever the link delivered. `Asked outcome w more` says that the last request
-- was sent in state w and had this outcome, and that `more` are the rows passed on after it. The
-- walk ended because a reply was read as this end, no reply arrived, the link failed, or the sink
-- refused a row of the reply. A request of a walk is never too long.
abbrev pub IsEndOfRun : (Asked : Outcome → WalkState → List VarBind → Type 0)
    → (refused : List VarBind) → WalkEnd → Type 0
IsEndOfRun Asked refused ending.RequestTooLong = ⊥
IsEndOfRun Asked refused ending.NoResponse = (w : WalkState) × Asked missed w []
IsEndOfRun Asked refused ending.Link = (w : WalkState) × Asked cut_off w []
IsEndOfRun Asked refused (ending.Sink fault) = IsRefusedSo Asked refused
IsEndOfRun Asked refused why = IsReadSo Asked why

-- What is promised of a walk that took any link from `old` to `new`, passed on `rows`, and perhaps
-- had one more row refused. The names of these rows increase. If the walk is done, its end holds
-- the number of `rows`. The end has its reason in the outcome of the last request (`IsEndOfRun`).
pub record EndFacts {L : Type 0} (Tried : WalkState → L → Outcome → L → Type 0)
    (Sent : WalkState → Type 0) (first : WalkState) (old : L) (rows refused : List VarBind)
    (end : WalkEnd) (new : L) : Type 0 where
  pub rising : AreOrdered (rows ++ refused)
  pub counted : CountsAll end rows
  pub reason : IsEndOfRun (IsAskedLast Tried Sent first old rows new) refused end

-- How a walk can end over an honest link, after these rows. The link and the sink may end it at
-- any time. Otherwise it waited in state w for a reply. If none arrived, `Silent` holds of w. If
-- the reply was an error or had no bindings, all of the rows were passed on before it. Any other
-- reply had the last of the rows (`more`), perhaps none.
abbrev pub IsLawfulEnd : Agents → (WalkState → Type 0) → WalkState → List VarBind → WalkEnd → Type 0
IsLawfulEnd agents Silent first rows ending.Link = Unit {0}
IsLawfulEnd agents Silent first rows (ending.Sink fault) = Unit {0}
IsLawfulEnd agents Silent first rows ending.NoResponse =
    (w : WalkState) × IsWalkState w × Reaches (IsNextFrom agents) (IsGotFrom agents) first w rows
    × Silent w
IsLawfulEnd agents Silent first rows (ending.Fault status index) =
    (w : WalkState) × Reaches (IsNextFrom agents) (IsGotFrom agents) first w rows
    × Ends (IsNextFrom agents) (IsGotFrom agents) (IsTooLarge agents) first w rows
    (ending.Fault status index)
IsLawfulEnd agents Silent first rows (ending.NoProgress asked) =
    (w : WalkState) × Reaches (IsNextFrom agents) (IsGotFrom agents) first w rows
    × Ends (IsNextFrom agents) (IsGotFrom agents) (IsTooLarge agents) first w rows
    (ending.NoProgress asked)
IsLawfulEnd agents Silent first rows why =
    (w : WalkState) × (given : List VarBind) × (more : List VarBind) × (rows ≡ given ++ more)
    × Reaches (IsNextFrom agents) (IsGotFrom agents) first w given
    × Ends (IsNextFrom agents) (IsGotFrom agents) (IsTooLarge agents) first w rows why

-- if the end is an error status, a reply without bindings, no reply, or a failure of the link,
-- then `rows` is empty
abbrev pub DeliversNoRows : WalkEnd → List VarBind → Type 0
DeliversNoRows (ending.Fault status index) rows = rows ≡ []
DeliversNoRows (ending.NoProgress asked) rows = rows ≡ []
DeliversNoRows ending.NoResponse rows = rows ≡ []
DeliversNoRows ending.Link rows = rows ≡ []
DeliversNoRows _ rows = Unit {0}

-- How a walk over an honest link ended. Once it had passed on `given`, it sent its last request in
-- state w. It passed on `more` from the reply to this request, or nothing if no reply arrived.
-- `ends` and `silent` say of this w what `IsLawfulEnd` says of some state.
pub record IsEndedBy (agents : Agents) (Silent Sent : WalkState → Type 0) (first : WalkState)
    (rows : List VarBind) (end : WalkEnd) : Type 0 where
  pub w : WalkState
  pub given : List VarBind
  pub more : List VarBind
  pub parts : rows ≡ given ++ more
  pub none : DeliversNoRows end more
  pub walker : IsWalkState w
  pub id : first.id ≤ w.id
  pub reaches : Reaches (IsNextFrom agents) (IsGotFrom agents) first w given
  pub ends : IsReplyEnd end
      → Ends (IsNextFrom agents) (IsGotFrom agents) (IsTooLarge agents) first w rows end
  pub silent : end ≡ ending.NoResponse → Silent w
  pub sent : Sent w

-- The list of the datagrams sent ends with the request of w, `tries` times. One of the agents has
-- no reply to this request, or the last deliveries that were used lost the reply (`Lost`).
pub record HasNoReply (agents : Agents) (tries : ℕ) (old new : Traffic)
    (w : WalkState) : Type 0 where
  pub earlier : List (List ℕ)
  pub sent : new.sent ≡ earlier ++ replicate tries (canon (request_of w))
  pub lost : IsUnanswered agents (canon (request_of w))
      ⊎ ((before : List (Option ℕ)) × (used : List (Option ℕ))
      × (old.ahead ≡ before ++ (used ++ new.ahead))
      × Lost agents (earlier ++ canon (request_of w) ∷ []) (canon (request_of w)) used tries 0)

-- one of the agents has no reply to the request of w
abbrev pub HasNone : Agents → WalkState → Type 0
HasNone agents w = IsUnanswered agents (canon (request_of w))

-- what the walk that begins as `first` returns if the agent's table is `view`; `got` is the result
-- of a Get of the name that the walk begins from
abbrev pub walk_at : WalkState → MibView → VarBind → List VarBind
walk_at first view got = walk_from first.mode first.root first.asked got (variables view)

abbrev pub IsDone : WalkEnd → Type 0
IsDone (ending.Done n) = Unit {0}
IsDone _ = ⊥

-- the walk is done, or was stopped by the link or the sink
abbrev pub IsDoneOrStopped : WalkEnd → Type 0
IsDoneOrStopped (ending.Done n) = Unit {0}
IsDoneOrStopped ending.Link = Unit {0}
IsDoneOrStopped (ending.Sink fault) = Unit {0}
IsDoneOrStopped _ = ⊥

-- the walk is done, or was stopped by the link or the sink, or no reply arrived
abbrev pub IsDoneOrCutOff : WalkEnd → Type 0
IsDoneOrCutOff ending.NoResponse = Unit {0}
IsDoneOrCutOff why = IsDoneOrStopped why

-- What is promised of a walk if each reply that it read is a reply of one of these agents to the
-- waiting request. The sink took `rows` and then refused the binding in `refused`, if there is
-- one. If no reply arrived, `Silent` holds of the state that waited.
pub record ReplyFacts (agents : Agents) (Silent : WalkState → Type 0) (first : WalkState)
    (rows refused : List VarBind) (end : WalkEnd) : Type 0 where
  -- Each row is, in one of the tables, the next instance after the name of the row before it; the
  -- first row, after the name that the walk begins from. A walk that includes its root returns the
  -- root's own instance before these, if there is one. Instead of any rows, a plain walk may
  -- return the result of a Get of its root.
  pub part : IsPartOfWalk (IsNextFrom agents) (IsGotFrom agents) first (rows ++ refused)
  -- the link and the sink may stop it at any time; each other end has its reason
  pub lawful : IsLawfulEnd agents Silent first rows end
  -- with one table, `rows` and `refused` are a prefix of what the walk of that table returns
  pub beginning : (view : MibView) (got : VarBind) → agents.tables ≡ view ∷ []
      → IsGet view first.asked got
      → (more : List VarBind) × (walk_at first view got ≡ (rows ++ refused) ++ more)
  -- with one table, `rows` are all that the walk of that table returns, if the walk is done
  pub all_at_done : (view : MibView) (got : VarBind) → agents.tables ≡ view ∷ []
      → IsGet view first.asked got → IsDone end
      → rows ≡ walk_at first view got
  -- With one table, in a walk without a Get of its root, `rows` and `refused` are a prefix of the
  -- rows below the root that come after the name that the walk begins from. If the walk is done,
  -- `rows` are all of these.
  pub rest_beginning : (view : MibView) → agents.tables ≡ view ∷ [] → first.mode ≡ mode.NoLast
      → (more : List VarBind)
      × (rest_of first.root first.asked (variables view) ≡ (rows ++ refused) ++ more)
  pub rest_at_done : (view : MibView) → agents.tables ≡ view ∷ [] → first.mode ≡ mode.NoLast
      → IsDone end → rows ≡ rest_of first.root first.asked (variables view)
  -- each row is from one of the tables, or a plain walk returned only the result of a Get
  pub from_tables : AreFromTables agents first (rows ++ refused)
  -- each name of the walk that all tables have, and that doesn't come after the name of the last
  -- row, occurs once in `rows`
  pub common_names : (name : List ℕ) → IsOfWalk first name → IsInEach agents name
      → (prefix : List VarBind) (last : VarBind) → rows ≡ prefix ++ last ∷ []
      → (Precedes last.name name → ⊥) → OccursOnce rows name
  -- if the walk is done, each name that belongs to the walk (`IsOfWalk`), and that all tables
  -- have, occurs once in `rows`
  pub common_at_done : IsDone end → (name : List ℕ) → IsOfWalk first name → IsInEach agents name
      → OccursOnce rows name
  -- a plain walk that is done returned at least one row
  pub some_at_done : IsDone end → first.mode ≡ mode.Plain → rows ≢ []
  -- If the walk has the agents' community, each single binding of each table has room, and there
  -- are enough ids for the names below the root, the walk is done unless the link or the sink stops
  -- it or no reply arrives.
  pub done_unless_lost : (k : ℕ) → CountsNames agents first k → HasRoomInEach agents first
      → HasIdsFor first k → IsDoneOrCutOff end

-- What is promised of a walk over an honest link, if earlier runs over it had lower ids. The sink
-- took `rows` and then refused the binding in `refused`, if there is one.
pub record WalkFacts (agents : Agents) (tries : ℕ) (old : Traffic) (first : WalkState)
    (rows refused : List VarBind) (end : WalkEnd) (new : Traffic) : Type 0 where
  -- what holds of a walk that reads only replies of its agents; if no reply arrived, one of the
  -- agents has none to the last request, or the deliveries lost the reply (`HasNoReply`)
  pub given : ReplyFacts agents (HasNoReply agents tries old new) first rows refused end
  -- the walk ended by what came of the request sent last
  pub last_request : IsEndedBy agents (HasNoReply agents tries old new) (IsLastSent tries end new)
      first rows end
  -- if each receive returns the reply to the latest datagram, a request stays without a reply only
  -- if one of the agents has none
  pub replied : old.ahead ≡ [] → IsLawfulEnd agents (HasNone agents) first rows end
  -- If each receive returns the reply to the latest datagram, the walk has the agents' community,
  -- there is room for each single binding of each table, and there are enough ids for the names
  -- below the root, then the walk is done unless the link or the sink stops it.
  pub done_unless_stopped : (k : ℕ) → CountsNames agents first k → HasRoomInEach agents first
      → HasIdsFor first k → old.ahead ≡ [] → IsDoneOrStopped end

-- the number of Gets that a walk of this mode may send besides the requests for the next instances
abbrev pub gets : Mode → ℕ
gets mode.NoLast = 0
gets _ = 1

-- What is promised of the requests of a walk that passed on `rows`, over a link that lists the
-- datagrams sent. `honest` says that the link is honest and that earlier runs had lower ids.
pub record SendFacts (agents : Agents) (honest : Type 0) (tries : ℕ) (old : Traffic)
    (first : WalkState) (rows : List VarBind) (end : WalkEnd) (new : Traffic) : Type 0 where
  pub requests : List Try
  pub sent : new.sent ≡ old.sent ++ sent_by requests
  -- their ids increase by one, and each request is sent at most `tries` times
  pub are_tries : AreTries tries first rows first.id requests
  -- the last id is at most 2147483647
  pub few : first.id + length requests ≤ 2147483648
  -- each was sent at least once, unless the link failed at the first send of the last one
  pub each_sent : (before : List Try) × (last : Try) × (requests ≡ before ++ last ∷ [])
      × IsEachSent before × (end ≢ ending.Link → 0 < last.times)
  -- if no reply arrived, the last one was sent exactly `tries` times
  pub all_tries : end ≡ ending.NoResponse → (before : List Try) × (last : Try)
      × (requests ≡ before ++ last ∷ []) × (last.times ≡ tries)
  -- if `honest` holds, at most 64 deliveries are used for each datagram sent
  pub used : honest → (used : List (Option ℕ)) × (old.ahead ≡ used ++ new.ahead)
      × (length used ≤ 64 * length (sent_by requests))
  -- if `honest` holds, there is at most one request for each of k names below the root, one more,
  -- and a Get
  pub few_of_names : honest → (k : ℕ) → CountsNames agents first k
      → length requests ≤ k + 1 + gets first.mode
  -- if `honest` holds, and there is room for all bindings that each request for the next instances
  -- asks for, a walk of k names below the root, by GetBulk with r repetitions, sends at most
  -- k / r + 1 such requests, and a Get
  pub few_where_all_fit : honest
      → ((t : Try) → OneOf requests t → t.by.phase ≡ phase.Rows → HasRoomForAll agents t.by)
      → (k : ℕ) → CountsNames agents first k
      → (n : ℕ) × (asked_for first.method * n ≤ k) × (length requests ≤ n + 1 + gets first.mode)

-- the link is ready for each try of k + 3 requests of at most 1,000 octets; a walk of k names sends
-- fewer requests
abbrev pub IsReadyForAll : (ℕ → ℕ → Type 0) → (tries k : ℕ) → Type 0
IsReadyForAll Ready tries k = Ready ((k + 3) * tries) ((k + 3) * tries * 1000)
