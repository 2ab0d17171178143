-- The answer to a question: its rows over a table, and what is known of a run that asks it.
use Rattle.std.specs.Prelude.{◌≡◌, ◌≢◌, ◌++◌, ℕ, List, [], ◌∷◌, length, Option, Some, None, All}
use Rattle.snmp_oid.specs.Identifier.{IsWire, wire}
use Rattle.snmp_agent.specs.{table.Listing.variables, table.Table.IsGet, table.Table.MibView}
use Rattle.snmp_wire.specs.{Canon.canon, Message.Message, Message.VarBind}
use Rattle.snmp_walk.specs.{Facts.HasNone, Facts.IsDone, Facts.IsLawfulEnd, Link.Agents}
use Rattle.snmp_walk.specs.{Link.IsUnanswered, RunResult.IsGotOver, RunResult.IsWalkedOver}
use Rattle.snmp_walk.specs.{Request.resume_state}
use Rattle.snmp_walk.specs.{Request.start_state, Room.HasIds, Room.HasRoomForEach, Walk.rest_of}
use Rattle.snmp_walk.specs.{Walk.walk_of, WalkState.WalkState, declared.end.WalkEnd.WalkEnd}
use Rattle.snmp_walk.specs.{declared.link.Link.Ghosts as LinkFacts, Ordered.IsAtOrBelow}
use Rattle.snmp_walk.specs.Get.{AreGot, HasRoomForGet, IsEndOfGet, IsTooBig, get_request}
use Rattle.snmp_walk.specs.declared.end.SinkFault.TheVariants as sink
use Rattle.snmp_walk.specs.declared.end.WalkEnd.TheVariants as ending
use Rattle.snmp_tools.specs.Question.{Plan, Question, Walk, names, subtree}

-- ---- the answer of an agent over a table

-- the agent in memory that has only the table `view`, with the plan's community and greatest size
abbrev pub agent_over : Plan → MibView → Agents
agent_over plan view =
    record { tables = view ∷ []; community = plan.community; max_size = plan.max_size }

-- the request of a Get of the names `os`, with the id 1
abbrev pub request_for : Plan → List (List ℕ) → Message
request_for plan os = get_request plan.community 1 os

abbrev pub first_after : Option (List ℕ) → (community : List ℕ) → Walk → WalkState
first_after None community w = start_state w.root w.mode w.method community 1
first_after (Some after) community w = resume_state w.root after w.method community 1

-- the state of the walk before its first request, which has the id 1
abbrev pub first_of : (community : List ℕ) → Walk → WalkState
first_of community w = first_after w.after community w

abbrev pub AreRowsAfter : Option (List ℕ) → Walk → MibView → List VarBind → Type 0
AreRowsAfter None w view rows = (got : VarBind) × IsGet view (wire w.root) got
    × (rows ≡ walk_of w.mode w.root got (variables view))
AreRowsAfter (Some after) w view rows = rows ≡ rest_of w.root (wire after) (variables view)

-- `rows` is the answer to the question from the table `view`. For a Get, it is the result for each
-- name, in the order of the names. For a walk, it is the rows below the root in increasing order.
-- With the mode `Include`, the root's own row comes before them, if there is one. With the mode
-- `Plain`, it is the result of a Get of the root if no row is below the root. For a walk that
-- continues after a name, it is the rows below the root that come after this name.
abbrev pub AreRowsOf : Question → MibView → List VarBind → Type 0
AreRowsOf (names os) view rows = AreGot view os rows
AreRowsOf (subtree w) view rows = AreRowsAfter w.after w view rows

-- the name to continue after, if there is one, is the root or below it, and can be sent
abbrev pub CanGoOn : List ℕ → Option (List ℕ) → Type 0
CanGoOn root None = Unit {0}
CanGoOn root (Some after) = IsAtOrBelow after root × IsWire (wire after)

-- the names of the question can be sent, and the name to continue after, if there is one, is the
-- root or below it
abbrev pub CanBeSent : Question → Type 0
CanBeSent (names os) = All (λ o. IsWire (wire o)) os
CanBeSent (subtree w) = IsWire (wire w.root) × CanGoOn w.root w.after

-- There is room for the question over the table `view`. For a Get: the request fits into a
-- datagram, and the Response into a message of the agent. For a walk: a Response with any one row
-- of the table fits, and so does a Response with any exception for the name that the walk begins
-- from; and there are enough request ids.
abbrev pub HasRoomFor : Question → Plan → MibView → Type 0
HasRoomFor (names os) plan view = HasRoomForGet (agent_over plan view) (request_for plan os) os
HasRoomFor (subtree w) plan view =
    HasRoomForEach (agent_over plan view) view (first_of plan.community w)
    × HasIds (first_of plan.community w) view

-- the plan's question can be sent, and there is room for it over the table `view`
pub record IsFeasible (plan : Plan) (view : MibView) : Type 0 where
  pub sendable : CanBeSent plan.question
  pub room : HasRoomFor plan.question plan view

-- ---- over the agent in memory

-- the run is done, or the output failed, or memory ran out
abbrev pub IsOwnEnd : WalkEnd → Type 0
IsOwnEnd (ending.Done count) = Unit {0}
IsOwnEnd (ending.Sink fault) = Unit {0}
IsOwnEnd _ = ⊥

-- if the run is done, `n` is the number of bindings in its end
abbrev pub Counts : WalkEnd → ℕ → Type 0
Counts (ending.Done count) n = count ≡ n
Counts _ n = Unit {0}

-- Why the run ended. If it is done, its end has the number of names of a Get, or of the rows that
-- a walk passed on (`given`). It ended early only if a message didn't fit, if the ids were used
-- up, if no reply arrived, or if the link or the sink failed.
abbrev pub HasReason : Question → Plan → MibView → (given : List VarBind) → WalkEnd → Type 0
HasReason (names os) plan view given end =
    IsEndOfGet (IsTooBig (agent_over plan view) (request_for plan os) os) ⊥
    (IsUnanswered (agent_over plan view) (canon (request_for plan os))) (request_for plan os) os end
HasReason (subtree w) plan view given end =
    IsLawfulEnd (agent_over plan view) (HasNone (agent_over plan view)) (first_of plan.community w)
    given end × Counts end (length given)

-- What is known of a run that asked the question over the table `view` and ended with `end`, if the
-- sink took the rows `given` and refused the rows `refused`. `given` and then `refused` are a
-- prefix of the answer. If the run is done, `given` is the whole answer. The run didn't end because
-- the link failed.
pub record IsAsked (plan : Plan) (question : Question) (view : MibView)
    (given refused : List VarBind) (end : WalkEnd) : Type 0 where
  pub prefix : (rows : List VarBind) → AreRowsOf question view rows
      → (more : List VarBind) × (rows ≡ (given ++ refused) ++ more)
  pub whole : (rows : List VarBind) → AreRowsOf question view rows → IsDone end → given ≡ rows
  pub linked : end ≢ ending.Link
  pub reason : HasReason question plan view given end
  -- if there is room, the run ends early only if the output fails or memory runs out
  pub complete : HasRoomFor question plan view → IsOwnEnd end

-- ---- over any link

-- What is known (`facts`) of a run that asks the question over a link, with `tries` tries for each
-- request. The link was in the state `link` before the run, and in the state `after` when the run
-- ended with `end`. The sink took the bindings `given` and refused `refused`.
abbrev pub IsAskedOver : {W : Type 0} → LinkFacts W → (link after : W) → (tries : ℕ) → Plan
    → Question → (given refused : List VarBind) → WalkEnd → Type 0
IsAskedOver {W} facts link after tries plan (names os) given refused end =
    IsGotOver facts link after tries plan.community 1 os given refused end
IsAskedOver {W} facts link after tries plan (subtree w) given refused end =
    IsWalkedOver facts link after tries (first_of plan.community w) given refused end

-- The question of the plan was asked over a link. `link` is the state of the link before the run,
-- when nothing had been sent over it, and `after` its state after the run. `Linked` says that the
-- link was opened in the state `link` and closed in the state `after`, so nothing else happened
-- over it.
pub record HasFacts {W : Type 0} (Linked : (link after : W) → Type 0) (facts : LinkFacts W)
    (tries : ℕ) (plan : Plan) (given refused : List VarBind) (end : WalkEnd) : Type 0 where
  pub link : W
  pub after : W
  pub linked : Linked link after
  pub fresh : (facts.traffic link).sent ≡ []
  pub run : IsAskedOver facts link after tries plan plan.question given refused end

-- ---- for private functions

-- the end of a run over a link in memory: if the link failed, the reason is that memory ran out,
-- since such a link fails for no other reason
abbrev pub end_in_memory : WalkEnd → WalkEnd
end_in_memory ending.Link = ending.Sink sink.Memory
end_in_memory end = end
