-- A walk over a network at whose other end the agent serves a table.
use Rattle.std.specs.Prelude.{◌≡◌, ℕ, List, [], ◌∷◌, ◌++◌, map}
use Rattle.snmp_agent.specs.Event.{Event, InTurn}
use Rattle.snmp_agent.specs.{Reply.agent_of, Serving.AreTurns, declared.server.Served.Served}
use Rattle.snmp_wire.specs.Message.{VarBind}
use Rattle.snmp_walk.specs.Facts.{ReplyFacts, IsDoneOrStopped}
use Rattle.snmp_walk.specs.{Link.Agents, Memory.agents_over, RunResult.IsWalkedOver}
use Rattle.snmp_walk.specs.{WalkState.WalkState}
use Rattle.snmp_walk.specs.Network.{Happening, at_agents, at_walk}
use Rattle.snmp_walk.specs.Tables.{CountsNames, HasIdsFor, HasRoomInEach}
use Rattle.snmp_walk.specs.declared.end.WalkEnd.{WalkEnd}
use Rattle.snmp_walk.specs.declared.link.Link.{Ghosts as LinkFacts}
use Rattle.snmp_walk.specs.declared.network.NetworkLink.{NetworkLink}

-- the agent at the other end, as the agents of a link
abbrev pub agents_at : {N : Type 0} → NetworkLink N → Agents
agents_at {N} link = agents_over (link.table.now ∷ []) link.config

-- the agent of the link has the same table, community and greatest message size
abbrev pub SameAgent : {N : Type 0} → (old new : NetworkLink N) → Type 0
SameAgent {N} old new =
    agent_of new.table.now new.config ≡ agent_of old.table.now old.config

-- The agent had as many turns as the network says, each a receive and perhaps a reply. Then e
-- happened at the walk's end. `carries` says what can happen between two states of the network.
abbrev pub IsServedBy : {N Peer : Type 0} → (carries : N → Happening Peer → N → Type 0)
    → (turn_count : N → ℕ) → (old : NetworkLink N) → Event (Unit {0}) → (new : NetworkLink N)
    → Type 0
IsServedBy {N} {Peer} carries turn_count old e new =
    SameAgent old new × (served : Served) × (events : List (Event Peer))
    × AreTurns (agent_of old.table.now old.config) (turn_count old.network) served events
    × InTurn carries old.network (map at_agents events ++ at_walk e ∷ []) new.network

-- What is known of a walk over a link to the agents at the other end of a network. `prompt` says
-- that the network loses and delays nothing.
pub record IsWalkServed {W : Type 0} (facts : LinkFacts W) (agents : Agents) (prompt : Type 0)
    (link after : W) (tries : ℕ) (first : WalkState) (given refused : List VarBind)
    (end : WalkEnd) :
    Type 0 where
  -- what `run_walk` promises of a walk over any link: how each request was tried, and why the walk
  -- ended
  pub walked : IsWalkedOver facts link after tries first given refused end
  -- Whatever the network loses, repeats and delays, the rows passed on are a prefix of the walk
  -- over the agent's table, and all of it if the walk is done.
  pub served : ReplyFacts agents (λ w. Unit {0}) first given refused end
  -- Over a network that loses and delays nothing, the walk is done unless the network or the sink
  -- fails, if the walk has the agent's community, each binding of the table has room, and there
  -- are enough ids for the table's names.
  pub done_if_prompt : prompt → (k : ℕ) → CountsNames agents first k
      → HasRoomInEach agents first → HasIdsFor first k → IsDoneOrStopped end
