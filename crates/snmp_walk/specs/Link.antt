-- The agents that may reply over a link, and what can come of a request.
use Rattle.std.specs.Prelude.{pos, ◌≡◌, ℕ, ◌^◌, ◌<◌, ◌≤◌, ◌⊎◌, List, [], ◌∷◌, length}
use Rattle.snmp_wire.specs.declared.kind.Kind.TheVariants as kind
use Rattle.snmp_wire.specs.{Message.VarBind, Message.Message, Canon.canon}
use Rattle.snmp_agent.specs.table.Table.{MibView, IsGet, IsNext, IsMibView}
use Rattle.snmp_agent.specs.{Reply.Agent, Reply.IsReply, Reply.IsDropped}
use Rattle.snmp_agent.specs.{declared.config.DropReason.DropReason}

-- the agents that may reply: the tables that they serve, their community, and the greatest size of
-- their messages
pub record Agents : Type 0 where
  pub tables : List MibView
  pub community : List ℕ
  pub max_size : ℕ

-- the Response with these bindings and without an error
abbrev pub full_response : List ℕ → ℕ → List VarBind → Message
full_response community id bindings = record {
  version = pos 1;
  community = community;
  kind = kind.Response;
  id = pos id;
  a = pos 0;
  b = pos 0;
  bindings = bindings;
}

-- the list contains x
abbrev pub OneOf : {X : Type 0} → List X → X → Type 0
OneOf [] x = ⊥
OneOf (y ∷ ys) x = (x ≡ y) ⊎ OneOf ys x

-- one of the agents may return p for a GetNext of o
abbrev pub IsNextFrom : Agents → List ℕ → VarBind → Type 0
IsNextFrom agents o p = (view : MibView) × OneOf agents.tables view × IsNext view o p

-- one of the agents may return p for a Get of o
abbrev pub IsGotFrom : Agents → List ℕ → VarBind → Type 0
IsGotFrom agents o p = (view : MibView) × OneOf agents.tables view × IsGet view o p

-- The Response with this request-id, which is below 2^31, and with p only, is longer than the
-- agents' messages may be.
abbrev pub IsTooLarge : Agents → ℕ → VarBind → Type 0
IsTooLarge agents id p = (id < 2 ^ 31)
    × (agents.max_size < length (canon (full_response agents.community id (p ∷ []))))

-- the agent that serves `view`
abbrev pub agent_in : Agents → MibView → Agent
agent_in agents view = record {
  view = view;
  community = agents.community;
  max_size =
      agents.max_size;
}

-- `reply` is the reply of one of the agents to `datagram`
abbrev pub IsReplyFrom : Agents → List ℕ → List ℕ → Type 0
IsReplyFrom agents datagram reply = (view : MibView) × OneOf agents.tables view
    × IsReply (agent_in agents view) datagram reply

-- one of the agents drops `datagram`, and so has no reply to it
pub record IsUnanswered (agents : Agents) (datagram : List ℕ) : Type 0 where
  pub view : MibView
  pub one : OneOf agents.tables view
  pub why : DropReason
  pub dropped : IsDropped (agent_in agents view) datagram why

-- What came of a request: it was answered by this datagram; each try of it missed the reply; or
-- the link failed and cut it off.
pub data Outcome : Type 0 where
  answered : List ℕ → Outcome
  missed : Outcome
  cut_off : Outcome

-- each of the tables is a MIB view
abbrev pub AreViews : List MibView → Type 0
AreViews [] = Unit {0}
AreViews (view ∷ views) = IsMibView view × AreViews views

-- the agents serve MIB views, and their messages fit into datagrams
pub record AreLawful (agents : Agents) : Type 0 where
  pub views : AreViews agents.tables
  pub size : agents.max_size ≤ 65507
