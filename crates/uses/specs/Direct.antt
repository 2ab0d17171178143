-- How sends and receives change a `Direct`, a link to an agent that is called at each receive. The
-- agent stays the same.
use Rattle.std.specs.Prelude.{◌≡◌, ℕ, List, Option, Some, None, if◌then◌else◌}
use Rattle.snmp_agent.specs.Reply.{Agent, IsReply, agent_of}
use Rattle.uses.specs.declared.direct.Direct.{Direct}

-- the agent at the other end of `link`
abbrev pub agent_at : Direct → Agent
agent_at link = agent_of link.table.now link.config

-- the datagram that was sent over `link` last: a receive returns the agent's reply to it, if the
-- agent has one. None if nothing was sent, or the last send failed.
abbrev pub pending : Direct → Option (List ℕ)
pending link = if link.is_sent then Some link.last.items else None

-- a send of `datagram` took the link from state `old` to `new`: now `datagram` is pending
pub record HasAsked (old : Direct) (datagram : List ℕ) (new : Direct) : Type 0 where
  pub agent : agent_at new ≡ agent_at old
  pub now : pending new ≡ Some datagram

-- a send that failed took the link from state `old` to `new`: now nothing is pending
pub record HasFailed (old new : Direct) : Type 0 where
  pub agent : agent_at new ≡ agent_at old
  pub now : pending new ≡ None

-- a receive that returned no datagram, or failed, took the link from state `old` to `new`: the
-- same datagram is pending as before, or none as before
pub record IsIdle (old new : Direct) : Type 0 where
  pub agent : agent_at new ≡ agent_at old
  pub now : pending new ≡ pending old

-- a receive returned `octets`, the agent's reply to the pending datagram, and took the link from
-- state `old` to `new`: that datagram is still pending
pub record HasReplied (old : Direct) (octets : List ℕ) (new : Direct) : Type 0 where
  pub agent : agent_at new ≡ agent_at old
  pub now : pending new ≡ pending old
  pub datagram : List ℕ
  pub waits : pending old ≡ Some datagram
  pub reply : IsReply (agent_at old) datagram octets
