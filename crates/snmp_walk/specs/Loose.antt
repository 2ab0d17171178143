-- An agent that replies in other ways than `snmp_agent`, as RFC 3416, section 4.2, allows, and a
-- link in memory to it.
use Rattle.std.specs.Prelude.{pos, ◌≡◌, ℕ, ℤ, max, ◌+◌, ◌≤◌, ◌<ℤ◌, ◌≤ℤ◌, ◌⊎◌, List, [], ◌∷◌, ◌++◌}
use Rattle.std.specs.Prelude.{length, drop}
use Rattle.snmp_wire.specs.declared.kind.Kind.TheVariants as kind
use Rattle.snmp_wire.specs.ber.Length.{IsElement, IsLongLength}
use Rattle.snmp_wire.specs.{ber.Number.AreOctets, Canon.canon, Message.Message, Name.asking}
use Rattle.snmp_wire.specs.{Spelling.Spells, Spelling.sequence_tag}
use Rattle.snmp_agent.specs.Reply.{Agent, Fits, IsDropped, IsReply, agent_of, response}
use Rattle.snmp_agent.specs.declared.config.DropReason.{DropReason}
use Rattle.snmp_walk.specs.{declared.loose.LooseLink.LooseLink, declared.loose.Way.Way}
use Rattle.snmp_walk.specs.{Link.Agents, Memory.agents_over}
use Rattle.snmp_walk.specs.declared.loose.Way.TheVariants as way

-- ---- ways to reply

-- q asks for one name, with the value NULL, as a request of a walk does. If it is a GetBulk, it
-- has no non-repeaters and asks for at least one repetition.
pub record AsksForOne (q : Message) : Type 0 where
  pub name : List ℕ
  pub bindings : q.bindings ≡ asking name ∷ []
  pub repeats : q.kind ≡ kind.GetBulkRequest → (q.a ≡ pos 0) × (pos 1 ≤ℤ q.b)

-- the error status genErr (RFC 3416, section 3)
abbrev pub general_error : ℤ
general_error = pos 5

-- the Response to q with genErr for its first variable, and with the bindings of q (RFC 3416,
-- sections 4.2.1 to 4.2.3)
abbrev pub failed : Message → Message
failed q = response q general_error (pos 1) q.bindings

-- the request q with max-repetitions n
abbrev pub with_repetitions : ℕ → Message → Message
with_repetitions n q = record q { b = pos n }

-- `longer` is the SEQUENCE `reply`, but with its length encoded in five octets, by the long form
-- (X.690, 8.1.3.5)
pub record IsLengthened (reply longer : List ℕ) : Type 0 where
  pub content : List ℕ
  pub same : IsElement sequence_tag content reply
  pub size : List ℕ
  pub long : IsLongLength size (length content)
  pub five : length size ≡ 5
  pub are_octets : AreOctets size
  pub parts : longer ≡ sequence_tag ∷ size ++ content

-- q asks for one name, and in this way the agent sends `octets` in place of `reply`, its own reply
-- to q. `Whole` replaces nothing. `GenErr` sends the error genErr, if it fits. `Fewer n` sends the
-- reply to q with n repetitions, or 1 if n is 0, if q is a GetBulk for more. `LongLength` sends
-- `reply` in another encoding, if there is room for four octets more.
abbrev pub Replaces : Agent → Way → (q : Message) → (reply octets : List ℕ) → Type 0
Replaces agent way.Whole q reply octets = ⊥
Replaces agent way.GenErr q reply octets = AsksForOne q × Fits agent.max_size (failed q)
    × (octets ≡ canon (failed q))
Replaces agent (way.Fewer n) q reply octets = AsksForOne q × (q.kind ≡ kind.GetBulkRequest)
    × (pos (max n 1) <ℤ q.b) × IsReply agent (canon (with_repetitions (max n 1) q)) octets
Replaces agent way.LongLength q reply octets = AsksForOne q × (length reply + 4 ≤ agent.max_size)
    × IsLengthened reply octets

-- In the way `way`, the agent sends `octets` in reply to the datagram: what replaces its own reply,
-- or that reply if nothing does.
pub record IsSentIn (agent : Agent) (way : Way) (datagram octets : List ℕ) : Type 0 where
  pub request : Message
  pub encoded : Spells request datagram
  pub reply : List ℕ
  pub is_reply : IsReply agent datagram reply
  pub sent : Replaces agent way request reply octets
      ⊎ ((octets ≡ reply) × ((other : List ℕ) → Replaces agent way request reply other → ⊥))

-- ---- the link

-- the agent at the other end of the link
abbrev pub agent_at : LooseLink → Agent
agent_at link = agent_of link.table.now link.config

-- the agent at the other end of the link, as the agents of a link
abbrev pub agents_at : LooseLink → Agents
agents_at link = agents_over (link.table.now ∷ []) link.config

-- the datagram that was sent last; empty before the first
abbrev pub last_sent : LooseLink → List ℕ
last_sent link = link.request.items

-- the ways that aren't used yet
abbrev pub ways_left : LooseLink → List Way
ways_left link = drop link.used link.ways.now

-- `next` is the first of the ways, and `left` are the others; if there are none, `next` is `Whole`
-- and `left` is empty
abbrev pub IsNextWay : List Way → Way → (left : List Way) → Type 0
IsNextWay [] next left = (next ≡ way.Whole) × (left ≡ [])
IsNextWay (first ∷ more) next left = (next ≡ first) × (left ≡ more)

-- the agent, the datagram sent last and the ways left are the same in `new` as in `old`, as after
-- a call that fails
pub record IsUnchanged (old new : LooseLink) : Type 0 where
  pub agent : agent_at new ≡ agent_at old
  pub last : last_sent new ≡ last_sent old
  pub ways : ways_left new ≡ ways_left old

-- a send stores `datagram` in place of the one sent before; the agent and the ways left are
-- unchanged
pub record IsSentOver (old : LooseLink) (datagram : List ℕ) (new : LooseLink) : Type 0 where
  pub agent : agent_at new ≡ agent_at old
  pub last : last_sent new ≡ datagram
  pub ways : ways_left new ≡ ways_left old

-- a receive uses the next way, `used`; the agent and the datagram sent last are unchanged
pub record UsesWay (old : LooseLink) (used : Way) (new : LooseLink) : Type 0 where
  pub agent : agent_at new ≡ agent_at old
  pub last : last_sent new ≡ last_sent old
  pub next : IsNextWay (ways_left old) used (ways_left new)

-- a receive returns `octets`, which the agent sends in the next way in reply to the datagram sent
-- last
abbrev pub IsSentBack : LooseLink → List ℕ → LooseLink → Type 0
IsSentBack old octets new = (used : Way) × UsesWay old used new
    × IsSentIn (agent_at old) used (last_sent old) octets

-- a receive returns nothing, since the agent drops the datagram sent last
abbrev pub IsDroppedBy : LooseLink → LooseLink → Type 0
IsDroppedBy old new = (used : Way) × UsesWay old used new
    × (why : DropReason) × IsDropped (agent_at old) (last_sent old) why
