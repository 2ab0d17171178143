-- The state of a `MemoryLink`, and what its calls change.
use Rattle.std.specs.Prelude.{◌≡◌, ℕ, ◌+◌, ◌<◌, ◌≤◌, ◌⊎◌, List, [], ◌∷◌, ◌++◌, length, drop, Option}
use Rattle.std.specs.Prelude.{Some, None}
use Rattle.std.specs.List.{slice_get}
use Rattle.snmp_agent.specs.{table.Table.MibView, declared.config.Config.Config}
use Rattle.snmp_agent.specs.{declared.config.DropReason.DropReason, Reply.IsReply, Reply.IsDropped}
use Rattle.snmp_walk.specs.{declared.memory.MemoryLink.MemoryLink, Link.Agents, Link.AreLawful}
use Rattle.snmp_walk.specs.{Link.agent_in, Traffic.Traffic, Traffic.datagram_at}

-- the agents that serve these tables
abbrev pub agents_over : List MibView → Config → Agents
agents_over tables config = record {
  tables = tables;
  community = config.community.now;
  max_size = config.max_size;
}

-- the agents of the link
abbrev pub agents_of : MemoryLink → Agents
agents_of link = agents_over link.tables.now link.config

-- the datagrams sent over the link, and the deliveries that aren't used yet
abbrev pub traffic_of : MemoryLink → Traffic
traffic_of link = record {
  sent = link.arena.datagrams;
  ahead = drop link.used link.deliveries.now;
}

-- the agents of `link` are lawful
pub record IsHonest (link : MemoryLink) : Type 0 where
  pub lawful : AreLawful (agents_of link)

-- `link` has memory for `sends` more datagrams of `octets` octets in total
pub record IsReadyFor (link : MemoryLink) (sends octets : ℕ) : Type 0 where
  pub free_spans : sends ≤ link.arena.free_spans
  pub room : octets ≤ link.arena.room

-- The next receive is for datagram `number`, counted from 1, or for none if `number` is 0. If no
-- delivery is ahead, it is for the latest datagram. `left` are the deliveries after it.
abbrev pub IsNextNumber : List (List ℕ) → (ahead : List (Option ℕ)) → ℕ
    → (left : List (Option ℕ)) → Type 0
IsNextNumber sent ahead number left =
    (ahead ≡ Some number ∷ left)
    ⊎ (((ahead ≡ None ∷ left) × (number ≡ 0))
    ⊎ ((ahead ≡ []) × (left ≡ []) × (number ≡ length sent)))

-- Datagram `number`, counted from 1, is answered from the table `view`: the one at the index
-- `uses[number - 1]` in `tables`, or the last table if `uses` has fewer items.
abbrev pub IsTableFor : List MibView → (uses : List ℕ) → (number : ℕ) → MibView → Type 0
IsTableFor tables uses number view =
    ((before : ℕ) × (index : ℕ) × (number ≡ before + 1) × (slice_get uses before ≡ Some index)
    × (slice_get tables index ≡ Some view))
    ⊎ ((length uses < number)
    × ((prefix : List MibView) × (tables ≡ prefix ++ view ∷ [])))

-- `octets` are the reply to datagram `number`, by the agent of the table for it
pub record IsReplyOf (agents : Agents) (uses : List ℕ) (sent : List (List ℕ)) (number : ℕ)
    (octets : List ℕ) : Type 0 where
  pub datagram : List ℕ
  pub found : datagram_at sent number ≡ Some datagram
  pub view : MibView
  pub serves : IsTableFor agents.tables uses number view
  pub reply : IsReply (agent_in agents view) datagram octets

-- datagram `number` doesn't exist, or the agent of the table for it has no reply to it
abbrev pub HasNoReplyOf : Agents → (uses : List ℕ) → (sent : List (List ℕ)) → (number : ℕ)
    → Type 0
HasNoReplyOf agents uses sent number =
    (datagram_at sent number ≡ None)
    ⊎ ((datagram : List ℕ) × (view : MibView) × (why : DropReason)
    × (datagram_at sent number ≡ Some datagram) × IsTableFor agents.tables uses number view
    × IsDropped (agent_in agents view) datagram why)

-- a send appends `datagram` to those sent; agents, uses and deliveries are unchanged
pub record IsSentOver (old : MemoryLink) (datagram : List ℕ) (new : MemoryLink) : Type 0 where
  pub agents : agents_of new ≡ agents_of old
  pub uses : new.uses.now ≡ old.uses.now
  pub sent : (traffic_of new).sent ≡ (traffic_of old).sent ++ datagram ∷ []
  pub ahead : (traffic_of new).ahead ≡ (traffic_of old).ahead

-- a receive is for datagram `number` (`IsNextNumber`), and uses the next delivery if one is ahead;
-- agents, uses and datagrams sent are unchanged
pub record UsesDelivery (old : MemoryLink) (number : ℕ) (new : MemoryLink) : Type 0 where
  pub agents : agents_of new ≡ agents_of old
  pub uses : new.uses.now ≡ old.uses.now
  pub sent : (traffic_of new).sent ≡ (traffic_of old).sent
  pub next : IsNextNumber (traffic_of old).sent (traffic_of old).ahead number (traffic_of new).ahead

-- a receive returns `octets`, the reply to the datagram that the receive is for
abbrev pub IsDeliveredBy : MemoryLink → List ℕ → MemoryLink → Type 0
IsDeliveredBy old octets new = (number : ℕ) × UsesDelivery old number new
    × IsReplyOf (agents_of old) old.uses.now (traffic_of old).sent number octets

-- a receive returns nothing: it is for no datagram, or for one without a reply
abbrev pub IsSilentBy : MemoryLink → MemoryLink → Type 0
IsSilentBy old new = (number : ℕ) × UsesDelivery old number new
    × HasNoReplyOf (agents_of old) old.uses.now (traffic_of old).sent number

-- A call that fails changes neither agents nor traffic, nor which table replies to which datagram.
-- Memory that was reserved stays reserved.
pub record IsAfterFault (old new : MemoryLink) : Type 0 where
  pub agents : agents_of new ≡ agents_of old
  pub uses : new.uses.now ≡ old.uses.now
  pub traffic : traffic_of new ≡ traffic_of old
  pub ready : (sends octets : ℕ) → IsReadyFor old sends octets → IsReadyFor new sends octets
