-- The Responses that RFC 3416, section 4.2, lets agents send to a walk or a Get. `snmp_agent`
-- sends some of them.
use Rattle.std.specs.Prelude.{pos, ◌≡◌, ℕ, ◌≤ℤ◌, List, [], ◌∷◌, length}
use Rattle.snmp_wire.specs.declared.kind.Kind.TheVariants as kind
use Rattle.snmp_wire.specs.Message.{VarBind, Message}
use Rattle.snmp_agent.specs.table.Table.{MibView, IsNext}
use Rattle.snmp_agent.specs.Reply.{IsRequest, IsWhole, Fits, response, no_error, too_big}
use Rattle.snmp_walk.specs.{Link.Agents, Link.OneOf, Progress.IsChain}

-- An agent of this table may send the Response r to q: the whole Response, whatever its length
-- (`IsWhole`); tooBig, if the whole one has more than `max_size` octets; or, to a GetBulk of one
-- name without non-repeaters, at most max-repetitions successors, each of the name before it, and
-- none only if the first has no room. So it may send fewer than have room, and endOfMibView more
-- than once.
pub data MayRespond (view : MibView) (max_size : ℕ) (q r : Message) : Type 0 where
  whole : IsWhole view q r → MayRespond view max_size q r
  shortened : (large : Message) → IsWhole view q large → (Fits max_size large → ⊥)
      → r ≡ response q too_big (pos 0) [] → MayRespond view max_size q r
  bulk : (asked : VarBind) (bindings : List VarBind) → q.kind ≡ kind.GetBulkRequest
      → q.a ≡ pos 0 → q.bindings ≡ asked ∷ [] → IsChain (IsNext view) asked.name bindings
      → pos (length bindings) ≤ℤ q.b
      → (bindings ≡ [] → (first : VarBind) × IsNext view asked.name first
      × (Fits max_size (response q no_error (pos 0) (first ∷ [])) → ⊥))
      → r ≡ response q no_error (pos 0) bindings → MayRespond view max_size q r

-- one of the agents may send the Response r, in any encoding, to the request that the datagram
-- encodes
pub record IsResponseFrom (agents : Agents) (datagram : List ℕ) (r : Message) : Type 0 where
  pub view : MibView
  pub one : OneOf agents.tables view
  pub request : Message
  pub is_request : IsRequest agents.community datagram request
  pub may : MayRespond view agents.max_size request r
