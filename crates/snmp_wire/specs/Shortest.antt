-- The shortest strict encoding of a message (RFC 3417, section 8, requires definite lengths).
use Rattle.std.specs.Prelude.{ℕ, ◌≤◌, List, length}
use Rattle.snmp_wire.specs.{Message.Message, Spelling.Strict}

-- `octets` are a shortest encoding of `message`: a strict one, and no strict one is shorter
pub record IsShortestEncoding (octets : List ℕ) (message : Message) : Type 0 where
  pub strict : Strict message octets
  pub shortest : (other : List ℕ) → Strict message other → length octets ≤ length other
