-- The laws of the crates below about names, messages and their encodings, and tables, for proofs.
use Rattle.std.specs.{Prelude.◌≡◌, Prelude.◌≤◌, Prelude.ℕ, Prelude.List, Ordering.nat_cmp}
use Rattle.std.specs.{Cmp.Lexicographic.slice_cmp, declared.cmp.Ordering.TheVariants.Less}
use Rattle.snmp_oid.specs.Identifier.{Precedes}
use Rattle.snmp_wire.specs.{ber.Sizes.ElementSizes, Sizes.MessageSizes, Message.VarBind}
use Rattle.snmp_agent.specs.table.Table.{IsGet, IsMibView, MibView}
use Rattle.snmp_agent.specs.Reply.{Agent, IsReply}
use Rattle.snmp_wire.specs.Spelling.{Spells}
use Rattle.snmp_wire.specs.Laws.{OneMessage, StrictIsRead, EncodingIsStrict, HasPieces}

pub record Codec : Type 0 where
  -- octets encode at most one message
  pub one : OneMessage
  -- a strict encoding is decoded
  pub read : StrictIsRead
  -- the encoding that is written of a message in range is strict
  pub strict : EncodingIsStrict
  -- the encoding that is written is a head and then the bindings
  pub pieces : HasPieces
  -- the length of an encoding, and of its elements
  pub sizes : MessageSizes
  pub elements : ElementSizes
  -- an agent's reply encodes its Response
  pub reply : (agent : Agent) (datagram octets : List ℕ) → IsMibView agent.view
      → agent.max_size ≤ 65535 → (r : IsReply agent datagram octets) → Spells r.response octets
  -- a name that compares as less comes before the other
  pub less : (o p : List ℕ) → slice_cmp nat_cmp o p ≡ Less → Precedes o p
  -- a Get of any name returns a binding
  pub got : (view : MibView) (o : List ℕ) → (p : VarBind) × IsGet view o p
