-- Which bindings and messages have an encoding by the standard: those whose parts are within their
-- ranges.
use Rattle.std.specs.{Prelude.◌≤◌, Prelude.length, List.AllByRecursion}
use Rattle.snmp_wire.specs.{Canon.canon_bindings, Message.VarBind, Message.Message}
use Rattle.snmp_wire.specs.ber.Value.{integer_value, octet_string, object_id}
pub use Rattle.snmp_wire.specs.ber.Range.{IsInRange, IsOfType}

-- the name and the value of `binding` are within their ranges
pub record IsBindingInRange (binding : VarBind) : Type 0 where
  pub name : IsInRange (object_id binding.name)
  pub value : IsInRange binding.value

-- the parts of `message` are within their ranges, and the encodings of its bindings have at most
-- 4,000,000,000 octets together
pub record IsMessageInRange (message : Message) : Type 0 where
  pub version : IsInRange (integer_value message.version)
  pub community : IsInRange (octet_string message.community)
  pub id : IsInRange (integer_value message.id)
  pub a : IsInRange (integer_value message.a)
  pub b : IsInRange (integer_value message.b)
  pub bindings : AllByRecursion IsBindingInRange message.bindings
  pub total : length (canon_bindings message.bindings) ≤ 4000000000

-- ---- for strings of any length

-- the name and the value of `binding` are of their types
pub record IsBindingOfType (binding : VarBind) : Type 0 where
  pub name : IsOfType (object_id binding.name)
  pub value : IsOfType binding.value

-- the parts of `message` are of their types
pub record IsMessageOfType (message : Message) : Type 0 where
  pub version : IsOfType (integer_value message.version)
  pub community : IsOfType (octet_string message.community)
  pub id : IsOfType (integer_value message.id)
  pub a : IsOfType (integer_value message.a)
  pub b : IsOfType (integer_value message.b)
  pub bindings : AllByRecursion IsBindingOfType message.bindings
