-- Values, variable bindings and messages as the standard defines them (RFC 3416, section 3; RFC
-- 1901, section 3), regardless of where their octets are in memory.
use Rattle.std.specs.Prelude.{ℕ, ℤ, List, map}
use Rattle.snmp_wire.specs.{declared.kind.Kind.Kind, declared.binding.Binding.Binding}
pub use Rattle.snmp_wire.specs.ber.Value.{Datum, integer_value, octet_string, null_value, object_id}
pub use Rattle.snmp_wire.specs.ber.Value.{ip_address, counter32, gauge32, time_ticks, opaque_octets}
pub use Rattle.snmp_wire.specs.ber.Value.{counter64, no_such_object, no_such_instance}
pub use Rattle.snmp_wire.specs.ber.Value.{end_of_mib_view, datum}

-- a variable binding: the name of an instance, and its value
pub record VarBind : Type 0 where
  pub name : List ℕ
  pub value : Datum

-- a message. In a GetBulk request `a` and `b` are the non-repeaters and the max-repetitions, in
-- all others the error-status and the error-index.
pub record Message : Type 0 where
  pub version : ℤ
  pub community : List ℕ
  pub kind : Kind
  pub id : ℤ
  pub a : ℤ
  pub b : ℤ
  pub bindings : List VarBind

-- the binding, regardless of where its octets are
abbrev pub var_bind : Binding → VarBind
var_bind b = record { name = b.name; value = datum b.value }

-- the bindings, regardless of where their octets are
abbrev pub var_binds : List Binding → List VarBind
var_binds bindings = map var_bind bindings
