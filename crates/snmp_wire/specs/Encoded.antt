-- Encoded bindings.
use Rattle.std.specs.Prelude.{◌≡◌, ℕ, List, [], take, nat_lt, if◌then◌else◌}
use Rattle.std.specs.Result.{result_unwrap_or}
use Rattle.snmp_wire.specs.{declared.inline_octets.Octets.Octets, Canon.canon_binding}
use Rattle.snmp_wire.specs.{Message.VarBind}
use Rattle.snmp_wire.specs.{Message.null_value, Range.IsBindingInRange, Decode.binding_at}

-- the first binding that `octets` encode, or the binding of the empty name and NULL if they don't
-- begin with a binding
abbrev pub binding_in : List ℕ → VarBind
binding_in octets =
    (result_unwrap_or (binding_at octets) (record { name = []; value = null_value }, [])).0

-- `octets` are the encoding that is written of a binding in range
pub record IsKept (octets : List ℕ) : Type 0 where
  pub range : IsBindingInRange (binding_in octets)
  pub encoding : octets ≡ canon_binding (binding_in octets)

-- the octets stored, inline or on the heap
abbrev pub octets_of : Octets → List ℕ
octets_of octets =
    if nat_lt octets.size 40 then take octets.size octets.few else octets.many.items
