-- Notifications of SNMPv2 (RFC 3416, section 4.2.6).
use Rattle.std.specs.Prelude.{◌≡◌, ℕ, pos, List, [], ◌∷◌}
use Rattle.snmp_wire.specs.{Message.Message, Message.VarBind, Message.object_id, Spelling.Spells}
use Rattle.snmp_wire.specs.declared.kind.Kind.TheVariants as kind

-- the name of the instance of snmpTrapOID (RFC 3418, section 2)
abbrev pub snmp_trap_oid : List ℕ
snmp_trap_oid = 1 ∷ 3 ∷ 6 ∷ 1 ∷ 6 ∷ 3 ∷ 1 ∷ 1 ∷ 4 ∷ 1 ∷ 0 ∷ []

-- the message is an SNMPv2-Trap of SNMPv2c, and its second binding says that snmpTrapOID.0 is `oid`
pub record IsTrapMessage (message : Message) (oid : List ℕ) : Type 0 where
  pub version : message.version ≡ pos 1
  pub kind : message.kind ≡ kind.Trap
  pub first : VarBind
  pub more : List VarBind
  pub bindings : message.bindings
      ≡ first ∷ record { name = snmp_trap_oid; value = object_id oid } ∷ more

-- `octets` encode an SNMPv2-Trap of SNMPv2c, whose second binding says that snmpTrapOID.0 is `oid`
abbrev pub IsTrap : List ℕ → List ℕ → Type 0
IsTrap octets oid = (message : Message) × Spells message octets × IsTrapMessage message oid
