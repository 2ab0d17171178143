-- Which bindings are instances below a root, and which have no value (RFC 3416, section 3).
use Rattle.std.specs.Prelude.{◌≡◌, ◌≢◌, ◌⊎◌, ℕ, List}
use Rattle.snmp_oid.specs.Identifier.{IsBelow}
use Rattle.snmp_wire.specs.Message.{VarBind, no_such_object, no_such_instance, end_of_mib_view}

-- b has a name below the root and isn't endOfMibView: it is an instance, unless it has no value
-- (`IsMissing`)
pub record IsInside (root : List ℕ) (b : VarBind) : Type 0 where
  pub below : IsBelow b.name root
  pub value : b.value ≢ end_of_mib_view

-- b has noSuchObject or noSuchInstance in place of a value
abbrev pub IsMissing : VarBind → Type 0
IsMissing b = (b.value ≡ no_such_object) ⊎ (b.value ≡ no_such_instance)
