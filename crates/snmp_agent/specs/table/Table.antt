-- What an agent serves, and what it returns for one name (RFC 3416, sections 4.2.1 and 4.2.2).
use Rattle.std.specs.Prelude.{◌≡◌, ◌≢◌, ℕ, zero, suc, ◌^◌, ◌<◌, ◌≤◌, true, List, [], ◌++◌, length}
use Rattle.std.specs.Prelude.{All, Some, None, FitsSigned}
use Rattle.std.specs.{Int.w32, Ordering.nat_cmp, Cmp.Lexicographic.slice_cmp, FinMap.FinMap}
use Rattle.std.specs.{FinMap.get, FinMap.insert, FinMap.remove, FinSet.FinSet, FinSet.contains}
use Rattle.snmp_oid.specs.Identifier.{IsIdentifier, IsWire, Precedes}
use Rattle.snmp_wire.specs.Message.{Datum, VarBind}
use Rattle.snmp_wire.specs.Message.Datum.{integer_value, octet_string, object_id, ip_address}
use Rattle.snmp_wire.specs.Message.Datum.{counter32, gauge32, time_ticks, opaque_octets, counter64}
use Rattle.snmp_wire.specs.Message.Datum.{no_such_object, no_such_instance, end_of_mib_view}
use Rattle.snmp_agent.specs.declared.table.error.PutError.{PutError}
use Rattle.snmp_agent.specs.declared.table.error.PutError.TheVariants as refusal

-- A MIB view: the variables that an agent gives access to. It has the value of each instance, by
-- its name, and the object prefixes. An object prefix begins the names of all instances of an
-- object, whether there are instances or not.
pub record MibView : Type 0 where
  pub rows : FinMap (slice_cmp nat_cmp) Datum
  pub objects : FinSet (slice_cmp nat_cmp)

-- `o` can be the name of an instance: an identifier of at least three numbers that has an encoding
pub record IsInstanceName (o : List ℕ) : Type 0 where
  pub long : 3 ≤ length o
  pub wire : IsWire o
  pub identifier : IsIdentifier o

-- a table can hold this string: it has at most 65535 octets
abbrev pub IsTableString : List ℕ → Type 0
IsTableString octets = (length octets ≤ 65535) × All (λ octet. octet < 256) octets

-- an instance can hold this value: it isn't NULL or an exception, and is within the range of its
-- type; strings have at most 65535 octets, and identifiers have an encoding
abbrev pub IsInstanceValue : Datum → Type 0
IsInstanceValue (integer_value n) = FitsSigned w32 n
IsInstanceValue (octet_string octets) = IsTableString octets
IsInstanceValue (object_id o) = IsWire o × IsIdentifier o
IsInstanceValue (ip_address octets) = (length octets ≡ 4) × All (λ octet. octet < 256) octets
IsInstanceValue (counter32 n) = n < 2 ^ 32
IsInstanceValue (gauge32 n) = n < 2 ^ 32
IsInstanceValue (time_ticks n) = n < 2 ^ 32
IsInstanceValue (opaque_octets octets) = IsTableString octets
IsInstanceValue (counter64 n) = n < 2 ^ 64
IsInstanceValue _ = ⊥

-- a reply can have this for a name: a value that an instance can hold, or an exception
abbrev pub IsAnswerValue : Datum → Type 0
IsAnswerValue no_such_object = Unit {0}
IsAnswerValue no_such_instance = Unit {0}
IsAnswerValue end_of_mib_view = Unit {0}
IsAnswerValue v = IsInstanceValue v

-- `p` is a variable of the view: an instance with its value
abbrev pub IsRow : MibView → VarBind → Type 0
IsRow view p = get view.rows p.name ≡ Some p.value

-- an agent can serve the view: its rows have names and values of instances, and its object
-- prefixes are identifiers of at least one number
pub record IsMibView (view : MibView) : Type 0 where
  pub names : (p : VarBind) → IsRow view p → IsInstanceName p.name
  pub values : (p : VarBind) → IsRow view p → IsInstanceValue p.value
  pub objects : (object : List ℕ) → contains view.objects object ≡ true
      → (object ≢ []) × IsIdentifier object

-- an object prefix of the view equals or begins the name `o`
abbrev pub HasObject : MibView → List ℕ → Type 0
HasObject view o = (object : List ℕ) × (rest : List ℕ) × (contains view.objects object ≡ true)
    × (o ≡ object ++ rest)

-- a Get of the name `o` returns `p` (RFC 3416, section 4.2.1): the variable of that name. If the
-- view has no such variable, `p` is `o` with noSuchInstance if an object prefix of the view equals
-- or begins `o`, and otherwise `o` with noSuchObject.
pub data IsGet (view : MibView) (o : List ℕ) (p : VarBind) : Type 0 where
  variable : p.name ≡ o → IsRow view p → IsGet view o p
  unknown_object : get view.rows o ≡ None → (HasObject view o → ⊥)
      → p ≡ record { name = o; value = no_such_object } → IsGet view o p
  unknown_instance : get view.rows o ≡ None → HasObject view o
      → p ≡ record { name = o; value = no_such_instance } → IsGet view o p

-- `p` is the lexicographic successor of the name `o`: a variable after it, with none between
pub record IsSuccessor (view : MibView) (o : List ℕ) (p : VarBind) : Type 0 where
  pub row : IsRow view p
  pub after : Precedes o p.name
  pub nearest : (q : VarBind) → IsRow view q → Precedes o q.name → Precedes q.name p.name → ⊥

-- a GetNext of the name `o` returns `p` (RFC 3416, section 4.2.2): its lexicographic successor, or
-- the name itself with endOfMibView if there is none
pub data IsNext (view : MibView) (o : List ℕ) (p : VarBind) : Type 0 where
  successor : IsSuccessor view o p → IsNext view o p
  end_of_view : ((q : VarBind) → IsRow view q → Precedes o q.name → ⊥)
      → p ≡ record { name = o; value = end_of_mib_view } → IsNext view o p

-- `p` is the last result of `rounds + 1` GetNexts, the first of `o` and each other of the name
-- that the previous one returned
abbrev pub IsNextAfter : MibView → ℕ → List ℕ → VarBind → Type 0
IsNextAfter view zero o p = IsNext view o p
IsNextAfter view (suc rounds) o p = (q : VarBind) × IsNextAfter view rounds o q
    × IsNext view q.name p

-- the view in which the instance `o` has the value `v`, whether `view` has an instance `o` or not;
-- the other instances and the object prefixes are those of `view`
abbrev pub with_row : MibView → List ℕ → Datum → MibView
with_row view o v = record { rows = insert view.rows o v; objects = view.objects }

-- the view without the instance `o`; the other instances and the object prefixes are those of
-- `view`
abbrev pub without_row : MibView → List ℕ → MibView
without_row view o = record { rows = remove view.rows o; objects = view.objects }

-- the error says why the value `v` isn't put under the name `o`, by the first reason that applies:
-- an instance can't have the name, or it can't hold the value, or memory ran out
abbrev pub IsPutError : List ℕ → Datum → PutError → Type 0
IsPutError o v refusal.BadName = IsInstanceName o → ⊥
IsPutError o v refusal.BadValue = IsInstanceName o × (IsInstanceValue v → ⊥)
IsPutError o v refusal.Memory = IsInstanceName o × IsInstanceValue v
