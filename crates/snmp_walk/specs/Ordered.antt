-- The order of the rows that a walk returns (RFC 2578, section 7.1.3; RFC 3416, section 4.2.2),
-- and the names that a walk can begin from.
use Rattle.std.specs.Prelude.{◌≡◌, ℕ, ◌⊎◌, List, [], ◌∷◌}
use Rattle.snmp_oid.specs.Identifier.{IsWire, IsBelow, Precedes, wire}
use Rattle.snmp_wire.specs.Message.{VarBind}
use Rattle.snmp_walk.specs.Link.{OneOf}

-- the names of the bindings increase: each comes before all later ones
abbrev pub AreOrdered : List VarBind → Type 0
AreOrdered [] = Unit {0}
AreOrdered (p ∷ more) = ((q : VarBind) → OneOf more q → Precedes p.name q.name) × AreOrdered more

-- `name` is `root` or below it
abbrev pub IsAtOrBelow : (name root : List ℕ) → Type 0
IsAtOrBelow name root = (name ≡ root) ⊎ IsBelow name root

-- the name has no encoding, even padded with zeros to two numbers
abbrev pub IsUnsendable : List ℕ → Type 0
IsUnsendable name = IsWire (wire name) → ⊥

-- a walk below `root` can be resumed after `name`: `name` is `root` or below it, and has an
-- encoding without being padded
abbrev pub IsResumable : (root name : List ℕ) → Type 0
IsResumable root name = (wire name ≡ name) × IsWire name × IsAtOrBelow name root
