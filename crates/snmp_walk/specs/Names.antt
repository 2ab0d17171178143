-- Tests of names in a walk: which are below its root, and which come after another (RFC 3416,
-- section 4.2.2). `specs/Walk.antt` picks the rows of a table by `is_below` and `comes_after`. The
-- relations `IsBelow` and `Precedes`, which the laws of walks use, say the same.
use Rattle.std.specs.Prelude.{ℕ, Bool, true, false, ◌&&◌, not, nat_lt, List, length}
use Rattle.std.specs.{List.starts_with, Bool.nat_eq, Ordering.nat_cmp, Ordering.is_lt}
use Rattle.std.specs.Cmp.Lexicographic.{slice_cmp}
use Rattle.snmp_wire.specs.Message.{Datum, VarBind}
use Rattle.snmp_wire.specs.Message.Datum.{no_such_object, no_such_instance, end_of_mib_view}

-- whether `name` begins with `root` and is longer
abbrev pub is_below : List ℕ → List ℕ → Bool
is_below name root = starts_with nat_eq name root && nat_lt (length root) (length name)

-- whether p comes after o
abbrev pub comes_after : List ℕ → List ℕ → Bool
comes_after o p = is_lt (slice_cmp nat_cmp o p)

-- ---- for private functions

-- whether the value is endOfMibView
abbrev pub is_end : Datum → Bool
is_end end_of_mib_view = true
is_end _ = false

-- whether the value is noSuchObject or noSuchInstance
abbrev pub is_missing : Datum → Bool
is_missing no_such_object = true
is_missing no_such_instance = true
is_missing _ = false

-- whether the name of `binding` is below `root`, and its value isn't endOfMibView
abbrev pub is_inside : List ℕ → VarBind → Bool
is_inside root binding = not (is_end binding.value) && is_below binding.name root
