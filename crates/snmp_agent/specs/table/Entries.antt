-- The order of entries, which are names of instances with their values.
use Rattle.std.specs.Prelude.{◌≡◌, ℕ, true, not, List, [], ◌∷◌, ◌++◌}
use Rattle.std.specs.{Ordering.nat_cmp, Ordering.eq_by_cmp, Cmp.Lexicographic.slice_cmp}
use Rattle.std.specs.{FinMap.FinMap, FinMap.Entries.where_key, FinSet.from_list}
use Rattle.std.specs.List.{AllByRecursion, list_any}
use Rattle.std.specs.declared.cmp.Ordering.TheVariants.{Less, Greater}
use Rattle.snmp_wire.specs.Message.{Datum, VarBind}
use Rattle.snmp_agent.specs.table.Table.{MibView}

-- the MIB view of these rows and object prefixes
abbrev pub view_of : FinMap (slice_cmp nat_cmp) Datum → List (List ℕ) → MibView
view_of rows objects = record { rows = rows; objects = from_list objects }

-- the name `o` comes before each entry
abbrev pub IsBeforeAll : List ℕ → List (List ℕ × Datum) → Type 0
IsBeforeAll o es = AllByRecursion (λ (e : List ℕ × Datum). slice_cmp nat_cmp o e.0 ≡ Less) es

-- the name `o` comes before no entry
abbrev pub IsBeforeNone : List ℕ → List (List ℕ × Datum) → Type 0
IsBeforeNone o es = AllByRecursion (λ (e : List ℕ × Datum). slice_cmp nat_cmp o e.0 ≡ Less → ⊥) es

abbrev pub entry_of : VarBind → List ℕ × Datum
entry_of p = (p.name, p.value)

-- the name of the last entry, or `o` if there is none
abbrev pub last_name : List ℕ → List (List ℕ × Datum) → List ℕ
last_name o [] = o
last_name o (e ∷ es) = last_name e.0 es

-- ---- for private functions

-- the name `o` comes after each entry
abbrev pub IsAfterAll : List ℕ → List (List ℕ × Datum) → Type 0
IsAfterAll o es = AllByRecursion (λ (e : List ℕ × Datum). slice_cmp nat_cmp o e.0 ≡ Greater) es

abbrev pub var_of : List ℕ × Datum → VarBind
var_of e = record { name = e.0; value = e.1 }

-- one of the object prefixes equals or begins the name `o`
abbrev pub HasBeginning : List (List ℕ) → List ℕ → Type 0
HasBeginning objects o = (object : List ℕ) × (rest : List ℕ)
    × (list_any (eq_by_cmp (slice_cmp nat_cmp) object) objects ≡ true) × (o ≡ object ++ rest)

-- the entries that don't have the name `o`
abbrev pub without_name : List ℕ → List (List ℕ × Datum) → List (List ℕ × Datum)
without_name o es = where_key (slice_cmp nat_cmp) (λ p. not (eq_by_cmp (slice_cmp nat_cmp) o p)) es
