-- The variables of a view as a list, by increasing names.
use Rattle.std.specs.Prelude.{ℕ, zero, suc, Bool, ◌||◌, cond, List, [], ◌∷◌, length, map, take}
use Rattle.std.specs.Prelude.{unwrap_or}
use Rattle.std.specs.{FinMap.entries, FinMap.get, FinSet.contains}
use Rattle.snmp_wire.specs.Message.{VarBind}
use Rattle.snmp_wire.specs.Message.Datum.{end_of_mib_view, no_such_instance, no_such_object}
use Rattle.snmp_agent.specs.table.Table.{MibView}

-- the variables by increasing names
abbrev pub variables : MibView → List VarBind
variables view = map (λ e. record { name = e.0; value = e.1 }) (entries view.rows)

-- ---- for private functions

-- the first of the bindings, or the name `o` with endOfMibView if there are no bindings
abbrev pub first_or_end : List ℕ → List VarBind → VarBind
first_or_end o [] = record { name = o; value = end_of_mib_view }
first_or_end o (p ∷ ps) = p

-- whether an object prefix of at most `n` numbers equals or begins the name
abbrev pub has_prefix : MibView → List ℕ → ℕ → Bool
has_prefix view o zero = contains view.objects []
has_prefix view o (suc n) = contains view.objects (take (suc n) o) || has_prefix view o n

-- the result of a Get of the name
abbrev pub got_at : MibView → List ℕ → VarBind
got_at view o = record {
  name = o;
  value = unwrap_or (get view.rows o)
      (cond (has_prefix view o (length o)) no_such_instance no_such_object);
}
