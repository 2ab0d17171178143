-- If a list has no binding, or only one, whose encoding has at most 70,000 octets, then its bindings together are encoded in at most 4,000,000,000 octets.
use Rattle.std.proofs.Common.{◌≡◌, ℕ, ◌<◌, ◌≤◌, List, [], ◌∷◌, length, get_or, ap, arith, length-append}
use Rattle.snmp_wire.specs.declared.binding.Binding.{Binding}
use Rattle.snmp_wire.specs.Canon.{canon_binding, canon_bindings}
use Rattle.snmp_wire.specs.Message.{var_bind, var_binds}

pub none_fits : (bindings : List Binding) → length bindings < 1 → length (canon_bindings (var_binds bindings)) ≤ 4000000000
unfolding canon_bindings
none_fits [] none = omega arith
none_fits (x ∷ more) none = omega (arith, none)

pub one_fits : (bindings : List Binding) (binding : Binding) (size : ℕ) → length bindings ≤ 1 → binding ≡ get_or bindings 0 binding
    → size ≡ length (canon_binding (var_bind binding)) → size ≤ 70000 → length (canon_bindings (var_binds bindings)) ≤ 4000000000
unfolding canon_bindings
one_fits [] binding size one is e short = omega arith
one_fits (x ∷ []) binding size one is e short = omega (
  arith,
  ap (λ b. length (canon_binding (var_bind b))) is,
  e,
  short,
  length-append (canon_binding (var_bind x)) [],
)
one_fits (x ∷ y ∷ more) binding size one is e short = omega (arith, one)
