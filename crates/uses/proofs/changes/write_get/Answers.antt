use Rattle.std.proofs.Common.{◌≤◌, ◌∷◌, [], List, ℕ, length, arith, refl, sym, subst}
use Rattle.snmp_wire.specs.{Canon.canon, Canon.canon_bindings, Message.Message, Name.asking}
use Rattle.uses.specs.Changes.{get_of}
use Rattle.uses.proofs.changes.write_get.Goals as goal

-- the binding is part of a message of at most 1000 octets
pub encode-requires-clause-total : goal.encode-requires-clause-total
encode-requires-clause-total c =
    let name = c.copy.result in
    let get : Message = get_of c.args.community.now c.args.id name in
    let few : length name ≤ 128 = subst (λ (o : List ℕ). length o ≤ 128) (sym c.copy.ensures) c.as_slice-numbers.ensures.is_identifier.short in
    let most : length (canon get) ≤ 1000 = c.requests_are_short.ensures get name refl c.requires.community few in
    let whole = c.message_sizes.ensures.whole get in
    let total : length (canon_bindings (asking name ∷ [])) ≤ 4000000000 = omega (arith, most, whole) in
    total
