use Rattle.std.proofs.{Common.arith, Common.length, Common.List, Common.ℕ, Common.◌≤◌, Common.subst, Common.sym, lemmas.Grind.common_steps}
use Rattle.snmp_wire.proofs.WrittenBindings.{binding_octets, bindings_are}
use Rattle.snmp_wire.proofs.WritingLaws.{piece_fits, writes_piece, writes_pieces, writes_same}
use Rattle.snmp_wire.proofs.message.put_bindings.Goals as goal

pub put_binding-start-requires-clause-room : goal.put_binding-start-requires-clause-room
put_binding-start-requires-clause-room c =
    piece_fits binding_octets _ _ _ _ c.bindings-test.true c.bindings.auto.i c.index-bindings-i.is c.bindings.invariant
    (subst (λ (octets : List ℕ). length octets ≤ c.args.end) (sym (bindings_are c.args.bindings.now)) c.requires.room)

pub bindings-preserved : goal.bindings-preserved
bindings-preserved c = writes_piece binding_octets _ _ _ _ c.bindings-test.true c.bindings.auto.i c.index-bindings-i.is c.bindings.invariant
    c.put_binding-start.ensures

pub returns : goal.returns
returns c = grind (arith, common_steps, writes_same, writes_pieces, binding_octets, bindings_are)
