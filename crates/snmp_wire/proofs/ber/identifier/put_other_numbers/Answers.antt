use Rattle.std.proofs.{lemmas.Grind.common_steps, Common.◌-◌, Common.length, Common.sym, Common.ap, Common.arith, Common.length-append}
use Rattle.snmp_wire.specs.ber.Canon.{canon_subidentifier}
use Rattle.snmp_wire.proofs.WritingLaws.{flat_map_rest, piece_fits, writes_piece, writes_same, writes_then}
use Rattle.snmp_wire.proofs.ber.identifier.put_other_numbers.Goals as goal

pub put_text-start-requires-clause-room : goal.put_text-start-requires-clause-room
put_text-start-requires-clause-room c =
    let rest = flat_map_rest canon_subidentifier c.args.numbers.now (c.numbers.left - 4) in
    omega (arith, simp length-append at (ap length c.in-Some.ensures.1), rest, c.numbers.invariant.written.begins)

pub numbers-preserved-in-Some : goal.numbers-preserved-in-Some
numbers-preserved-in-Some c = record {
  written = writes_same (writes_then c.numbers.invariant.written c.put_text-start.ensures) (sym c.in-Some.ensures.1);
  within = omega (arith, c.numbers.invariant.within);
}

pub put_subidentifier-start-requires-clause-room : goal.put_subidentifier-start-requires-clause-room
put_subidentifier-start-requires-clause-room c = grind (arith, common_steps, piece_fits)

pub numbers-preserved : goal.numbers-preserved
numbers-preserved c = record {
  written = writes_piece canon_subidentifier c.args.numbers.now c.numbers.left c.from.result 0 c.numbers-test.true c.numbers.invariant.within c.from.ensures
      c.numbers.invariant.written c.put_subidentifier-start.ensures;
  within = omega (arith, c.numbers.invariant.within);
}
