use Rattle.std.proofs.{Common.arith, Common.rules, lemmas.Grind.common_steps}
use Rattle.snmp_io.proofs.OutputPieces.{extended_take, fails_after_prefix}
use Rattle.snmp_io.proofs.output.write_all.Goals as goal

pub returns-in_err-written-clause-prefix_at_fault : goal.returns-in_err-written-clause-prefix_at_fault
returns-in_err-written-clause-prefix_at_fault g c =
    let cut = fails_after_prefix (g.O.Output.stream c.args.out.now) (g.O.Output.stream c.pieces.out)
    (g.O.Output.stream c.write.new.self) c.pieces.written c.args.text.now c.pieces.invariant.taken
    c.in_err-written.ensures.none_taken_at_fault c.in_err-written.ensures.fault_counted in
    search (rules, cut)

pub pieces-preserved : goal.pieces-preserved
pieces-preserved g c = record {
  within = grind (arith, common_steps);
  taken = extended_take _ _ _ c.pieces.written c.in_ok-written.field-0 c.args.text.now
      c.pieces.invariant.taken c.in_ok-written.ensures.prefix_taken;
}
