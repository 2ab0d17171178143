use Rattle.std.proofs.{lemmas.Grind.common_steps, Common.arith}
use Rattle.snmp_wire.proofs.WrittenBindings.{encoded}
use Rattle.snmp_wire.proofs.asking.encode_asking.Goals as goal

pub returns-then-out-size-clause-variant : goal.returns-then-out-size-clause-variant
returns-then-out-size-clause-variant c = grind (arith, common_steps)

pub put_asking-requires-clause-room : goal.put_asking-requires-clause-room
put_asking-requires-clause-room c = omega (arith, c.asking_size-size.ensures)

pub returns-clause-some : goal.returns-clause-some
returns-clause-some c = (c.asking_size-size.ensures, encoded c.put_asking.ensures c.asking_size-size.ensures)
