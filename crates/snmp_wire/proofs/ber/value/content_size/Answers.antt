use Rattle.std.proofs.Common.{arith}
use Rattle.snmp_wire.specs.ber.Canon.{canon_content}
use Rattle.snmp_wire.proofs.NumberSizes.{length-from_zero}
use Rattle.snmp_wire.proofs.ber.value.content_size.Goals as goal

pub returns-in-Counter64-clause-value : goal.returns-in-Counter64-clause-value
unfolding canon_content
returns-in-Counter64-clause-value c = grind (arith, length-from_zero)

pub returns-in-Counter32-clause-value : goal.returns-in-Counter32-clause-value
unfolding canon_content
returns-in-Counter32-clause-value c = grind (arith, length-from_zero)
