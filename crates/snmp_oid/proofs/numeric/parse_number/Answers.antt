use Rattle.std.proofs.lemmas.Grind.{common_steps}
use Rattle.std.proofs.Common.{arith}
use Rattle.snmp_oid.proofs.Numeral.{read_more_at}
use Rattle.snmp_oid.proofs.numeric.parse_number.Goals as goal

pub digits-preserved : goal.digits-preserved
digits-preserved c = grind (arith, common_steps, read_more_at)
