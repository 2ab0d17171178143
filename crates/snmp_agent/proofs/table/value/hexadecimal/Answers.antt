use Rattle.std.proofs.{lemmas.Grind.common_steps, lemmas.Grind.get_or_default_zero, Common.arith}
use Rattle.hex.proofs.HexLemmas.{decode_of-ok, decode_of-same}
use Rattle.snmp_agent.proofs.table.value.hexadecimal.Goals as goal

pub returns-then-text : goal.returns-then-text
returns-then-text c = grind (arith, common_steps, decode_of-ok)

pub returns-in-Ok : goal.returns-in-Ok
returns-in-Ok c = grind (arith, common_steps, decode_of-ok, get_or_default_zero, decode_of-same)
