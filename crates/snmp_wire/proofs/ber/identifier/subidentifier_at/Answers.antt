use Rattle.std.proofs.{Common.arith, lemmas.Grind.common_steps}
use Rattle.snmp_wire.specs.ber.Decode.{subidentifier_at, subidentifier_from}
use Rattle.snmp_wire.proofs.ber.identifier.subidentifier_at.Goals as goal

pub returns-in-len1-up : goal.returns-in-len1-up
unfolding subidentifier_at subidentifier_from
returns-in-len1-up c = grind (arith, common_steps)

pub returns-in-len2-up : goal.returns-in-len2-up
unfolding subidentifier_at subidentifier_from
returns-in-len2-up c = grind (arith, common_steps)

pub returns-in-len3-up : goal.returns-in-len3-up
unfolding subidentifier_at subidentifier_from
returns-in-len3-up c = grind (arith, common_steps)
