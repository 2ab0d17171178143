use Rattle.std.proofs.{lemmas.Grind.common_steps, Common.arith, Common.to_z, Common.⊎_elim, lemmas.Int.to_z_pos, lemmas.Bool.cases_lt}
use Rattle.snmp_walk.proofs.GetNames.{pieces_of, size_of}
use Rattle.snmp_walk.proofs.get.write_request.Goals as goal

pub returns-clause-none : goal.returns-clause-none
returns-clause-none c = grind (arith, common_steps, to_z, to_z_pos, size_of, ⊎_elim, cases_lt)

pub returns-clause-some : goal.returns-clause-some
returns-clause-some c = grind (arith, common_steps, to_z, to_z_pos, pieces_of)
