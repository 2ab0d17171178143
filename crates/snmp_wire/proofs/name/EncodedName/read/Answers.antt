use Rattle.std.proofs.{Common.arith, Common.refl, lemmas.Grind.common_steps}
use Rattle.snmp_wire.proofs.ReadingLaws.{err_checked, never_err, is_ok_at}
use Rattle.snmp_wire.proofs.ReadIdentifiers.{identifier_again, identifier_takes}
use Rattle.snmp_wire.proofs.name.EncodedName.read.Goals as goal

pub returns-in-Ok-clause-some : goal.returns-in-Ok-clause-some
returns-in-Ok-clause-some c = identifier_takes c.args.content.now c.of.result c.of.ensures

pub returns-in-Ok-clause-variant : goal.returns-in-Ok-clause-variant
returns-in-Ok-clause-variant c = (λ some. (c.of.result, identifier_takes c.args.content.now c.of.result c.of.ensures), λ is. refl)

pub returns-in-Err-clause-variant : goal.returns-in-Err-clause-variant
returns-in-Err-clause-variant c = grind (arith, common_steps, never_err, is_ok_at, identifier_again, err_checked)
