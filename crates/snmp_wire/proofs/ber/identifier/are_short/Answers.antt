use Rattle.std.proofs.lemmas.Bool.{ltb-true}
use Rattle.snmp_wire.proofs.WrittenIdentifiers.{eight_low}
use Rattle.snmp_wire.proofs.ber.identifier.are_short.Goals as goal

pub returns : goal.returns
returns c = λ short. eight_low c.args.numbers.now c.args.from (ltb-true _ 128 short)
