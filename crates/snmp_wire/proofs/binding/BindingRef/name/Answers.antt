use Rattle.std.proofs.{Common.arith, lemmas.Grind.common_steps}
use Rattle.snmp_wire.specs.Decode.{fields}
use Rattle.snmp_wire.proofs.MessageLaws.{name_of, parts_of, with_fields}
use Rattle.snmp_wire.proofs.binding.BindingRef.name.Goals as goal

pub of-requires : goal.of-requires
of-requires c = (parts_of (fields c.self.inside.fields) c.self.invariant).name

pub returns : goal.returns
returns c = grind (arith, common_steps, name_of, with_fields)
