use Rattle.std.proofs.{Common.arith, lemmas.Grind.common_steps}
use Rattle.snmp_wire.proofs.NameOrder.{content_octets}
use Rattle.snmp_wire.proofs.asking.NameBuffer.new.Goals as goal

pub invariant_of-result : goal.invariant_of-result
invariant_of-result c = grind (arith, common_steps, content_octets)

pub returns : goal.returns
returns c =
    let e = c.content-content.ensures.encodes in
    let is = content_octets _ _ c.args.name.now c.copy_to_start.ensures c.content-content.ensures.octets e in
    record { value = is.1; wire = e.wire; identifier = e.identifier }
