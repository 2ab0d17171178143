use Rattle.snmp_wire.proofs.NameOrder.{content_octets}
use Rattle.snmp_wire.proofs.asking.NameBuffer.set_to.Goals as goal

pub invariant_of-self : goal.invariant_of-self
invariant_of-self c = (
  c.content-content.ensures.at_most_640,
  (content_octets _ _ c.args.name.now c.copy_to_start.ensures c.content-content.ensures.octets c.content-content.ensures.encodes).0,
)

pub returns : goal.returns
returns c =
    let e = c.content-content.ensures.encodes in
    let is = content_octets _ _ c.args.name.now c.copy_to_start.ensures c.content-content.ensures.octets e in
    record { value = is.1; wire = e.wire; identifier = e.identifier }
