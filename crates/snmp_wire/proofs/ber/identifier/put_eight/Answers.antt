use Rattle.snmp_wire.proofs.WritingLaws.{writes_then}
use Rattle.snmp_wire.proofs.ber.identifier.put_eight.Goals as goal

pub returns : goal.returns
returns c = writes_then (writes_then (writes_then (writes_then (writes_then
    (writes_then (writes_then c.put_octet-at_h.ensures c.put_octet-at_g.ensures) c.put_octet-at_f.ensures) c.put_octet-at_e.ensures) c.put_octet-at_d.ensures)
    c.put_octet-at_c.ensures) c.put_octet-at_b.ensures) c.put_octet.ensures
