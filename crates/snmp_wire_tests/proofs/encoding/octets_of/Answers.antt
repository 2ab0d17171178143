use Rattle.snmp_wire_tests.proofs.Few.{none_fits, one_fits}
use Rattle.snmp_wire_tests.proofs.encoding.octets_of.Goals as goal

pub returns-in-empty : goal.returns-in-empty
returns-in-empty c = none_fits c.args.bindings.now c.in-empty.len_below

pub returns-in-len1-up : goal.returns-in-len1-up
returns-in-len1-up c = one_fits c.args.bindings.now c.binding-item.result c.binding_size.result c.requires.at_most_one c.binding-item.is
    c.binding_size.ensures.value c.binding_size.ensures.at_most_70000
