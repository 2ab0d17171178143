use Rattle.std.proofs.{lemmas.Grind.common_steps, Common.◌≡◌, Common.◌+◌, Common.length, Common.take, Common.ap, Common.arith, Common.length-append}
use Rattle.snmp_wire.specs.{Canon.canon_binding, Canon.canon_bindings, Message.var_bind}
use Rattle.snmp_walk.specs.Get.{asked_names}
use Rattle.snmp_walk.proofs.GetNames.{written_more, longer_all, none_written, range_more}
use Rattle.snmp_walk.proofs.get.write_names.Goals as goal

pub names-init : goal.names-init
names-init c = (none_written.0, none_written.1, none_written.2, tt)

pub names-preserved : goal.names-preserved
names-preserved c = grind (arith, common_steps, written_more, length-append, range_more)

pub returns-in-None-clause-none : goal.returns-in-None-clause-none
returns-in-None-clause-none c =
    let inv = c.names.invariant in
    let here = canon_binding (var_bind c.request_binding-binding.result) in
    let prefix = canon_bindings (asked_names (take c.names.name-index c.args.names.now)) in
    let more = written_more c.args.names.now c.names.name-index c.name-item.result
    (var_bind c.request_binding-binding.result) c.names-test.true c.name-item.is c.request_binding-binding.ensures.value in
    let long : length c.names.out ≡ 65507 = omega arith in
    let past = c.in-None.ensures.too_long in
    let all = longer_all c.args.names.now (c.names.name-index + 1) in
    omega (arith, past, long, inv.1, ap length more, length-append prefix here, all)
