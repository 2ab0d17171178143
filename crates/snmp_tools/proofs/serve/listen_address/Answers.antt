use Rattle.std.proofs.Common.{refl, rules, ◌≤◌, length}
use Rattle.snmp_tools.specs.serve.Service.{community_step, address_step}
use Rattle.snmp_tools.proofs.Steps.{first, later}
use Rattle.snmp_tools.proofs.serve.listen_address.Goals as goal

pub returns-then-job-gt255-clause-refused : goal.returns-then-job-gt255-clause-refused
returns-then-job-gt255-clause-refused c files = first _ _ _ community_step _ (c.if-job-gt255.true, refl)

pub returns-in-None-clause-refused : goal.returns-in-None-clause-refused
returns-in-None-clause-refused c files =
    let short : length c.args.job.now.community.now ≤ 255 = search rules in
    later _ _ _ community_step _ short (first _ _ _ address_step _ (c.in-None.ensures.none, refl))
