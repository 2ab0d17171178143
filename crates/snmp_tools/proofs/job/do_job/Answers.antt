use Rattle.std.proofs.{Common.arith, lemmas.Grind.common_steps}
use Rattle.snmp_tools.proofs.Jobs.{job_done}
use Rattle.snmp_tools.proofs.job.do_job.Goals as goal

pub returns : goal.returns
returns g c = grind (arith, common_steps, job_done)
