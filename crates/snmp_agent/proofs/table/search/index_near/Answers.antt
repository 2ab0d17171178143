use Rattle.snmp_agent.proofs.Partition.{index_found}
use Rattle.snmp_agent.proofs.table.search.index_near.Goals as goal

pub returns : goal.returns
returns c = index_found c.args.name.now c.args.rows.now c.count_between.result c.count_between.ensures
