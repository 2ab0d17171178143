use Rattle.std.proofs.Common.{◌≡◌, ◌-◌, arith, subst}
use Rattle.snmp_agent.specs.table.Pages.{IsPageOf}
use Rattle.snmp_agent.proofs.Partition.{page_before, pages_partitioned}
use Rattle.snmp_agent.proofs.table.pages.page_near.Goals as goal

pub near-begun-requires : goal.near-begun-requires
near-begun-requires c = pages_partitioned c.args.name.now c.args.pages.now c.requires

pub count_between-requires-clause-parted : goal.count_between-requires-clause-parted
count_between-requires-clause-parted c = pages_partitioned c.args.name.now c.args.pages.now c.requires

pub returns : goal.returns
returns c =
    let count = c.count_between.result in
    let index : count - 1 ≡ c.saturating_sub.result = omega (arith, c.saturating_sub.ensures) in
    subst (IsPageOf c.args.name.now c.args.pages.now) index
    (page_before c.args.name.now c.args.pages.now count c.requires c.count_between.ensures)
