use Rattle.std.proofs.Common.{sym, ◌∙◌}
use Rattle.snmp_agent.proofs.BinarySearch.{passes, fails}
use Rattle.snmp_agent.proofs.table.search.by_test.Goals as goal

pub returns-then-is_up_to : goal.returns-then-is_up_to
returns-then-is_up_to g c =
    passes (g.T.Placed.up_to c.args.name.now) c.args.items.now c.args.begun c.args.end c.args.at c.index-items-at.result c.requires.parted
    c.requires.halved c.requires.to c.index-items-at.is (sym c.is_up_to.ensures ∙ c.if-is_up_to.true)

pub returns-else-is_up_to : goal.returns-else-is_up_to
returns-else-is_up_to g c =
    fails (g.T.Placed.up_to c.args.name.now) c.args.items.now c.args.begun c.args.end c.args.at c.index-items-at.result c.requires.parted
    c.requires.halved c.requires.to c.requires.from c.index-items-at.is (sym c.is_up_to.ensures ∙ c.if-is_up_to.false)
