use Rattle.std.proofs.{lemmas.Grind.common_steps, Common.ℕ, Common.◌+◌, Common.◌-◌, Common.◌/◌, Common.arith, Common.sym, Common.◌∙◌}
use Rattle.snmp_agent.proofs.BinarySearch.{fails, met, passes}
use Rattle.snmp_agent.proofs.table.search.count_between.Goals as goal

pub halves-preserved-then-is_up_to : goal.halves-preserved-then-is_up_to
halves-preserved-then-is_up_to g c =
    let middle : ℕ = c.halves.begun + (c.halves.end - c.halves.begun) / 2 in
    passes (g.T.Placed.up_to c.args.name.now) c.args.items.now c.halves.begun c.halves.end middle c.index-items-middle.result c.requires.parted
    c.halves.invariant (omega (arith, c.halves-test.true)) c.index-items-middle.is (sym c.is_up_to.ensures ∙ c.if-is_up_to.true)

pub halves-preserved : goal.halves-preserved
halves-preserved g c =
    let middle : ℕ = c.halves.begun + (c.halves.end - c.halves.begun) / 2 in
    fails (g.T.Placed.up_to c.args.name.now) c.args.items.now c.halves.begun c.halves.end middle c.index-items-middle.result c.requires.parted
    c.halves.invariant (omega (arith, c.halves-test.true)) (omega arith) c.index-items-middle.is (sym c.is_up_to.ensures ∙ c.if-is_up_to.false)

pub returns : goal.returns
returns g c = grind (arith, common_steps, met)
