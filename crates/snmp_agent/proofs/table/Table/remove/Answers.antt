use Rattle.std.proofs.{Common.arith, Common.◌≡◌, Common.None, Common.ap, Common.is_some, lemmas.Grind.common_steps}
use Rattle.std.specs.{Ordering.nat_cmp, Cmp.Lexicographic.slice_cmp, FinMap.FinMap, FinMap.get}
use Rattle.snmp_wire.specs.Message.{Datum}
use Rattle.snmp_agent.proofs.{ChangedEntries.nothing_removed, ChangedEntries.removed_good, ChangedEntries.unnamed, table.Table.remove.Goals.Then-not-is_wire}
use Rattle.snmp_agent.proofs.table.Table.remove.Goals as goal

none : (c : Then-not-is_wire) → None ≡ get c.args.self.now.rows c.args.name.now
none c = grind (arith, common_steps, unnamed)

pub returns-then-not-is_wire-clause-removed : goal.returns-then-not-is_wire-clause-removed
returns-then-not-is_wire-clause-removed c =
    ap (λ (m : FinMap (slice_cmp nat_cmp) Datum). record { rows = m; objects = c.args.self.now.objects })
    (nothing_removed c.args.self.now.rows c.args.name.now (none (goal.at.returns-then-not-is_wire-clause-removed c).Then-not-is_wire))

pub returns-then-not-is_wire-clause-found : goal.returns-then-not-is_wire-clause-found
returns-then-not-is_wire-clause-found c = ap is_some (none (goal.at.returns-then-not-is_wire-clause-found c).Then-not-is_wire)

pub invariant_of-self : goal.invariant_of-self
invariant_of-self c = grind (arith, common_steps, removed_good)
