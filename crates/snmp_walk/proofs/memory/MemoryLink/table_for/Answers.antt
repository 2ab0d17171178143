use Rattle.std.proofs.{lemmas.Grind.common_steps, Common.◌<◌, Common.length, Common.ℕ, Common.sym, Common.subst, Common.arith, lemmas.Bool.ltb-true}
use Rattle.snmp_walk.proofs.MemoryLinks.{one_got, table_found}
use Rattle.snmp_walk.proofs.memory.MemoryLink.table_for.Goals as goal

pub returns-in-Some-clause-one : goal.returns-in-Some-clause-one
returns-in-Some-clause-one c = grind (arith, common_steps, ltb-true, one_got)

pub returns-in-None-clause-one : goal.returns-in-None-clause-one
returns-in-None-clause-one c = one_got c.args.self.now.tables.now _ _ (omega arith)

pub returns-in-Some-clause-index : goal.returns-in-Some-clause-index
returns-in-Some-clause-index c = λ some.
    let self = c.args.self.now in
    let within : c.saturating_sub.result < length self.uses.now = ltb-true _ _ (sym c.in-Some.ensures.lookup.0) in
    let index = self.are_tables c.saturating_sub.result c.in-Some.index.now within in
    table_found self.tables.now self.uses.now c.args.number c.saturating_sub.result c.in-Some.index.now c.index-self-index.result some (omega arith) within
    c.in-Some.ensures.lookup.1 (subst (λ (n : ℕ). n < length self.tables.now) (sym c.in-Some.ensures.lookup.1) index)
