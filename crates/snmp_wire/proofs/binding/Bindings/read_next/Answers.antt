use Rattle.std.proofs.{Common.arith, Common.sym, Common.◌∙◌, lemmas.Grind.common_steps}
use Rattle.snmp_wire.proofs.{ReadingLaws.some_left, ReadingLaws.none_left, MessageLaws.expects, MessageLaws.bindings_in_end}
use Rattle.snmp_wire.proofs.binding.Bindings.read_next.Goals as goal

pub returns-then-is_empty-clause-none : goal.returns-then-is_empty-clause-none
returns-then-is_empty-clause-none c = grind (arith, common_steps, bindings_in_end, none_left)

pub read_binding-requires : goal.read_binding-requires
read_binding-requires c = (expects _ _ _ c.self.invariant (some_left _ _ c.is_empty.ensures c.if-is_empty.false) c.in-Some.ensures).is_binding

pub invariant_of-self-2 : goal.invariant_of-self-2
invariant_of-self-2 c = (expects _ _ _ c.self.invariant (some_left _ _ c.is_empty.ensures c.if-is_empty.false) c.in-Some.ensures).others

pub returns-clause-some : goal.returns-clause-some
returns-clause-some c = λ _.
    sym c.self.view_is
    ∙ (expects _ _ _ c.self.invariant (some_left _ _ c.is_empty.ensures c.if-is_empty.false) c.in-Some.ensures).all _ c.read_binding.ensures
