use Rattle.std.proofs.{Common.arith, Common.sym, Common.◌∙◌, lemmas.Grind.common_steps}
use Rattle.snmp_wire.specs.Decode.{fields}
use Rattle.snmp_wire.proofs.{ReadingLaws.some_left, ReadingLaws.none_left, MessageLaws.bindings_in_end, MessageLaws.expects, MessageLaws.with_fields}
use Rattle.snmp_wire.proofs.binding.Bindings.next_ref.Goals as goal

pub returns-then-is_empty-clause-none : goal.returns-then-is_empty-clause-none
returns-then-is_empty-clause-none c = grind (arith, common_steps, bindings_in_end, none_left)

-- the fields at the start of the octets are the fields of the first binding

pub invariant_of-result : goal.invariant_of-result
invariant_of-result c = (expects _ _ _ c.self.invariant (some_left _ _ c.is_empty.ensures c.if-is_empty.false) c.fields_in.ensures).is_binding

pub invariant_of-self : goal.invariant_of-self
invariant_of-self c = (expects _ _ _ c.self.invariant (some_left _ _ c.is_empty.ensures c.if-is_empty.false) c.fields_in.ensures).others

pub returns-clause-some : goal.returns-clause-some
returns-clause-some c =
    let f = expects _ _ _ c.self.invariant (some_left _ _ c.is_empty.ensures c.if-is_empty.false) c.fields_in.ensures in
    sym c.self.view_is ∙ f.all _ (with_fields (fields c.fields_in.result.0) f.is_binding)
