use Rattle.std.proofs.Common.{sym, ◌∙◌, ap}
use Rattle.snmp_wire.specs.{Message.VarBind, Decode.fields, ber.Spelling.value_tag}
use Rattle.snmp_wire.proofs.{MessageLaws.parts_are, MessageLaws.with_fields, ReadingLaws.returned, ValueLaws.value_gives}
use Rattle.snmp_wire.proofs.binding.BindingRef.tag.Goals as goal

pub returns : goal.returns
returns c =
    let f = fields c.self.inside.fields in
    sym (returned _ (value_gives f.tag f.content) (parts_are f _ (with_fields f c.self.invariant)).1).is_tag
    ∙ ap (λ (b : VarBind). value_tag b.value) c.self.view_is
