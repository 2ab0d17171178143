use Rattle.std.proofs.Common.{rules, ◌≡◌, ◌∙◌, subst, Option}
use Rattle.std.specs.Option.{option_copied}
use Rattle.smi_value.specs.{Syntax.ObjectSyntax, Value.ShowsValue}
use Rattle.snmp_wire.specs.ber.Value.{datum}
use Rattle.smi_show.specs.Line.{text_before_value, names_by}
use Rattle.smi_show.proofs.Texts.{adds_both}
use Rattle.smi_show.proofs.binding.append_parts.Goals as goal

pub returns : goal.returns
returns c =
    let letters = c.args.letters.now in
    let names = names_by c.args.tree.now letters in
    let prefix = text_before_value letters (names c.args.name.now) in
    let copied : option_copied c.as_ref.result ≡ c.args.found.now.syntax = search rules in
    let value = c.append_shown.ensures in (
      value.0,
      subst (λ (s : Option ObjectSyntax). ShowsValue names letters s (datum c.args.value.now) value.0) (copied ∙ c.requires.1) value.1,
      adds_both c.args.draft.now c.append_before_value.new.draft c.append_shown.new.draft prefix value.0 c.append_before_value.ensures value.2,
    )
