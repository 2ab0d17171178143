use Rattle.smi_value.proofs.PlainStrings.{shown_where_plain}
use Rattle.smi_value.proofs.plain.is_shown_plain.Goals as goal

pub returns-in_default : goal.returns-in_default
returns-in_default c = shown_where_plain c.are_plain.result c.args.form c.args.octets.now c.in_default.not-Hexadecimal c.are_plain.ensures
