use Rattle.smi_text.proofs.Parts.{string_some}
use Rattle.smi_text.proofs.lexer.scan.string_rest.Goals as goal

pub returns : goal.returns
returns c = string_some c.args.text.now c.in_ok-end.end c.in_ok-end.ensures
