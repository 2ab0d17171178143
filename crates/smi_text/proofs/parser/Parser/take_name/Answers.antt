use Rattle.smi_text.proofs.Lexical.{name_at}
use Rattle.smi_text.proofs.parser.Parser.take_name.Goals as goal

pub returns-clause-ok : goal.returns-clause-ok
returns-clause-ok c = (name_at c.args.token.text.now _ c.in_ok-octets.ensures.ok.0, c.in_ok-octets.ensures.ok.1)
