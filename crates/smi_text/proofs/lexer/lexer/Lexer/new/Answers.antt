use Rattle.std.proofs.Common.{[], length, arith}
use Rattle.smi_text.proofs.LexerLaws.{in_order, lexes, one_list}
use Rattle.smi_text.proofs.lexer.lexer.Lexer.new.Goals as goal

pub returns-clause-tokens : goal.returns-clause-tokens
returns-clause-tokens c = lexes (length c.args.text.now) [] c.args.text.now (omega arith)

pub returns-clause-only : goal.returns-clause-only
returns-clause-only c = λ items h. one_list [] c.args.text.now items _ h (lexes (length c.args.text.now) [] c.args.text.now (omega arith))

pub returns-clause-spans : goal.returns-clause-spans
returns-clause-spans c = in_order (lexes (length c.args.text.now) [] c.args.text.now (omega arith))
