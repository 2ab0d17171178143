use Rattle.std.proofs.{Common.arith, lemmas.Grind.common_steps}
use Rattle.smi_text.proofs.{Laws.some-inj, Tokens.tokens-read}
use Rattle.smi_text.proofs.file.one_module_list.Goals as goal

pub returns : goal.returns
returns c = grind (arith, common_steps, some-inj, tokens-read)
