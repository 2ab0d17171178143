use Rattle.std.proofs.{Common.◌∙◌, Common.sym, Common.refl, lemmas.Bool.not-false}
use Rattle.smi_text.proofs.parser.Parser.new_definition.Goals as goal

pub returns-else-branch-clause-fault : goal.returns-else-branch-clause-fault
returns-else-branch-clause-fault c = (
  not-false _ (sym c.in_ok-add.ensures.new ∙ c.if-branch.false),
  record { def = c.in_ok-def.def; rest = _; read = c.in_ok-def.ensures; on_line = refl },
)
