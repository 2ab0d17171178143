use Rattle.smi_show.specs.name.Meaning.{meaning}
use Rattle.smi_show.proofs.MeantTexts.{means, one_meaning}
use Rattle.smi_show.proofs.name.laws.one_meaning.Goals as goal

pub returns-clause-found : goal.returns-clause-found
returns-clause-found c = λ tree text. (meaning tree text, means tree text)

pub returns-clause-only : goal.returns-clause-only
returns-clause-only c = one_meaning
