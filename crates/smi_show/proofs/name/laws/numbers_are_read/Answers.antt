use Rattle.std.proofs.Common.{subst}
use Rattle.snmp_oid.specs.Numeric.{numeric_text}
use Rattle.smi_show.specs.name.Meant.{TextMeans}
use Rattle.smi_show.proofs.{MeantTexts.means, NumericNames.numeric_meaning}
use Rattle.smi_show.proofs.name.laws.numbers_are_read.Goals as goal

pub returns : goal.returns
returns c = λ tree o is. (
    let text = numeric_text o in
    subst (TextMeans tree text) (numeric_meaning tree text o (c.names.ensures.written_is_named o is) is.short) (means tree text)
    )
