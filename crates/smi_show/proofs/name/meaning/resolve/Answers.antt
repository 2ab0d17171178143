use Rattle.std.proofs.{Common.arith, Common.sym, Common.subst, lemmas.Grind.common_steps}
use Rattle.smi_show.specs.name.Meant.{TextMeans}
use Rattle.smi_show.proofs.{MeantTexts.means, NamesStated.name_only, ReadBack.name_back}
use Rattle.smi_show.proofs.name.meaning.resolve.Goals as goal

pub returns-clause-reads_back : goal.returns-clause-reads_back
returns-clause-reads_back c = grind (arith, common_steps, name_only, name_back)

pub returns-clause-stated : goal.returns-clause-stated
returns-clause-stated c =
    let tree = c.args.tree.now in
    subst (TextMeans tree c.args.text.now) (sym c.meaning_of.ensures) (means tree c.args.text.now)
