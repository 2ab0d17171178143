use Rattle.std.proofs.{Common.◌∙◌, Common.ap, Common.refl, lemmas.Result.IfOk-weaker}
use Rattle.clap.specs.Words.{found_of}
use Rattle.clap.proofs.WalkLemmas.{raw_values-rows}
use Rattle.snmp_words.specs.Words.{texts_at}
use Rattle.snmp_words.proofs.OptionValues.{found_texts}
use Rattle.snmp_words.proofs.jobs.all_texts.Goals as goal

pub returns : goal.returns
returns c =
    let found = found_texts c.get_strs.result _ _ _ (c.get_strs.ensures ∙ raw_values-rows (found_of c.args.given.now) c.args.id.now)
    refl c.unwrap_or.ensures in
    IfOk-weaker c.from_slice.result _ _ (λ v e. ap texts_at e ∙ found) c.from_slice.ensures.items
