use Rattle.std.proofs.{Common.◌∙◌, Common.ap, Common.List, Common.ℕ, Common.refl, lemmas.Result.IfOk-weaker}
use Rattle.std.specs.List.{flat_map}
use Rattle.clap.specs.Words.{found_of}
use Rattle.clap.proofs.WalkLemmas.{raw_values-rows}
use Rattle.snmp_words.proofs.OptionValues as lemma
use Rattle.snmp_words.proofs.jobs.join_texts.Goals as goal

pub returns : goal.returns
returns c =
    let found = lemma.found_texts c.get_strs.result _ _ _ (c.get_strs.ensures ∙ raw_values-rows (found_of c.args.given.now) c.args.id.now)
    refl c.unwrap_or.ensures in
    IfOk-weaker c.join.result _ _ (λ t e. e ∙ lemma.joined c.unwrap_or.result.now ∙ ap (λ (ts : List (List ℕ)). flat_map (λ t. t) ts) found) c.join.ensures.ok
