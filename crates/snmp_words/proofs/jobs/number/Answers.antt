use Rattle.std.proofs.Common.{◌∙◌, ap, ℕ, List, Option, unwrap_or, option_and_then}
use Rattle.clap.specs.Words.{found_of}
use Rattle.clap.proofs.WalkLemmas.{first_value-rows}
use Rattle.snmp_words.specs.Words.{number_in}
use Rattle.snmp_words.proofs.jobs.number.Goals as goal

pub returns-in-Some-clause-value : goal.returns-in-Some-clause-value
returns-in-Some-clause-value c =
    let given = c.in-Some.ensures ∙ first_value-rows (found_of c.args.given.now) c.args.id.now in
    c.unwrap_or.ensures
    ∙ ap (λ (o : Option ℕ). unwrap_or o c.args.default) (c.number_in.ensures.value ∙ ap (option_and_then (number_in c.args.low c.args.high)) given)

pub returns-in-None-clause-value : goal.returns-in-None-clause-value
returns-in-None-clause-value c =
    let given = c.in-None.ensures ∙ first_value-rows (found_of c.args.given.now) c.args.id.now in
    ap (λ (o : Option (List ℕ)). unwrap_or (option_and_then (number_in c.args.low c.args.high) o) c.args.default) given
