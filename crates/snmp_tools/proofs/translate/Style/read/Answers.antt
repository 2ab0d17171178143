use Rattle.std.proofs.Common.{◌≡◌, ℕ, List, None, Some, refl, string_bytes, subst}
use Rattle.smi_value.specs.Letters.{first_other}
use Rattle.snmp_tools.specs.{translate.Refusal.details_step, translate.Refusal.letters_step, translate.Style.first_other_of_t}
use Rattle.snmp_tools.proofs.Steps.{first, later}
use Rattle.snmp_tools.proofs.translate.Style.read.Goals as goal

pub returns-in-Err-clause-refused : goal.returns-in-Err-clause-refused
returns-in-Err-clause-refused c files =
    let letters : c.as_bytes.result.now ≡ string_bytes c.args.job.now.letters = c.as_bytes.ensures.value in
    let other = subst (λ (t : List ℕ). first_other t ≡ Some c.in-Err.letter) letters c.in-Err.ensures.first_other in
    first _ _ _ letters_step _ (c.in-Err.letter, other, refl)

pub returns-in-Err-asks_details-clause-refused : goal.returns-in-Err-asks_details-clause-refused
returns-in-Err-asks_details-clause-refused c files =
    let letters : c.as_bytes.result.now ≡ string_bytes c.args.job.now.letters = c.as_bytes.ensures.value in
    let known = subst (λ (t : List ℕ). first_other t ≡ None) letters (c.in-Ok.ensures.ok_where_all_are_letters.0 refl) in
    let details : c.as_bytes-2.result.now ≡ c.args.job.now.details.now = c.as_bytes-2.ensures.value in
    let other = subst (λ (t : List ℕ). first_other_of_t t ≡ Some c.in-Err-asks_details.letter) details c.in-Err-asks_details.ensures.first_other in
    later _ _ _ letters_step _ known (first _ _ _ details_step _ (c.in-Err-asks_details.letter, other, refl))
