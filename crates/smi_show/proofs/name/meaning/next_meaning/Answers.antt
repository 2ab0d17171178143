use Rattle.std.proofs.Common.{List, ℕ, Result, option_map, sym, ◌∙◌, ap}
use Rattle.smi_show.specs.{declared.name.error.NameError.NameError, private.name.Left.parts_left, name.Meaning.and_then, name.Meaning.further_meaning}
use Rattle.smi_show.proofs.NumberParts.{number_further}
use Rattle.smi_show.proofs.name.meaning.next_meaning.Goals as goal

-- a number was read and appended
pub returns-in-Ok-clause-meant : goal.returns-in-Ok-clause-meant
returns-in-Ok-clause-meant c =
    let tree = c.args.tree.now in
    let left = option_map (λ rest. rest.now) c.in-Some.rest in
    ap (λ (r : Result (List ℕ) NameError). and_then r (λ p. further_meaning tree p (parts_left left))) c.in-Ok.ensures
    ∙ sym (number_further tree c.args.oid.now c.args.text.now c.in-Some.number left c.in-Some.ensures)

-- a number was read, but the identifier has no room for it
pub returns-in-Err-clause-meant : goal.returns-in-Err-clause-meant
returns-in-Err-clause-meant c =
    let tree = c.args.tree.now in
    let left = option_map (λ rest. rest.now) c.in-Some.rest in
    ap (λ (r : Result (List ℕ) NameError). and_then r (λ p. further_meaning tree p (parts_left left))) c.in-Err.ensures
    ∙ sym (number_further tree c.args.oid.now c.args.text.now c.in-Some.number left c.in-Some.ensures)
