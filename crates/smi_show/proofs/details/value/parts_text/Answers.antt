use Rattle.std.proofs.lemmas.Grind.{common_steps}
use Rattle.std.proofs.Common.{◌≡◌, ◌-◌, ◌≤◌, ℕ, List, [], ◌∷◌, ◌++◌, length, get_or, take, codes, decimal, refl, arith}
use Rattle.smi_show.specs.{details.Value.labelled_parts, details.Value.parts_text}
use Rattle.smi_tree.specs.{Nodes.last_number, Tree.Contents}
use Rattle.smi_show.proofs.Texts.{adds_both}
use Rattle.smi_show.proofs.details.value.parts_text.Goals as goal

last_at : (n : ℕ) (more : List ℕ) → get_or (n ∷ more) (length more) 0 ≡ last_number (n ∷ more)
last_at n [] = refl
last_at n (next ∷ more) = last_at next more

-- if `numbers` isn't empty, then its text is the text of all numbers but the last, with their labels, followed by the number at the last index and a blank
by_offsets : (tree : Contents) (numbers : List ℕ) → 1 ≤ length numbers
    → labelled_parts tree (take (length numbers - 1) numbers) ++ decimal (get_or numbers (length numbers - 1) 0) ++ codes " " ≡ parts_text tree numbers
by_offsets tree [] some = absurd (omega arith)
by_offsets tree (n ∷ more) some =
    let offset : length (n ∷ more) - 1 ≡ length more = omega arith in
    rw (offset, last_at n more) refl

pub returns-in-len1-up : goal.returns-in-len1-up
returns-in-len1-up c = grind (arith, common_steps, adds_both, by_offsets)
