-- No number follows the first branch.
use Rattle.std.proofs.Common.{rules, ◌≡◌, [], ◌∷◌, None, refl}
use Rattle.smi_tree.proofs.BranchLists.{Branches-none}
use Rattle.smi_tree.proofs.branches.branch.first.Goals as goal

pub returns : goal.returns
returns c =
    let pushed : c.push.new.self.items ≡ record { after = c.new.result; node_id = None } ∷ [] = search rules in
    rw pushed (Branches-none (record { after = c.new.result; node_id = None }) (λ n. rw c.new.ensures.empty refl) refl)
