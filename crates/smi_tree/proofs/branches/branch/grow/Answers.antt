-- If the branch has the number already, nothing changes; otherwise a new branch is added for it.
use Rattle.std.proofs.Common.{rules, arith, ◌≡◌, ◌≢◌, ℕ, ◌==◌, false, [], ◌∷◌, ◌++◌, get_or, Some, None, inl, refl, sym, ap, ◌∙◌, length, eqb-true}
use Rattle.std.specs.Cmp.{unsigned_ties}
use Rattle.smi_tree.proofs.NewBranches.{GrowsBranch-made}
use Rattle.smi_tree.proofs.branches.branch.grow.Goals as goal

not_equal : (n q : ℕ) → q ≢ n → (n == q) ≡ false
not_equal n q f = grind (arith, eqb-true n q)

pub returns-in-Some : goal.returns-in-Some
returns-in-Some c = record { grows = record { refers_to = search rules; kept = λ c m d e. e; adds = inl refl } }

pub returns : goal.returns
returns c =
    let pushed : c.push.new.self.items ≡ c.args.branches.now.items ++ record { after = c.new.result; node_id = None } ∷ [] = search rules in
    let read : c.index_mut-branch.result.now ≡ get_or c.push.new.self.items c.args.at c.index_mut-branch.result.now = search rules in
    let updates = c.in_ok-insert.ensures.updates in
    let id : c.len-id.result ≡ length c.args.branches.now.items = search rules in
    rw (id, pushed) (record {
      grows = GrowsBranch-made c.args.branches.now.items (record { after = c.new.result; node_id = None }) c.index_mut-branch.result.now
          (record { after = c.insert.new.self; node_id = c.index_mut-branch.result.now.node_id }) c.args.at c.args.number
          c.requires (rw pushed at read) refl (λ q. rw c.new.ensures.empty refl) refl (updates.1 ∙ ap (λ z. Some z) id)
          (λ q f. updates.2 q (sym (unsigned_ties c.args.number q) ∙ not_equal c.args.number q f)) (search rules);
    })
