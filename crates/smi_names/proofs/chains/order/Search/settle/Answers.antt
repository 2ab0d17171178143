-- If the index is new, then the invariant still holds after it is added to the order and marked as settled.
use Rattle.std.proofs.Common.{rules, ◌≡◌, [], ◌∷◌, ◌++◌}
use Rattle.smi_names.proofs.Search.{Keeps-alone}
use Rattle.smi_names.proofs.chains.order.Search.settle.Goals as goal

pub returns-in_ok-push-clause-kept : goal.returns-in_ok-push-clause-kept
returns-in_ok-push-clause-kept c =
    let pushed : c.push.new.self.items ≡ c.args.self.now.order.items ++ c.args.index ∷ [] = search rules in
    let kept = rw (c.requires.at_start) at c.requires.kept in
    rw (pushed, c.requires.at_start) (Keeps-alone c.args.next.now c.args.self.now.marks.items c.args.self.now.order.items c.args.index kept
    c.requires.inside c.requires.last)
