-- Each step of the loop marks one index more as met and appends it to the path, so that fewer indices are new and the invariant still holds.
use Rattle.std.proofs.{lemmas.Grind.common_steps, lemmas.List.get_or-set_same}
use Rattle.std.proofs.Common.{refl, rules, ◌≡◌, ◌<◌, inl, inr, [], ◌∷◌, ◌++◌, Some, set, length, arith, sym}
use Rattle.smi_names.specs.{private.Search.Follows, private.Search.mark_at}
use Rattle.smi_names.specs.declared.chains.order.Mark.TheVariants as M
use Rattle.smi_names.proofs.Search.{marked, news-set, Keeps-met, Follows-push}
use Rattle.smi_names.proofs.chains.order.Search.climb.Goals as goal

pub up-smaller : goal.up-smaller
up-smaller c = grind (arith, common_steps, news-set)

pub up-preserved : goal.up-preserved
up-preserved c =
    let new : (c.in-Some.at < length c.up.self.marks.items) × (mark_at c.up.self.marks.items c.in-Some.at ≡ M.New) = search rules in
    let kept = c.up.invariant.0 in
    let inside : c.in-Some.at < length c.args.next.now = omega (arith, kept.long) in
    let path : c.push.new.self.items ≡ c.up.self.path.items ++ c.in-Some.at ∷ [] = search rules in
    let refers_to : Follows c.args.next.now c.up.self.path.items (Some c.args.start) (Some c.in-Some.at) = rw c.in-Some.is at c.up.invariant.1 in
    rw path (
      Keeps-met c.args.next.now c.up.self.marks.items c.up.self.order.items c.up.self.path.items kept c.in-Some.at inside new.1,
      Follows-push c.args.next.now c.up.self.path.items (Some c.args.start) c.in-Some.at refers_to,
      inr (elim c.up.invariant.2 [
        | inl same ↦ let here : c.in-Some.at ≡ c.args.start = cc in λ e.
            let met : mark_at (set c.up.self.marks.items c.in-Some.at M.Met) c.args.start ≡ M.Met = rw (sym here)
            (get_or-set_same c.up.self.marks.items c.in-Some.at M.Met M.New new.0) in cc
        | inr old ↦ marked c.up.self.marks.items c.in-Some.at c.args.start M.Met refl new.0 old
      ]),
      λ p old. marked c.up.self.marks.items c.in-Some.at p M.Met refl new.0 (c.up.invariant.3 p old),
    )
