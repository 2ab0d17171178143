-- The invariant holds after each index of a path is added to the order, from the last to the first. It holds after a path that enters a ring is dropped.
use Rattle.std.proofs.Common.{refl, rules, ◌≡◌, ◌<◌, [], ◌∷◌, ◌++◌, Some, length, arith}
use Rattle.std.proofs.lemmas.List.Elements.{All-contains, Contains-push}
use Rattle.smi_names.specs.declared.chains.order.Mark.TheVariants as M
use Rattle.smi_names.proofs.Search.{marked, Keeps-settled, Follows-settled, Follows-pop, Keeps-left, IsSettled-stopped}
use Rattle.smi_names.proofs.chains.order.Search.visit.Goals as goal

pub down-preserved : goal.down-preserved
down-preserved c =
    let index = c.in-Some.index in
    let rest = c.pop.new.self.items in
    let popped : c.down.self.path.items ≡ c.pop.new.self.items ++ c.in-Some.index ∷ [] = search rules in
    let pushed : c.push.new.self.items ≡ c.down.self.order.items ++ c.in-Some.index ∷ [] = search rules in
    let kept = rw popped at c.down.invariant.0 in
    let refers_to = rw popped at c.down.invariant.1 in
    let inside : index < length c.args.next.now = All-contains (λ p. p < length c.args.next.now) (rest ++ index ∷ []) index kept.along
    (Contains-push rest index) in
    let here : index < length c.down.self.marks.items = omega (arith, kept.long) in
    let back = Follows-pop c.args.next.now rest refers_to.from refers_to.to index refers_to.refers_to in
    rw pushed (
      Keeps-settled c.args.next.now c.down.self.marks.items c.down.self.order.items rest index refers_to.to kept back.1 refers_to.settled,
      Follows-settled c.args.next.now c.down.self.order.items rest index refers_to inside,
      marked c.down.self.marks.items index c.args.start M.Settled refl here c.down.invariant.2,
      λ p old. marked c.down.self.marks.items index p M.Settled refl here (c.down.invariant.3 p old),
    )

pub returns-then-not-has_ended-clause-kept : goal.returns-then-not-has_ended-clause-kept
returns-then-not-has_ended-clause-kept c =
    let kept = c.in_ok-to.ensures.kept in
    let back = c.has_ended.ensures.met (search rules) in
    let refers_to = rw back.1 at c.in_ok-to.ensures.refers_to in
    let empty : c.clear.new.self.items ≡ [] = search rules in
    rw empty (Keeps-left c.args.next.now c.climb.new.self.marks.items c.climb.new.self.order.items c.climb.new.self.path.items kept
    (Some c.args.start) back.0 refers_to back.2)

pub down-init : goal.down-init
down-init c =
    let kept = c.in_ok-to.ensures.kept in (
      kept,
      record {
        from = Some c.args.start;
        to = c.in_ok-to.to;
        refers_to = c.in_ok-to.ensures.refers_to;
        settled = IsSettled-stopped c.args.next.now c.climb.new.self.marks.items c.climb.new.self.order.items c.climb.new.self.path.items c.in_ok-to.to kept
            c.in_ok-to.ensures.stopped (c.has_ended.ensures.other (search rules));
      },
      c.in_ok-to.ensures.reached,
      c.in_ok-to.ensures.reached_before,
    )
