use Rattle.std.proofs.Common.{◌≡◌, ◌∙◌, ◌+◌, ◌<◌, ◌^◌, ℕ, List, [], ◌∷◌, ◌++◌, Option, Some, None, IfOk, IfSome, refl, sym, ap, subst, take, lit<}
use Rattle.std.proofs.lemmas.List.{take_more}
use Rattle.std.specs.Option.{unwrap_or}
use Rattle.snmp_agent.specs.table.Table.{MibView}
use Rattle.snmp_walk.specs.{Link.Agents, RunResult.HasHappened, declared.end.WalkEnd.WalkEnd, declared.link.Link.Ghosts as LinkFacts}
use Rattle.uses.specs.{Polled.ArePolledInTurn, Polled.IsPolled, Polled.IsPolledOver, declared.subtrees.Subtree.Subtree}
use Rattle.uses.proofs.subtrees.poll_each.Goals as goal

-- if subtrees were polled in turn, and then one more, then all of them were polled in turn
one_more : {W : Type 0} (facts : LinkFacts W) (roots : List (List ℕ)) (subtrees : List Subtree) (root : List ℕ) (subtree : Subtree) (old at new : W)
    → ArePolledInTurn facts old roots subtrees at → IsPolledOver facts at root subtree new
    → ArePolledInTurn facts old (roots ++ root ∷ []) (subtrees ++ subtree ∷ []) new
one_more {W} facts [] [] root subtree old at new h one = (new, subst (λ (l : W). IsPolledOver facts l root subtree new) h one, refl)
one_more {W} facts (r ∷ roots) (s ∷ subtrees) root subtree old at new h one = (h.0, h.1, one_more facts roots subtrees root subtree h.0 at new h.2 one)
one_more {W} facts [] (s ∷ subtrees) root subtree old at new h one = absurd h
one_more {W} facts (r ∷ roots) [] root subtree old at new h one = absurd h

next_below : (n : ℕ) (o : Option ℕ) → IfSome o (λ id. (id ≡ n) × (id < 2 ^ 31)) → unwrap_or o 1 < 2 ^ 31
next_below n (Some id) h = h.1
next_below n None h = lit< tt

pub roots-preserved : goal.roots-preserved
roots-preserved g c =
    let root = c.root-item.result in
    let subtree : Subtree = record { root = c.copy-in-roots.result; end = c.poll-end.result; rows = c.poll-end.new.rows } in
    let happened = subst
    (λ (r : List ℕ). IfOk c.poll-end.result (λ end. HasHappened g.L.Link c.roots.link c.poll-end.new.link end
    (λ (agents : Agents) (why : WalkEnd). (view : MibView) → agents.tables ≡ view ∷ [] → IsPolled view r why c.poll-end.new.rows)))
    c.copy.ensures c.poll-end.ensures.happened in
    let one : IsPolledOver g.L.Link c.roots.link root subtree c.poll-end.new.link =
    record { root_is = c.copy-in-roots.ensures; rising = c.poll-end.ensures.rising; happened = happened } in
    let roots : take (c.roots.root-index + 1) c.args.roots.now ≡ take c.roots.root-index c.args.roots.now ++ root ∷ [] =
    take_more c.args.roots.now c.roots.root-index root c.roots-test.true
    ∙ ap (λ (r : List ℕ). take c.roots.root-index c.args.roots.now ++ r ∷ []) (sym c.root-item.is) in (
      subst (λ (rs : List (List ℕ)). ArePolledInTurn g.L.Link c.args.link.now rs c.push.new.self.items c.poll-end.new.link) (sym roots)
          (subst (λ (ss : List Subtree).
          ArePolledInTurn g.L.Link c.args.link.now (take c.roots.root-index c.args.roots.now ++ root ∷ []) ss c.poll-end.new.link)
          (sym c.in_ok-push.ensures.items)
          (one_more g.L.Link (take c.roots.root-index c.args.roots.now) c.roots.subtrees.items root subtree c.args.link.now c.roots.link c.poll-end.new.link
          c.roots.invariant.0 one)),
      subst (λ (n : ℕ). n < 2 ^ 31) (sym c.unwrap_or-id.ensures) (next_below _ c.next_id.result c.next_id.ensures.some),
    )
