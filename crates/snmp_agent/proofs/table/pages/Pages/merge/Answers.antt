use Rattle.std.proofs.{lemmas.Grind.common_steps, lemmas.Result.IfOk-weaker}
use Rattle.std.proofs.Common.{◌≡◌, ◌++◌, [], subst, sym, refl, ap, ◌∙◌, arith, rules}
use Rattle.std.specs.{FinMap.entries, Vec.Iter.into_iter_items}
use Rattle.snmp_agent.specs.table.Pages.{IsSorted, entries_in, entries_of}
use Rattle.snmp_agent.proofs.{GatheredRows.entries_are, GatheredRows.merge_begins, GatheredRows.merge_ends, GatheredRows.page_moves, Lists.nothing_left}
use Rattle.snmp_agent.proofs.table.pages.Pages.merge.Goals as goal

pub loop-page-init : goal.loop-page-init
loop-page-init c =
    let none : c.replace-pages.new.dest.items ≡ [] = search rules in
    let empty : entries_in c.replace-pages.new.dest.items ≡ [] = ap entries_in none in
    let all : into_iter_items c.into_iter-page-iterator.result ≡ c.self.inside.list.items =
    c.into_iter-page-iterator.ensures.into_iter_gives.0 ∙ search rules in (
      merge_begins c.args.self.now _ (entries_of c.args.rows.now.items)
          (into_iter_items c.into_iter-page-iterator.result)
          (entries_are (entries_in c.replace-pages.new.dest.items) _ (subst IsSorted (sym empty) tt) refl
          ∙ empty)
          (ap entries_in all ∙ sym (entries_are (entries_in c.self.inside.list.items) c.args.self.now
          c.self.invariant c.self.view_is)),
      search rules,
    )

pub loop-page-preserved : goal.loop-page-preserved
loop-page-preserved c = grind (arith, common_steps, page_moves)

pub returns : goal.returns
returns c =
    let total = entries c.args.self.now ++ entries_of c.args.rows.now.items in
    let at = c.loop-page in
    let empty : into_iter_items at.page-iterator ≡ [] = nothing_left _ (sym at.invariant.1
    ∙ c.in-None.ensures.steps.0) in
    IfOk-weaker c.put_all.result _ _
    (λ apart moves is. merge_ends total _ at.self at.rows.items _ at.invariant.0 empty (moves is))
    c.put_all.ensures
