use Rattle.std.proofs.{Common.◌<◌, Common.◌+◌, Common.ℕ, Common.length, Common.◌∙◌, Common.ap, Common.sym, lemmas.Option.slice_get_within}
use Rattle.snmp_agent.specs.table.Pages.{ArePages, IsPageOf, IsPageWithRoom, entries_in}
use Rattle.snmp_agent.proofs.Pages.{divided, same_rows, divided_rows, room_before, room_after}
use Rattle.snmp_agent.proofs.table.pages.divide.Goals as goal
use Rattle.snmp_agent.proofs.table.pages.divide.Goals.{In_ok-reserve, then-is_up_to, else-is_up_to}

low : (c : In_ok-reserve) → c.args.index < length c.reserve.new.self.items
low c = rw c.in_ok-reserve.ensures.items (slice_get_within c.args.pages.now.items c.args.index c.requires.rows.0 c.requires.rows.1)

pub returns-in_err-back-clause-rows : goal.returns-in_err-back-clause-rows
returns-in_err-back-clause-rows c =
    same_rows c.reserve.new.self.items c.args.index c.index_mut.result.now c.divide.new.self (low (goal.at.returns-in_err-back-clause-rows c).In_ok-reserve)
    c.index_mut.ensures.value c.in_err-back.ensures.unchanged_on_error
    ∙ ap entries_in c.in_ok-reserve.ensures.items

pub returns-clause-rows : goal.returns-clause-rows
returns-clause-rows c =
    ap entries_in c.in-Ok.ensures.items
    ∙ divided_rows c.reserve.new.self.items c.args.index c.index_mut.result.now c.divide.new.self c.in_ok-back.back
    (low (goal.at.returns-clause-rows c).In_ok-reserve) c.index_mut.ensures.value c.in_ok-back.ensures.parts
    ∙ ap entries_in c.in_ok-reserve.ensures.items

pub returns-clause-index : goal.returns-clause-index
returns-clause-index c =
    let o = c.args.name.now in
    let pages = c.reserve.new.self.items in
    let inside = low (goal.at.returns-clause-index c).In_ok-reserve in
    let page_of : IsPageOf o pages c.args.index = rw c.in_ok-reserve.ensures.items c.requires.index in
    let rising : ArePages pages = rw c.in_ok-reserve.ensures.items c.requires.rising in
    let there : (k : ℕ) → IsPageWithRoom o (divided pages c.args.index c.divide.new.self c.in_ok-back.back) k
    → IsPageWithRoom o c.insert.new.self.items k = λ k h. rw c.in-Ok.ensures.items h in
    elim c.if-is_up_to.branch [
      | then-is_up_to w ↦ rw w.belongs-is
          (there (c.args.index + 1) (room_after pages c.args.index c.index_mut.result.now c.divide.new.self c.in_ok-back.back inside
          c.index_mut.ensures.value c.in_ok-back.ensures.parts o page_of rising (sym c.is_up_to.ensures ∙ w.if-is_up_to.true)))
      | else-is_up_to w ↦ rw w.belongs-is
          (there c.args.index (room_before pages c.args.index c.index_mut.result.now c.divide.new.self c.in_ok-back.back inside
          c.index_mut.ensures.value c.in_ok-back.ensures.parts o page_of rising (sym c.is_up_to.ensures ∙ w.if-is_up_to.false)))
    ]
