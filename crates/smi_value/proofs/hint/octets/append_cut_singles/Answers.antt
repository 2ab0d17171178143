use Rattle.std.proofs.{Common.arith, Common.◌≢◌, Common.List, Common.ℕ, Common.[], Common.sym, Common.subst, Common.rules, lemmas.Grind.common_steps}
use Rattle.smi_value.specs.hint.Pieces.{pieces_text}
use Rattle.smi_value.proofs.{Drafts.adds_from, Drafts.none_left, HintPieces.AppendsPieces, HintPieces.cut_none, HintPieces.cut_singles}
use Rattle.smi_value.proofs.hint.octets.append_cut_singles.Goals as goal

pub returns-then-is_empty : goal.returns-then-is_empty
returns-then-is_empty c = grind (arith, common_steps, none_left, cut_none, adds_from)

pub returns : goal.returns
returns c =
    let some : c.split_at.result.0.now ≢ [] = search rules in
    let P : List ℕ → Type 0 = λ rest.
    AppendsPieces c.args.spec.now c.args.times c.args.octets.now c.args.draft.now c.append_mark.new.draft rest in
    let first = rw c.split_at.ensures.front at c.append_singles.ensures in
    let last = rw (c.last_mark.ensures, c.split_at.ensures.back) at c.append_mark.ensures in
    let all = subst P (sym c.split_at.ensures.back)
    (cut_singles c.args.spec.now c.args.times c.min.result c.args.octets.now c.args.draft.now c.append_singles.new.draft
    c.append_mark.new.draft c.requires c.min.ensures
    (rw c.split_at.ensures.front at some) first last) in
    let grown = adds_from c.args.draft.now c.append_mark.new.draft (pieces_text c.args.spec.now all.pieces c.split_at.result.1.now) all.grows in
    (all.pieces, all.cut, grown)
