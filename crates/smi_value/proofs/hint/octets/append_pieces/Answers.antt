use Rattle.std.proofs.Common.{◌≡◌, None, rules, arith}
use Rattle.smi_value.proofs.{Drafts.adds_from, HintPieces.one_for_all}
use Rattle.smi_value.proofs.hint.octets.append_pieces.Goals as goal

pub returns-then-times-gt1 : goal.returns-then-times-gt1
returns-then-times-gt1 c =
    let bare : c.args.spec.now.separator ≡ None = search rules in
    let all = one_for_all c.args.spec.now c.args.times c.args.octets.now c.args.draft.now _ _ (omega arith) bare (omega arith)
    (record { pieces = c.append_cut.ensures.0; cut = c.append_cut.ensures.1; grows = c.append_cut.ensures.2.grows }) in
    (all.pieces, all.cut, adds_from _ _ _ all.grows)
