use Rattle.std.proofs.{lemmas.Grind.common_steps, Common.◌≡◌, Common.◌⊎◌, Common.[], Common.inl, Common.inr, Common.arith}
use Rattle.smi_value.proofs.{Drafts.adds_from, Drafts.none_left, HintPieces.one_piece, HintPieces.no_pieces}
use Rattle.smi_value.proofs.hint.octets.append_cut.Goals as goal

pub pieces-preserved : goal.pieces-preserved
pieces-preserved c = grind (arith, common_steps, one_piece)

pub returns-else-not-is_empty : goal.returns-else-not-is_empty
returns-else-not-is_empty c =
    let enough : (0 ≡ c.pieces.ahead) ⊎ (c.pieces.left.now ≡ []) = inr (none_left _ _ c.is_empty.ensures c.if-not-is_empty.false) in
    let all = c.pieces.invariant.whole c.pieces.draft c.pieces.left.now (no_pieces c.args.spec.now c.pieces.ahead c.pieces.left.now c.pieces.draft enough) in
    (all.pieces, all.cut, adds_from _ _ _ all.grows)

pub returns-after-pieces : goal.returns-after-pieces
returns-after-pieces c =
    let enough : (0 ≡ c.pieces.ahead) ⊎ (c.pieces.left.now ≡ []) = inl (omega arith) in
    let all = c.pieces.invariant.whole c.pieces.draft c.pieces.left.now (no_pieces c.args.spec.now c.pieces.ahead c.pieces.left.now c.pieces.draft enough) in
    (all.pieces, all.cut, adds_from _ _ _ all.grows)
