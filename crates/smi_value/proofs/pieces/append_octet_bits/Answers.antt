use Rattle.smi_value.proofs.Drafts.{adds_from}
use Rattle.smi_value.proofs.pieces.append_octet_bits.Goals as goal

pub returns : goal.returns
returns c =
    let four = c.append_if_set-4.ensures.goes_on _ _ (c.append_if_set-3.ensures.goes_on _ _
    (c.append_if_set-2.ensures.goes_on _ _ c.append_if_set.ensures.grows)) in
    adds_from _ _ _ (c.append_if_set-8.ensures.goes_on _ _ (c.append_if_set-7.ensures.goes_on _ _ (c.append_if_set-6.ensures.goes_on _ _
    (c.append_if_set-5.ensures.goes_on _ _ four))))
