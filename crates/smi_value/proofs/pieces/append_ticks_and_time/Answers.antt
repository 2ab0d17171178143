use Rattle.smi_value.proofs.Drafts.{adds_from}
use Rattle.smi_value.proofs.pieces.append_ticks_and_time.Goals as goal

pub returns : goal.returns
returns c =
    let number = rw c.from.ensures at c.number.ensures in
    adds_from _ _ _ (c.append_clock.ensures.goes_on _ _ (c.append_days.ensures.goes_on _ _ (c.octets-2.ensures.goes_on _ _
    (number.goes_on _ _ c.octets.ensures.grows))))
