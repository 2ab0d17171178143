use Rattle.std.proofs.Common.{refl}
use Rattle.smi_value.proofs.Drafts.{adds_from}
use Rattle.smi_value.proofs.value.append_value.Goals as goal

pub returns-in-IpAddress : goal.returns-in-IpAddress
returns-in-IpAddress c = (
  _,
  λ names. rw c.in-IpAddress.is refl,
  adds_from _ _ _ (c.append_address.ensures.goes_on _ _ c.append_word.ensures.grows),
)

pub returns-in-TimeTicks : goal.returns-in-TimeTicks
returns-in-TimeTicks c = (
  _,
  λ names. rw c.in-TimeTicks.is refl,
  adds_from _ _ _ (rw c.units_at.ensures at (c.append_units.ensures.goes_on _ _ c.append_ticks.ensures.grows)),
)

pub returns-in-Opaque : goal.returns-in-Opaque
returns-in-Opaque c = (
  _,
  λ names. rw c.in-Opaque.is refl,
  adds_from _ _ _ (c.append_hexadecimal.ensures.goes_on _ _ c.append_word-in-Opaque.ensures.grows),
)
