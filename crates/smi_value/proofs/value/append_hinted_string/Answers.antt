use Rattle.std.proofs.{Common.arith, Common.refl, Common.inl, lemmas.Grind.common_steps}
use Rattle.smi_value.proofs.Drafts.{adds_from}
use Rattle.smi_value.proofs.value.append_hinted_string.Goals as goal
use Rattle.smi_value.proofs.value.append_hinted_string.Goals.{in_default-via-in-Some+else-not-is_number, in_default-via-in_default}

pub returns-in-Some : goal.returns-in-Some
returns-in-Some c = (
  _,
  inl (record { shown = c.append.ensures.0; shows = rw c.in-Some.ensures.found at c.append.ensures.1; whole = refl }),
  adds_from _ _ _ (c.append.ensures.2.goes_on _ _ c.append_word.ensures.grows),
)

pub returns-in_default : goal.returns-in_default
returns-in_default c = grind (arith, common_steps, in_default-via-in-Some+else-not-is_number, in_default-via-in_default)
