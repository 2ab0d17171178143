use Rattle.std.proofs.{Common.refl, Common.w64, lemmas.Int.to_z-of_z}
use Rattle.smi_value.proofs.Drafts.{adds_from}
use Rattle.smi_value.proofs.value.append_typed_number.Goals as goal

pub returns : goal.returns
returns c =
    let same = to_z-of_z w64 c.args.n c.ranges.n in (
      _,
      record { shown = c.append_number.ensures.0; is_number = rw same at c.append_number.ensures.1; whole = refl },
      adds_from _ _ _ (c.append_units.ensures.goes_on _ _ (c.append_number.ensures.2.goes_on _ _ c.append_word.ensures.grows)),
    )
