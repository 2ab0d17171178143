use Rattle.smi_value.proofs.{SetBits.bits_shown, Drafts.adds_from}
use Rattle.smi_value.proofs.pieces.append_bits.Goals as goal

pub returns : goal.returns
returns c = (
  _,
  bits_shown c.args.letters.now c.args.names.now c.args.octets.now,
  adds_from _ _ _ (c.append_set_bits.ensures.goes_on _ _ (c.append_hexadecimal.ensures.goes_on _ _ c.append_word.ensures.grows)),
)
