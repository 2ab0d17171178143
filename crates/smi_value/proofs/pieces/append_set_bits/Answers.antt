use Rattle.std.proofs.{lemmas.Grind.common_steps, Common.arith}
use Rattle.smi_value.specs.Pieces.{octet_bits}
use Rattle.smi_value.proofs.{Drafts.adds_from, Texts.enumerated_more, Texts.enumerated_all}
use Rattle.smi_value.proofs.pieces.append_set_bits.Goals as goal

pub octets-preserved : goal.octets-preserved
octets-preserved c = rw (enumerated_more (octet_bits c.args.letters.now c.args.names.now) c.args.octets.now c.octets.index (omega arith))
    (c.append_octet_bits.ensures.goes_on _ _ c.octets.invariant)

pub returns : goal.returns
returns c = grind (arith, common_steps, adds_from, enumerated_all)
