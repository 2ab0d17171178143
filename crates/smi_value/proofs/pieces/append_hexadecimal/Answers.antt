use Rattle.std.proofs.Common.{arith}
use Rattle.smi_value.specs.Texts.{hex_dump_octet}
use Rattle.smi_value.proofs.{Drafts.adds_from, Texts.enumerated_more, Texts.enumerated_all}
use Rattle.smi_value.proofs.pieces.append_hexadecimal.Goals as goal

pub octets-preserved : goal.octets-preserved
octets-preserved c = rw (enumerated_more hex_dump_octet c.args.octets.now c.octets.index (omega arith)) (c.append_dumped.ensures.goes_on _ _ c.octets.invariant)

pub returns : goal.returns
returns c = adds_from _ _ _ (rw (enumerated_all hex_dump_octet c.args.octets.now c.octets.index (omega arith)) at c.octets.invariant)
