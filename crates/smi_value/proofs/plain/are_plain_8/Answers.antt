use Rattle.std.proofs.Common.{arith}
use Rattle.smi_value.proofs.PlainStrings.{plain_lanes}
use Rattle.smi_value.proofs.plain.are_plain_8.Goals as goal

pub returns : goal.returns
returns c = plain_lanes c.args.octets.now c.args.at 8 c.requires (omega arith) c.if-these-ne0.false c.if-these-ne0-2.false c.if-these-ne0-3.false
