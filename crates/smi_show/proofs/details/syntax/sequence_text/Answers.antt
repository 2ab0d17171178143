use Rattle.std.proofs.Common.{codes}
use Rattle.smi_show.proofs.Texts.{adds_both}
use Rattle.smi_show.proofs.details.syntax.sequence_text.Goals as goal

pub returns : goal.returns
returns c =
    adds_both c.args.draft.now c.octets.new.self c.octets-2.new.self (codes "SEQUENCE OF ") c.args.row.now c.octets.ensures c.octets-2.ensures
