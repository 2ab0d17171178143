use Rattle.std.proofs.Common.{refl}
use Rattle.smi_text.specs.{private.Format.preceded, private.Format.shaped, private.Format.pair, private.Grammar.module_identity}
use Rattle.smi_text.proofs.parser.Parser.module_identity.Goals as goal

pub returns : goal.returns
unfolding module_identity preceded shaped pair
returns c =
    rw (c.in_ok-word.ensures, c.in_ok-last_updated.ensures, c.in_ok-organization.ensures, c.in_ok-contact_info.ensures)
    (rw (c.in_ok-description.ensures, c.in_ok-revisions.ensures, c.in_ok-value.ensures) refl)
