use Rattle.std.proofs.Common.{◌≡◌, ℕ, List, codes, subst}
use Rattle.snmp_io.specs.Draft.{Adds}
use Rattle.snmp_tools.proofs.Texts.{adds_both}
use Rattle.snmp_tools.proofs.load.error.unreadable_text.Goals as goal

pub returns : goal.returns
returns c =
    let path : c.as_bytes.result.now ≡ c.args.path.now = c.as_bytes.ensures.value in
    let first = subst (λ (t : List ℕ). Adds c.args.draft.now t c.octets.new.self) path c.octets.ensures in
    adds_both _ _ _ c.args.path.now (codes ": cannot be read") first c.octets-2.ensures
