use Rattle.std.proofs.Common.{◌++◌, ℕ, List, codes}
use Rattle.snmp_oid.specs.Numeric.{numeric_text}
use Rattle.snmp_tools.proofs.Texts.{adds_after}
use Rattle.snmp_tools.proofs.failure.falling_message.Goals as goal

pub returns : goal.returns
returns c =
    let first : List ℕ = codes "Error: OID not increasing: " ++ numeric_text c.args.last.now in
    adds_after c.args.out.now c.text_and_name.new.out c.text_and_name-2.new.out first (codes " >= ") (numeric_text c.args.got.now)
    c.text_and_name.ensures c.text_and_name-2.ensures
