use Rattle.std.proofs.Common.{◌≡◌, ◌++◌, ℕ, List, codes, subst, rules}
use Rattle.snmp_io.specs.Draft.{Adds}
use Rattle.std.specs.Fmt.{signed_decimal}
use Rattle.snmp_tools.specs.FaultText.{status_name}
use Rattle.snmp_tools.proofs.Texts.{adds_after}
use Rattle.snmp_tools.proofs.failure.fault_message.Goals as goal

pub returns : goal.returns
returns c =
    let name : List ℕ = codes "Error in packet: " ++ status_name c.args.status.now in
    let status : List ℕ = signed_decimal c.args.status.now in
    let P : List ℕ → Type 0 = λ n. Adds c.args.out.now (codes "Error in packet: " ++ n) c.two_texts.new.out in
    let named : c.status_name.result.now ≡ status_name c.args.status.now = search rules in
    let first = subst P named c.two_texts.ensures in
    let two = adds_after c.args.out.now c.two_texts.new.out c.text_and_integer.new.out name (codes " (") status first c.text_and_integer.ensures in
    adds_after c.args.out.now c.text_and_integer.new.out c.text_and_integer-2.new.out (name ++ codes " (" ++ status) (codes "), index ")
    (signed_decimal c.args.index.now) two c.text_and_integer-2.ensures
