use Rattle.std.proofs.Common.{rules, List, ℕ, arith, sym, subst}
use Rattle.snmp_wire.specs.{ber.Length.IsElement, Spelling.sequence_tag}
use Rattle.snmp_walk.proofs.LooseLinks.{long_content}
use Rattle.snmp_walk.proofs.loose.content_of.Goals as goal

pub returns-in-128-to-255-clause-content : goal.returns-in-128-to-255-clause-content
returns-in-128-to-255-clause-content c =
    subst (λ (content : List ℕ). IsElement sequence_tag content c.args.octets.now)
    (sym (long_content sequence_tag c.from.result c.requires.0 c.args.octets.now c.requires.1 (search rules) (omega arith))) c.requires.1
