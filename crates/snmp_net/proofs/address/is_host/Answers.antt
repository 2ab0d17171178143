use Rattle.std.proofs.{Common.arith, lemmas.Str.Pattern.contains_char}
use Rattle.snmp_net.proofs.Words.{host_test, not_empty}
use Rattle.snmp_net.proofs.address.is_host.Goals as goal

pub returns-then-not-is_empty : goal.returns-then-not-is_empty
returns-then-not-is_empty c =
    host_test c.args.text.now c.contains.result (not_empty c.args.text.now c.is_empty.result c.is_empty.ensures c.if-not-is_empty.true)
    (contains_char 58 c.args.text.now c.contains.result c.contains.ensures.cases (omega arith))
