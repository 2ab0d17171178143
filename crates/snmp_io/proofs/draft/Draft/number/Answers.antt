use Rattle.std.proofs.{Common.◌/◌, Common.arith, lemmas.Fmt.decimal_digit, lemmas.Fmt.decimal_step}
use Rattle.snmp_io.proofs.draft.Draft.number.Goals as goal

pub returns-then-n-lt10 : goal.returns-then-n-lt10
returns-then-n-lt10 c = rw (decimal_digit c.args.n (omega arith)) c.octet.ensures

pub returns-then-n-lt100 : goal.returns-then-n-lt100
returns-then-n-lt100 c = rw (decimal_step c.args.n (omega arith) (omega arith), decimal_digit (c.args.n / 10) (omega arith)) c.octets.ensures
