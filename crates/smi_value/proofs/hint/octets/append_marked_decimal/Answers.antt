use Rattle.std.proofs.{Common.arith, lemmas.Fmt.decimal_digit}
use Rattle.smi_value.proofs.HintNumber.{decimal_two, decimal_three}
use Rattle.smi_value.proofs.hint.octets.append_marked_decimal.Goals as goal

pub returns-then-octet-lt10 : goal.returns-then-octet-lt10
returns-then-octet-lt10 c = rw (decimal_digit c.args.octet (omega arith)) c.octets.ensures

pub returns-then-octet-lt100 : goal.returns-then-octet-lt100
returns-then-octet-lt100 c = rw (decimal_two c.args.octet (omega arith) (omega arith)) c.octets-then-octet-lt100.ensures

pub returns-else-octet-lt100 : goal.returns-else-octet-lt100
returns-else-octet-lt100 c = rw (decimal_three c.args.octet (omega arith) (omega arith)) c.octets-else-octet-lt100.ensures
