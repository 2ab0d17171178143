use Rattle.smi_text.specs.lexer.LongestMatch.{GoesOn, is_remark_rest}
use Rattle.smi_text.proofs.lexer.scan.remark_len.Given as goal

abbrev pub invariant-octets : goal.invariant-octets
invariant-octets l = GoesOn is_remark_rest l.text l.n
