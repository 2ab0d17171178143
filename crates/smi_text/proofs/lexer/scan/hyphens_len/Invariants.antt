use Rattle.std.proofs.Common.{◌-◌, length}
use Rattle.std.specs.List.{list_all}
use Rattle.smi_text.specs.{lexer.Lexeme.is_hyphen, lexer.LongestMatch.GoesOn}
use Rattle.smi_text.proofs.lexer.scan.hyphens_len.Given as goal

-- the first n octets, all of them hyphens, make no difference to the test of a longer prefix
abbrev pub invariant-octets : goal.invariant-octets
invariant-octets l = GoesOn (list_all is_hyphen) l.text l.n

abbrev pub decreases-octets : goal.decreases-octets
decreases-octets l = length l.initial.text - l.n
