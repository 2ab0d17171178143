use Rattle.std.proofs.Common.{◌≡◌, ◌-◌, ◌<◌, length, get_or, false}
use Rattle.smi_text.specs.{lexer.Lexeme.is_word_octet, lexer.Lexeme.is_word_rest, lexer.LongestMatch.GoesOn}
use Rattle.smi_text.proofs.lexer.scan.word_rest_len.Given as goal

-- the first n octets make no difference to the test of a longer prefix, and the octet at n, if there is one, isn't a letter, a digit or `_`
abbrev pub invariant-parts : goal.invariant-parts
invariant-parts l = record {
  goes : GoesOn is_word_rest l.text l.n;
  stops : l.n < length l.text → is_word_octet (get_or l.text l.n 0) ≡ false;
}

abbrev pub decreases-parts : goal.decreases-parts
decreases-parts l = length l.initial.text - l.n
