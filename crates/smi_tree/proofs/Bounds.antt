-- The value of an end of a range is at most 18446744073709551615, the greatest number of 64 bits.
use Rattle.std.proofs.Common.{◌≡◌, ℕ, true, List, Some, ℤ, pos, ◌≤ℤ◌, arith}
use Rattle.std.proofs.{lemmas.Int.ints, Math.Bool.or-false}
use Rattle.smi_text.specs.declared.lexer.token.TokenKind.{TokenKind}
use Rattle.smi_text.specs.declared.lexer.token.TokenKind.TheVariants as K
use Rattle.smi_text.specs.trees.Number.{number_value, literal_digits, is_number, is_literal, is_bound, bound_in, bound_value, signed_value}

number_fits : (x : List ℕ) → is_number x ≡ true → signed_value x ≤ℤ pos 18446744073709551615
unfolding is_number
number_fits x h = grind (arith, ints)

literal_fits : (base : ℕ) (x : List ℕ) → is_literal base x ≡ true → pos (number_value base (literal_digits x)) ≤ℤ pos 18446744073709551615
unfolding is_literal
literal_fits base x h = grind (arith, ints)

fits : (k : TokenKind) (x : List ℕ) → is_bound k x ≡ true → bound_value k x ≤ℤ pos 18446744073709551615
unfolding is_bound
fits K.Number x h = number_fits x (rw (or-false, or-false) at h)
fits K.Hex x h = literal_fits 16 x (rw or-false at h)
fits K.Binary x h = literal_fits 2 x h
fits _ x h = absurd (cc)

pub bound_fits : (k : TokenKind) (x : List ℕ) (v : ℤ) → bound_in k x ≡ Some v → v ≤ℤ pos 18446744073709551615
bound_fits k x v e = grind (arith, fits k x)
