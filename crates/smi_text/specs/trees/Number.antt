-- Numbers of module texts and their ranges (RFC 2578, sections 3.5 and 7.1).
use Rattle.std.specs.Prelude.{ℕ, ℤ, pos, ◌-ℤ◌, ◌+◌, ◌-◌, ◌*◌, ◌^◌, ◌==◌, Bool, false, ◌&&◌, ◌||◌}
use Rattle.std.specs.Prelude.{not, nat_le, List, [], ◌∷◌, Option, length, drop, take, if◌then◌else◌}
use Rattle.std.specs.{Bool.then_some, List.list_any}
use Rattle.smi_text.specs.{declared.lexer.token.TokenKind.TokenKind, trees.Mark.same_text}
use Rattle.smi_text.specs.{trees.Mark.same_kind, trees.Reserved.is_reserved, trees.Reserved.macros}
use Rattle.smi_text.specs.declared.lexer.token.TokenKind.TheVariants as K

-- the value of the digit `c` in a base up to 16; a letter may be in either case
abbrev pub digit_value : ℕ → ℕ
digit_value c = if nat_le c 57 then c - 48 else (if nat_le c 70 then c - 55 else c - 87)

-- the number that digits write: the sum of their values, each times a power of the base; 0 for an
-- empty list
unfoldable pub number_value : ℕ → List ℕ → ℕ
number_value base [] = 0
number_value base (c ∷ cs) = digit_value c * base ^ length cs + number_value base cs

-- whether a hyphen is before the digits
abbrev pub is_negative : List ℕ → Bool
is_negative [] = false
is_negative (c ∷ cs) = c == 45

abbrev pub magnitude : List ℕ → ℕ
magnitude x = number_value 10 (if is_negative x then drop 1 x else x)

-- whether a number token can be a number of an identifier: 0 to 4294967295
unfoldable pub is_arc : List ℕ → Bool
is_arc x = nat_le (magnitude x) (if is_negative x then 0 else 4294967295)

-- whether a number token can be a number outside identifiers: -9223372036854775808 to
-- 18446744073709551615
unfoldable pub is_number : List ℕ → Bool
is_number x = nat_le (magnitude x)
    (if is_negative x then 9223372036854775808 else 18446744073709551615)

-- the digits of a literal such as `'0F'H`: those between its quotes
abbrev pub literal_digits : List ℕ → List ℕ
literal_digits x = take (length x - 3) (drop 1 x)

-- whether the value of a literal is at most 18446744073709551615
unfoldable pub is_literal : ℕ → List ℕ → Bool
is_literal base x = nat_le (number_value base (literal_digits x)) 18446744073709551615

-- whether a token can be an end of a range
unfoldable pub is_bound : TokenKind → List ℕ → Bool
is_bound k x =
    (same_kind k K.Number && is_number x)
    || (same_kind k K.Hex && is_literal 16 x)
    || (same_kind k K.Binary && is_literal 2 x)

-- ---- values

-- the value of a number token: the number that its digits write, subtracted from 0 if a hyphen is
-- before them
abbrev pub signed_value : List ℕ → ℤ
signed_value x = if is_negative x then pos 0 -ℤ pos (magnitude x) else pos (magnitude x)

-- the value of an end of a range
abbrev pub bound_value : TokenKind → List ℕ → ℤ
bound_value K.Hex x = pos (number_value 16 (literal_digits x))
bound_value K.Binary x = pos (number_value 2 (literal_digits x))
bound_value _ x = signed_value x

-- the number that a number token writes, if it can be a number of an identifier
abbrev pub arc_in : List ℕ → Option ℕ
arc_in x = then_some (is_arc x) (magnitude x)

-- the number that a number token writes, if it can be a number outside identifiers
abbrev pub stated_number : List ℕ → Option ℤ
stated_number x = then_some (is_number x) (signed_value x)

-- the value that a token writes, if it can be an end of a range
abbrev pub bound_in : TokenKind → List ℕ → Option ℤ
bound_in k x = then_some (is_bound k x) (bound_value k x)

-- ---- words

-- whether a word names a macro
unfoldable pub is_macro : List ℕ → Bool
is_macro x = list_any (same_text x) macros

-- whether a token can be imported: it is a name, or the name of a macro
unfoldable pub is_symbol : TokenKind → List ℕ → Bool
is_symbol k x = same_kind k K.Lower || (same_kind k K.Upper && (not (is_reserved x) || is_macro x))

-- ---- for private functions

-- the number n, if it is at most `most`
abbrev pub up_to : ℕ → ℕ → Option ℕ
up_to most n = then_some (nat_le n most) n
