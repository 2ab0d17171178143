-- What the class of an octet says of the octet is true: for example, each octet of the class `Blank` is blank.
use Rattle.std.proofs.Common.{arith, ◌≡◌, ℕ, true, List, [], ◌∷◌, subst}
use Rattle.std.proofs.{lemmas.Grind.common_steps, lemmas.Bool.eqb-true}
use Rattle.std.specs.Char.{is_ascii_lowercase, is_ascii_uppercase, is_ascii_digit}
use Rattle.smi_text.specs.{declared.lexer.class.Class.Class, declared.lexer.token.TokenKind.TokenKind, lexer.Lexeme.IsLexeme, lexer.Lexeme.is_blank}
use Rattle.smi_text.specs.{lexer.LongestMatch.class_of, lexer.LongestMatch.symbol_among}
use Rattle.smi_text.specs.declared.lexer.class.Class.TheVariants as C

-- what the class says of octet `c` is true: for example, `c` is blank if the class is `Blank`
abbrev pub HasClass : Class → ℕ → Type 0
HasClass C.Blank c = is_blank c ≡ true
HasClass C.Lowercase c = is_ascii_lowercase c ≡ true
HasClass C.Uppercase c = is_ascii_uppercase c ≡ true
HasClass C.Digit c = is_ascii_digit c ≡ true
HasClass C.Hyphen c = c ≡ 45
HasClass C.Quote c = c ≡ 34
HasClass C.Apostrophe c = c ≡ 39
HasClass (C.Symbol kind) c = IsLexeme kind (c ∷ [])
HasClass C.Other c = Unit {0}

-- each octet in the table is by itself a lexeme of the kind that the table has for it
abbrev AreLexemes : List (ℕ × TokenKind) → Type 0
AreLexemes [] = Unit {0}
AreLexemes (symbol ∷ others) = IsLexeme symbol.1 (symbol.0 ∷ []) × AreLexemes others

among : (table : List (ℕ × TokenKind)) (c : ℕ) → AreLexemes table → HasClass (symbol_among table c) c
among [] c all = tt
among (symbol ∷ others) c all = grind (arith, common_steps, eqb-true, among others c all.1)

pub has_class : (c : ℕ) → HasClass (class_of c) c
has_class c = grind (arith, common_steps, eqb-true, among)

pub class_is : (c : ℕ) (class : Class) → class_of c ≡ class → HasClass class c
class_is c class e = subst (λ x. HasClass x c) e (has_class c)
