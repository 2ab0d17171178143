-- Octets of labels and numbers are neither dots, nor colons, nor quotes.
use Rattle.std.proofs.{lemmas.Grind.common_steps, lemmas.Bool.and_parts, lemmas.Bool.both_ways, lemmas.Bool.ne_eqb, lemmas.Bool.Decides.nat_tests}
use Rattle.std.proofs.Common.{◌≡◌, ℕ, Bool, true, false, ◌&&◌, ◌||◌, eqb, List, [], ◌∷◌, refl, sym, ◌∙◌, ap, arith}
use Rattle.std.specs.{Char.is_ascii_digit, Char.is_ascii_lowercase, Char.is_ascii_uppercase, Str.all_ascii_digits}
use Rattle.smi_text.specs.{lexer.Lexeme.is_word_octet, lexer.Lexeme.is_hyphen, lexer.Lexeme.begins, lexer.Lexeme.is_word_rest, trees.Word.is_word}
use Rattle.snmp_io.specs.Quotes.{is_quote}

or_weaker : (a b d : Bool) → (a || (b && d)) ≡ true → (a || b) ≡ true
or_weaker true b d h = refl
or_weaker false true d h = refl
or_weaker false false d h = h

-- if `octet` passes a test and `bad` fails it, then they differ
pub apart : (test : ℕ → Bool) (octet bad : ℕ) → test octet ≡ true → test bad ≡ false → eqb octet bad ≡ false
apart test octet bad good fails = ne_eqb octet bad (λ e. both_ways (test bad) fails (sym (ap test e) ∙ good))

-- `octet` is neither a quote, nor a dot, nor a colon
pub record IsPlain (octet : ℕ) : Type 0 where
  pub quote : is_quote octet ≡ false
  pub dot : eqb octet 46 ≡ false
  pub colon : eqb octet 58 ≡ false

pub plain_by : (test : ℕ → Bool) (octet : ℕ) → test octet ≡ true → test 34 ≡ false → test 39 ≡ false → test 46 ≡ false → test 58 ≡ false → IsPlain octet
plain_by test octet good double single dot colon = grind (arith, common_steps, apart)

unfoldable pub ArePlain : List ℕ → Type 0
ArePlain [] = Unit {0}
ArePlain (octet ∷ more) = IsPlain octet × ArePlain more

is_named : ℕ → Bool
is_named octet = is_word_octet octet || is_hyphen octet

is_letter : ℕ → Bool
is_letter octet = is_ascii_lowercase octet || is_ascii_uppercase octet

pub plain_digits : (text : List ℕ) → all_ascii_digits text ≡ true → ArePlain text
unfolding ArePlain
plain_digits [] h = tt
plain_digits (octet ∷ more) h =
    let both = and_parts (is_ascii_digit octet) (all_ascii_digits more) h in
    (plain_by is_ascii_digit octet both.0 refl refl refl refl, plain_digits more both.1)

plain_rest : (text : List ℕ) → is_word_rest text ≡ true → ArePlain text
unfolding ArePlain is_named
plain_rest [] h = tt
plain_rest (octet ∷ more) h =
    let both = and_parts (is_word_octet octet || (is_hyphen octet && begins is_word_octet more)) (is_word_rest more) h in
    let named = or_weaker (is_word_octet octet) (is_hyphen octet) (begins is_word_octet more) both.0 in
    (plain_by is_named octet named refl refl refl refl, plain_rest more both.1)

pub plain_word : (text : List ℕ) → is_word text ≡ true → ArePlain text
unfolding ArePlain is_letter
plain_word [] h = tt
plain_word (octet ∷ more) h = grind (arith, common_steps, and_parts, plain_by, is_letter, plain_rest)

-- `octet` may begin a label: it is neither a digit, nor a quote, nor a dot
pub record BeginsLabel (octet : ℕ) : Type 0 where
  pub digit : is_ascii_digit octet ≡ false
  pub double : eqb octet 34 ≡ false
  pub single : eqb octet 39 ≡ false
  pub dot : eqb octet 46 ≡ false

pub plain_word_begins : (octet : ℕ) (more : List ℕ) → is_word (octet ∷ more) ≡ true → BeginsLabel octet
unfolding is_letter
plain_word_begins octet more h = grind (arith, common_steps, and_parts, apart, is_letter, nat_tests)
