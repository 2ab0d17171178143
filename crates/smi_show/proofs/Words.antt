-- The text of a piece is read as this piece (`piece_word`), and a label as this label (`label_word`).
use Rattle.std.proofs.{lemmas.Grind.common_steps, lemmas.Bool.and_parts, lemmas.Bool.eq-eqb, lemmas.Bool.lt-ltb}
use Rattle.std.proofs.Common.{◌≡◌, ◌≢◌, ℕ, true, ◌&&◌, eqb, ltb, cond, List, [], ◌∷◌, ◌++◌, length, take, get_or, decimal, Option, Some, None, Ok}
use Rattle.std.proofs.Common.{refl, ◌∙◌, ap, arith, length-append}
use Rattle.std.specs.{List.list_all, Char.is_ascii_digit}
use Rattle.std.proofs.Math.Seq.{take-append_seam, get_or-append_seam}
use Rattle.snmp_oid.specs.Numeric.{IsNumeral}
use Rattle.smi_text.specs.trees.Word.{is_word}
use Rattle.smi_show.specs.index.Pieces.{Piece, plain_number, counted_text, plain_text, is_quotable, IsPiece, shown_piece}
use Rattle.smi_show.specs.name.Word.{a_piece, a_label, numeral_of, quoted_in, number_word, counted_word, plain_word, word_of}
use Rattle.smi_show.proofs.{Numerals.numeral_is, Numerals.written_numeral, PlainOctets.plain_word_begins}

pub digit_first : (octet : ℕ) (more : List ℕ) → is_ascii_digit octet ≡ true → word_of (octet ∷ more) ≡ number_word (numeral_of (octet ∷ more))
digit_first octet more h = rw h refl

pub digits_word : (text : List ℕ) (n : ℕ) → IsNumeral text n → word_of text ≡ Ok (a_piece (plain_number n))
digits_word [] n h = absurd (h.some refl)
digits_word (octet ∷ more) n h = grind (arith, common_steps, digit_first, and_parts, numeral_is)

-- the first `size` octets of `rest`, if a quote follows them and each may appear between quotes; otherwise None
quoted_at : ℕ → List ℕ → ℕ → Option (List ℕ)
quoted_at quote rest size =
    cond (ltb 0 (length rest) && eqb (get_or rest size 0) quote && list_all is_quotable (take size rest)) (Some (take size rest)) None

quoted_read : (quote : ℕ) (octets : List ℕ) → list_all is_quotable octets ≡ true → quoted_at quote (octets ++ quote ∷ []) (length octets) ≡ Some octets
unfolding quoted_at
quoted_read quote octets h = grind (arith, common_steps, length-append, lt-ltb, eq-eqb, get_or-append_seam, take-append_seam)

pub quoted_back : (quote : ℕ) (octets : List ℕ) → list_all is_quotable octets ≡ true → quoted_in quote (octets ++ quote ∷ []) ≡ Some octets
unfolding quoted_at
quoted_back quote octets h = grind (arith, common_steps, length-append, quoted_at, quoted_read)

pub some_text : (octets : List ℕ) → octets ≢ [] → plain_word (Some octets) ≡ Ok (a_piece (plain_text octets))
some_text [] some = absurd (some refl)
some_text (octet ∷ more) some = refl

pub piece_word : (piece : Piece) → IsPiece piece → word_of (shown_piece piece) ≡ Ok (a_piece piece)
piece_word (plain_number n) h = digits_word (decimal n) n (written_numeral n h)
piece_word (counted_text octets) h = ap counted_word (quoted_back 34 octets h)
piece_word (plain_text octets) h = ap plain_word (quoted_back 39 octets h.1) ∙ some_text octets h.0

pub label_word : (label : List ℕ) → is_word label ≡ true → word_of label ≡ Ok (a_label label)
label_word [] h = let wrong : ⊥ = cc in absurd wrong
label_word (octet ∷ more) h = grind (arith, common_steps, plain_word_begins)
