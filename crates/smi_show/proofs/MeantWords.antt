-- What a part is by `word_of` (a number, a text in quotes, a label or a fault) is what it is by the definitions of `Meant`.
use Rattle.std.proofs.{lemmas.Grind.common_steps, lemmas.List.take_more, Math.Seq.take-length}
use Rattle.std.proofs.Common.{◌≡◌, ◌≢◌, ℕ, Bool, true, false, eqb, cond, List, [], ◌∷◌, ◌++◌, Option, Some, None, Result, Ok, Err, refl, sym, ◌∙◌, ap}
use Rattle.std.proofs.Common.{inl, inr, arith}
use Rattle.std.specs.{List.list_all, Char.is_ascii_digit}
use Rattle.std.proofs.lemmas.Bool.{and_parts, eqb-true, eqb-false, ltb-true, ne_eqb}
use Rattle.snmp_oid.specs.Numeric.{IsNumeral}
use Rattle.smi_show.specs.index.Pieces.{Piece, plain_number, counted_text, plain_text, is_quotable}
use Rattle.smi_show.specs.name.Meant.{IsBadIndex, IsBadNumber, IsLabel, StatesPiece}
use Rattle.smi_show.specs.name.Word.{Word, a_piece, a_label, numeral_of, quoted_in, number_word, counted_word, plain_word, word_of}
use Rattle.smi_show.specs.declared.name.error.NameError.{NameError}
use Rattle.smi_show.specs.declared.name.error.NameError.TheVariants.{BadIndex, BadNumber, TooLong, Unknown}
use Rattle.smi_show.proofs.{Numerals.no_numeral, Numerals.numeral_is, IndexValues.chosen}
use Rattle.smi_show.proofs.Words.{digit_first, digits_word, quoted_back, some_text}

-- ---- what is read of a part

pub states_word : (part : List ℕ) (piece : Piece) → StatesPiece part piece → word_of part ≡ Ok (a_piece piece)
states_word part (plain_number n) h = digits_word part n h
states_word part (counted_text octets) h = ap word_of h.0 ∙ ap counted_word (quoted_back 34 octets h.1)
states_word part (plain_text octets) h = ap word_of h.0 ∙ ap plain_word (quoted_back 39 octets h.1.1) ∙ some_text octets h.1.0

pub label_word : (part : List ℕ) → IsLabel part → word_of part ≡ Ok (a_label part)
label_word [] h = absurd h
label_word (octet ∷ more) h = grind (arith, common_steps, ne_eqb)

pub number_fails : (part : List ℕ) → IsBadNumber part → word_of part ≡ Err BadNumber
number_fails [] h = refl
number_fails (octet ∷ more) h =
    let some : octet ∷ more ≢ [] = λ e. (let w : ⊥ = cc in w) in
    digit_first octet more h.0 ∙ ap number_word (no_numeral (octet ∷ more) some h.1)

-- ---- texts in quotes

-- if `quoted_in` returns `octets` for `rest`, then `rest` is `octets` followed by `quote`, and each of `octets` may appear between quotes
pub quoted_of : (quote : ℕ) (rest octets : List ℕ) → quoted_in quote rest ≡ Some octets → (rest ≡ octets ++ quote ∷ []) × (list_all is_quotable octets ≡ true)
quoted_of quote rest octets h = grind (arith, common_steps, chosen, and_parts, ltb-true, take_more, eqb-true, take-length)

-- ---- each part is a piece, a label or a fault

abbrev pub WordIs : List ℕ → Result Word NameError → Type 0
WordIs part (Ok (a_piece piece)) = StatesPiece part piece
WordIs part (Ok (a_label label)) = (label ≡ part) × IsLabel part
WordIs part (Err BadNumber) = IsBadNumber part
WordIs part (Err BadIndex) = IsBadIndex part
WordIs part (Err Unknown) = ⊥
WordIs part (Err TooLong) = ⊥

numeral_states : (part : List ℕ) (n : ℕ) → part ≢ [] → numeral_of part ≡ Some n → IsNumeral part n
numeral_states part n some h = grind (arith, common_steps, chosen, and_parts, ltb-true)

number_is : (octet : ℕ) (more : List ℕ) (read : Option ℕ) → is_ascii_digit octet ≡ true → numeral_of (octet ∷ more) ≡ read
    → WordIs (octet ∷ more) (number_word read)
number_is octet more None digit is = (digit, λ n h. let e = sym (numeral_is (octet ∷ more) n h) ∙ is in let w : ⊥ = cc in w)
number_is octet more (Some n) digit is = numeral_states (octet ∷ more) n (λ e. (let w : ⊥ = cc in w)) is

-- if `word_of` returns `BadIndex` for a part that begins with a quote, then the part isn't the text of any piece
fails_as : (quote : ℕ) (more : List ℕ) (piece : Piece) → word_of (quote ∷ more) ≡ Err BadIndex → StatesPiece (quote ∷ more) piece → ⊥
fails_as quote more piece e s = let no : Err BadIndex ≡ Ok (a_piece piece) = sym e ∙ states_word (quote ∷ more) piece s in let w : ⊥ = cc in w

counted_is : (more : List ℕ) (read : Option (List ℕ)) → quoted_in 34 more ≡ read → WordIs (34 ∷ more) (counted_word read)
counted_is more None is = (inl refl, λ piece s. fails_as 34 more piece (ap counted_word is) s)
counted_is more (Some octets) is = let q = quoted_of 34 more octets is in (ap (λ (r : List ℕ). 34 ∷ r) q.0, q.1)

plain_is : (more : List ℕ) (read : Option (List ℕ)) → quoted_in 39 more ≡ read → WordIs (39 ∷ more) (plain_word read)
plain_is more None is = (inr refl, λ piece s. fails_as 39 more piece (ap plain_word is) s)
plain_is more (Some []) is = (inr refl, λ piece s. fails_as 39 more piece (ap plain_word is) s)
plain_is more (Some (first ∷ octets)) is = grind (arith, common_steps, quoted_of)

word_at : (octet : ℕ) (more : List ℕ) (digit double single : Bool) → is_ascii_digit octet ≡ digit → eqb octet 34 ≡ double → eqb octet 39 ≡ single
    → WordIs (octet ∷ more) (cond digit (number_word (numeral_of (octet ∷ more)))
    (cond double (counted_word (quoted_in 34 more)) (cond single (plain_word (quoted_in 39 more)) (Ok (a_label (octet ∷ more))))))
word_at octet more true double single d q p = number_is octet more (numeral_of (octet ∷ more)) d refl
word_at octet more false true single d q p = grind (arith, common_steps, eqb-true, counted_is)
word_at octet more false false true d q p = grind (arith, common_steps, eqb-true, plain_is)
word_at octet more false false false d q p = (refl, (d, eqb-false octet 34 q, eqb-false octet 39 p))

pub word_is : (part : List ℕ) → WordIs part (word_of part)
word_is [] = tt
word_is (octet ∷ more) = word_at octet more (is_ascii_digit octet) (eqb octet 34) (eqb octet 39) refl refl refl

-- if a part begins with a quote and isn't the text of a piece, and `read` is what the part is by `WordIs`, then `read` is the fault `BadIndex`
bad_index : (octet : ℕ) (more : List ℕ) (read : Result Word NameError) → IsBadIndex (octet ∷ more) → WordIs (octet ∷ more) read → read ≡ Err BadIndex
bad_index octet more (Ok (a_piece piece)) h is = absurd (h.1 piece is)
bad_index octet more (Ok (a_label label)) h is = absurd (elim h.0 [ inl double ↦ is.1.1 double | inr single ↦ is.1.2 single ])
bad_index octet more (Err BadNumber) h is = elim h.0 [ inl double ↦ (let no = rw double at is.0 in cc) | inr single ↦ (let no = rw single at is.0 in cc) ]
bad_index octet more (Err BadIndex) h is = refl
bad_index octet more (Err Unknown) h is = absurd is
bad_index octet more (Err TooLong) h is = absurd is

pub index_fails : (part : List ℕ) → IsBadIndex part → word_of part ≡ Err BadIndex
index_fails [] h = absurd h
index_fails (octet ∷ more) h = bad_index octet more (word_of (octet ∷ more)) h (word_is (octet ∷ more))
