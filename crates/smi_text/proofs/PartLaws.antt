-- Octets are a part (a lexeme or a gap) if and only if `part_of` reads them as this part.
use Rattle.std.proofs.{lemmas.Grind.common_steps, Math.Bool.and-false, lemmas.Bool.Decides.nat_tests, lemmas.List.Folds.list_all-append}
use Rattle.std.proofs.Common.{◌≡◌, ◌≢◌, ℕ, ◌⊎◌, Bool, true, false, cond, not, ◌&&◌, ◌||◌, Some, List, [], ◌∷◌, ◌++◌, refl, sym, ap, ◌∙◌, inl}
use Rattle.std.proofs.Common.{inr, arith, eqb, append_assoc, append-nil}
use Rattle.std.proofs.lemmas.Bool.{and_parts, and_from, or_cases, eqb-true, ne_eqb, false≢true, not-true}
use Rattle.std.specs.{List.list_all, Bool.then_some, Char.is_ascii_digit, Char.is_ascii_hexdigit, Char.is_ascii_lowercase, Char.is_ascii_uppercase}
use Rattle.smi_text.specs.{declared.lexer.class.Class.Class, declared.lexer.token.TokenKind.TokenKind}
use Rattle.smi_text.specs.declared.lexer.class.Class.TheVariants as C
use Rattle.smi_text.specs.declared.lexer.token.TokenKind.TheVariants as K
use Rattle.smi_text.specs.lexer.Lexeme.{IsComment, IsLexeme, IsLiteral, IsPart, IsRunOfHyphens, IsWord, Part, begins, gap, is_binary_digit, is_blank}
use Rattle.smi_text.specs.lexer.Lexeme.{is_hyphen, is_newline, is_remark, is_word_rest, lexeme}
use Rattle.smi_text.specs.lexer.LongestMatch.{class_of, hyphen_part, is_binary_letter, is_comment_rest, is_hex_letter, is_literal_rest, is_nothing}
use Rattle.smi_text.specs.lexer.LongestMatch.{is_other, is_remark_rest, is_sole, is_string_rest, literal_part, part_in, part_of, symbol_part, newlines}
use Rattle.smi_text.specs.lexer.LongestMatch.{literal_of}
use Rattle.smi_text.proofs.{Classes.class_is, LexedItems.newlines-cons, LexedItems.newlines-one, Marks.if-inv}
use Rattle.smi_text.proofs.Parts.{none_some, string_step, literal_reads, literal_exact}

-- ---- what reads as a part is one

-- if `then_some b part` is `other`, and `b` is true only if the octets `s` are the part `part`, then they are the part `other`
then_is : (b : Bool) (part other : Part) (s : List ℕ) → then_some b part ≡ Some other → (b ≡ true → IsPart part s) → IsPart other s
then_is b part other s h is = grind (arith, common_steps)

nothing_is : (s : List ℕ) → is_nothing s ≡ true → s ≡ []
nothing_is s h = grind (arith, common_steps)

sole_is : (test : ℕ → Bool) (s : List ℕ) → is_sole test s ≡ true → (c : ℕ) × (s ≡ c ∷ []) × (test c ≡ true)
sole_is test [] h = absurd (false≢true h)
sole_is test (c ∷ cs) h = grind (arith, common_steps, and_parts, nothing_is)

-- the rest of a string, after its opening quote, is octets other than a quote and then the closing quote
string_body : (s : List ℕ) → is_string_rest s ≡ true → (body : List ℕ) × (s ≡ body ++ 34 ∷ []) × (list_all (is_other 34) body ≡ true)
string_body [] h = absurd (false≢true h)
string_body (c ∷ cs) h =
    elim (if-inv (eqb c 34) (is_nothing cs) (is_string_rest cs) true h) [
      | inl p ↦ ([], rw (eqb-true c 34 p.0, nothing_is cs p.1) refl, refl)
      | inr p ↦ let r = string_body cs p.1 in (c ∷ r.0, ap (λ s. c ∷ s) r.1, rw p.0 r.2)
    ]

-- the rest of a literal, after its opening quote, is digits, the closing quote and a letter
literal_body : (is_digit is_letter : ℕ → Bool) (s : List ℕ) → is_literal_rest is_digit is_letter s ≡ true
    → (digits : List ℕ) × (letter : ℕ) × (s ≡ digits ++ 39 ∷ letter ∷ []) × (list_all is_digit digits ≡ true) × (is_letter letter ≡ true)
literal_body is_digit is_letter [] h = absurd (false≢true h)
literal_body is_digit is_letter (c ∷ cs) h =
    elim (if-inv (eqb c 39) (is_sole is_letter cs) (is_digit c && is_literal_rest is_digit is_letter cs) true h) [
      | inl p ↦ let last = sole_is is_letter cs p.1 in ([], last.0, rw (eqb-true c 39 p.0) (ap (λ s. 39 ∷ s) last.1), refl, last.2)
      | inr p ↦
          let both = and_parts (is_digit c) (is_literal_rest is_digit is_letter cs) p.1 in
          let r = literal_body is_digit is_letter cs both.1 in
          (c ∷ r.0, r.1, ap (λ s. c ∷ s) r.2, and_from (is_digit c) (list_all is_digit r.0) both.0 r.3, r.4)
    ]

-- an opening quote and the rest of a literal are a literal
literal_is : (is_digit : ℕ → Bool) (upper lower : ℕ) (s : List ℕ) → is_literal_rest is_digit (λ c. eqb c upper || eqb c lower) s ≡ true
    → IsLiteral is_digit upper lower (39 ∷ s)
literal_is is_digit upper lower s h = grind (arith, common_steps, literal_body, or_cases, eqb-true, append_assoc)

literal_part_is : (s : List ℕ) (part : Part) → literal_part s ≡ Some part → IsPart part (39 ∷ s)
literal_part_is s part h = grind (arith, common_steps, if-inv, then_is, literal_is)

-- ---- comments
-- if `b` is false or octets don't begin with a hyphen, then `b` is false or a prefix of them doesn't begin with one
begins_prefix : (b : Bool) (prefix rest : List ℕ) → (b && begins is_hyphen (prefix ++ rest)) ≡ false → (b && begins is_hyphen prefix) ≡ false
begins_prefix b prefix rest h = grind (arith, common_steps, and-false)

-- if octets begin with two hyphens, and all after the first are hyphens, then they are a run of hyphens
run_is : (c : ℕ) (cs : List ℕ) → (is_hyphen c && begins is_hyphen cs) ≡ true → list_all is_hyphen cs ≡ true → IsRunOfHyphens (c ∷ cs)
run_is c cs two all = grind (arith, common_steps, and-false, and_from, and_parts)

remark_body : (s : List ℕ) → is_remark_rest s ≡ true
    → (remark closing : List ℕ) × (s ≡ remark ++ closing) × (is_remark remark ≡ true) × ((closing ≡ []) ⊎ IsRunOfHyphens closing)
remark_body [] h = ([], [], refl, refl, inl refl)
remark_body (c ∷ cs) h =
    let run = is_hyphen c && begins is_hyphen cs in
    elim (if-inv (is_newline c) false (cond run (list_all is_hyphen cs) (is_remark_rest cs)) true h) [
      | inl p ↦ absurd (false≢true p.1)
      | inr p ↦ elim (if-inv run (list_all is_hyphen cs) (is_remark_rest cs) true p.1) [
        | inl q ↦ ([], c ∷ cs, refl, refl, inr (run_is c cs q.0 q.1))
        | inr q ↦
            let r = remark_body cs q.1 in
            let alone = begins_prefix (is_hyphen c) r.0 r.1 (rw r.2 at q.0) in
            (c ∷ r.0, r.1, ap (λ s. c ∷ s) r.2, rw (p.0, alone) r.3, r.4)
      ]
    ]

comment_body : (s : List ℕ) → is_comment_rest s ≡ true
    → (opening rest : List ℕ) × (s ≡ opening ++ rest) × (list_all is_hyphen opening ≡ true) × (is_remark_rest rest ≡ true)
comment_body [] h = ([], [], refl, refl, refl)
comment_body (c ∷ cs) h =
    elim (if-inv (is_hyphen c) (is_comment_rest cs) (is_remark_rest (c ∷ cs)) true h) [
      | inl p ↦
          let r = comment_body cs p.1 in
          (c ∷ r.0, r.1, ap (λ s. c ∷ s) r.2, and_from (is_hyphen c) (list_all is_hyphen r.0) p.0 r.3, r.4)
      | inr p ↦ ([], c ∷ cs, refl, refl, p.1)
    ]

pub two_hyphens : (s : List ℕ) → is_comment_rest s ≡ true → IsComment (45 ∷ 45 ∷ s)
two_hyphens s h =
    let prefix = comment_body s h in
    let back = remark_body prefix.1 prefix.4 in
    let all : s ≡ prefix.0 ++ back.0 ++ back.1 = prefix.2 ∙ ap (λ t. prefix.0 ++ t) back.2 ∙ sym (append_assoc prefix.0 back.0 back.1) in
    (45 ∷ 45 ∷ prefix.0, back.0, back.1, ap (λ t. 45 ∷ 45 ∷ t) all, (omega arith, prefix.3), back.3, back.4)

-- a text with a first octet isn't empty
some_octets : (c : ℕ) (cs : List ℕ) → c ∷ cs ≢ []
some_octets c cs h = cc

hyphen_part_is : (s : List ℕ) (part : Part) → hyphen_part s ≡ Some part → IsPart part (45 ∷ s)
hyphen_part_is [] part h = absurd (none_some part h)
hyphen_part_is (c ∷ cs) part h =
    let number = list_all is_ascii_digit (c ∷ cs) in
    elim (if-inv (is_hyphen c) (then_some (is_comment_rest cs) gap) (then_some number (lexeme K.Number)) (Some part) h) [
      | inl p ↦ then_is (is_comment_rest cs) gap part (45 ∷ c ∷ cs) p.1 (λ e. rw (eqb-true c 45 p.0) (inr (two_hyphens cs e)))
      | inr p ↦ then_is number (lexeme K.Number) part (45 ∷ c ∷ cs) p.1 (λ e. (45 ∷ [], c ∷ cs, refl, inr refl, some_octets c cs, e))
    ]

-- if `c` is the symbol `kind`, and `symbol_part kind s` is `part`, then `c` followed by `s` is this part
symbol_part_is : (kind : TokenKind) (c : ℕ) (s : List ℕ) (part : Part) → IsLexeme kind (c ∷ []) → symbol_part kind s ≡ Some part → IsPart part (c ∷ s)
symbol_part_is kind c [] part first h = then_is true (lexeme kind) part (c ∷ []) h (λ _. first)
symbol_part_is K.Colon c (d ∷ ds) part first h = grind (arith, common_steps, then_is, and_parts, sole_is, eqb-true)
symbol_part_is K.Dot c (d ∷ ds) part first h = grind (arith, common_steps, then_is, and_parts, eqb-true, nothing_is)
symbol_part_is _ c (d ∷ ds) part first h = absurd (none_some part h)

class_part_is : (class : Class) (c : ℕ) (s : List ℕ) (part : Part) → class_of c ≡ class → part_in class s ≡ Some part → IsPart part (c ∷ s)
class_part_is C.Blank c s part is h =
    then_is (is_nothing s) gap part (c ∷ s) h (λ r. inl (c, ap (λ t. c ∷ t) (nothing_is s r), class_is c C.Blank is))
class_part_is C.Lowercase c s part is h = then_is (is_word_rest s) (lexeme K.Lower) part (c ∷ s) h (λ r. (c, s, refl, class_is c C.Lowercase is, r))
class_part_is C.Uppercase c s part is h = then_is (is_word_rest s) (lexeme K.Upper) part (c ∷ s) h (λ r. (c, s, refl, class_is c C.Uppercase is, r))
class_part_is C.Digit c s part is h = grind (arith, common_steps, then_is, some_octets, and_from, class_is)
class_part_is C.Hyphen c s part is h = rw (class_is c C.Hyphen is) (hyphen_part_is s part h)
class_part_is C.Quote c s part is h = grind (arith, common_steps, then_is, string_body, class_is)
class_part_is C.Apostrophe c s part is h = rw (class_is c C.Apostrophe is) (literal_part_is s part h)
class_part_is (C.Symbol kind) c s part is h = symbol_part_is kind c s part (class_is c (C.Symbol kind) is) h
class_part_is C.Other c s part is h = absurd (none_some part h)

pub part_is : (s : List ℕ) (part : Part) → part_of s ≡ Some part → IsPart part s
unfolding part_of
part_is [] part h = absurd (none_some part h)
part_is (c ∷ cs) part h = class_part_is (class_of c) c cs part refl h

-- ---- what is a part reads as one

pub blank_class : (c : ℕ) → is_blank c ≡ true → class_of c ≡ C.Blank
blank_class c h = rw h refl

lower_class : (c : ℕ) → is_ascii_lowercase c ≡ true → class_of c ≡ C.Lowercase
lower_class c h = grind (arith, nat_tests)

upper_class : (c : ℕ) → is_ascii_uppercase c ≡ true → class_of c ≡ C.Uppercase
upper_class c h = grind (arith, nat_tests)

digit_class : (c : ℕ) → is_ascii_digit c ≡ true → class_of c ≡ C.Digit
digit_class c h = grind (arith, nat_tests)

-- if `octet` fails the test `p`, and `c` passes it, then `c` isn't `octet`
other : (p : ℕ → Bool) (octet : ℕ) → p octet ≡ false → (c : ℕ) → p c ≡ true → eqb c octet ≡ false
other p octet fail c pass = ne_eqb c octet (λ e. false≢true (sym fail ∙ ap p (sym e) ∙ pass))

all_other : (p : ℕ → Bool) (octet : ℕ) → p octet ≡ false → (s : List ℕ) → list_all p s ≡ true → list_all (is_other octet) s ≡ true
all_other p octet fail [] h = refl
all_other p octet fail (c ∷ cs) h = grind (arith, common_steps, and_parts, other, all_other p octet fail cs)

-- octets other than a quote, and then a quote, read as the rest of a string
string_reads : (body : List ℕ) → list_all (is_other 34) body ≡ true → is_string_rest (body ++ 34 ∷ []) ≡ true
string_reads [] h = refl
string_reads (c ∷ cs) h = grind (arith, common_steps, and_parts, string_step, string_reads cs)

-- `H` and `h` are letters of hexadecimal literals
hex_letter : (c : ℕ) → (c ≡ 72) ⊎ (c ≡ 104) → is_hex_letter c ≡ true
hex_letter c h = grind arith

binary_letter : (c : ℕ) → (c ≡ 66) ⊎ (c ≡ 98) → (is_hex_letter c ≡ false) × (is_binary_letter c ≡ true)
binary_letter c h = grind arith

literal_reads_of : (digits : List ℕ) (letter : ℕ) → list_all (is_other 39) digits ≡ true
    → literal_part (digits ++ 39 ∷ [] ++ letter ∷ []) ≡ literal_of digits letter
literal_reads_of digits letter h = rw append_assoc (literal_reads digits (letter ∷ []) h ∙ literal_exact digits letter)

lexeme_of_kind : (kind : TokenKind) (s : List ℕ) → IsLexeme kind s → part_of s ≡ Some (lexeme kind)
unfolding part_of
lexeme_of_kind K.Lower s (c, rest, is, first, others) = rw (is, lower_class c first, others) refl
lexeme_of_kind K.Upper s (c, rest, is, first, others) = rw (is, upper_class c first, others) refl
lexeme_of_kind K.Number s (sign, [], is, signs, some, all) = absurd (some refl)
lexeme_of_kind K.Number s (sign, d ∷ ds, is, inl none, some, all) = grind (arith, common_steps, and_parts, digit_class)
lexeme_of_kind K.Number s (sign, d ∷ ds, is, inr minus, some, all) = grind (arith, common_steps, other, and_parts)
lexeme_of_kind K.Text s (body, is, others) = rw (is, string_reads body others) refl
lexeme_of_kind K.Hex s (digits, letter, is, all, case) = grind (arith, common_steps, literal_reads_of, all_other, hex_letter)
lexeme_of_kind K.Binary s (digits, letter, is, all, case) = grind (arith, common_steps, binary_letter, literal_reads_of, all_other, and-false)
lexeme_of_kind _ s h = rw h refl

-- what closes a remark, if anything does, consists of hyphens
all_hyphens : (closing : List ℕ) → (closing ≡ []) ⊎ IsRunOfHyphens closing → list_all is_hyphen closing ≡ true
all_hyphens closing h = grind (arith, common_steps)

-- a run of hyphens begins with two, and all others after them are hyphens too
run_opens : (run : List ℕ) → IsRunOfHyphens run → (more : List ℕ) × (run ≡ 45 ∷ 45 ∷ more) × (list_all is_hyphen more ≡ true)
run_opens [] h = absurd (omega (arith, h.0))
run_opens (c ∷ []) h = absurd (omega (arith, h.0))
run_opens (c ∷ d ∷ more) h = grind (arith, common_steps, and_parts, eqb-true)

hyphens_read : (closing : List ℕ) → (closing ≡ []) ⊎ IsRunOfHyphens closing → is_remark_rest closing ≡ true
hyphens_read closing h = grind (arith, common_steps, run_opens)

remark_octet_reads : (c : ℕ) (cs closing : List ℕ) (b : Bool) → (is_hyphen c && begins is_hyphen (cs ++ closing)) ≡ b
    → not (is_hyphen c && begins is_hyphen cs) ≡ true
    → list_all is_hyphen closing ≡ true → is_remark_rest (cs ++ closing) ≡ true
    → cond b (list_all is_hyphen (cs ++ closing)) (is_remark_rest (cs ++ closing)) ≡ true
remark_octet_reads c cs closing b is alone run rest = grind (arith, common_steps)

remark_reads : (remark closing : List ℕ) → is_remark remark ≡ true → (closing ≡ []) ⊎ IsRunOfHyphens closing → is_remark_rest (remark ++ closing) ≡ true
remark_reads [] closing remark_is closes = hyphens_read closing closes
remark_reads (c ∷ cs) closing remark_is closes =
    grind (arith, common_steps, and_parts, not-true, remark_octet_reads, all_hyphens, remark_reads cs closing)

hyphens_before : (prefix rest : List ℕ) → list_all is_hyphen prefix ≡ true → is_comment_rest rest ≡ true → is_comment_rest (prefix ++ rest) ≡ true
hyphens_before [] rest all h = h
hyphens_before (c ∷ cs) rest all h = grind (arith, common_steps, and_parts, hyphens_before cs rest)

comment_reads : (remark closing : List ℕ) → is_remark remark ≡ true → (closing ≡ []) ⊎ IsRunOfHyphens closing → is_comment_rest (remark ++ closing) ≡ true
comment_reads [] closing remark_is closes = rw append-nil at (hyphens_before closing [] (all_hyphens closing closes) refl)
comment_reads (c ∷ cs) closing remark_is closes = grind (arith, common_steps, and_parts, remark_reads, comment_reads cs closing)

pub is_part : (part : Part) (s : List ℕ) → IsPart part s → part_of s ≡ Some part
unfolding part_of
is_part gap s (inl (c, is, blank)) = rw (is, blank) refl
is_part gap s (inr (opening, remark, closing, is, run, remark_is, closes)) =
    grind (arith, common_steps, run_opens, append_assoc, hyphens_before, comment_reads)
is_part (lexeme kind) s h = lexeme_of_kind kind s h

-- a comment begins with two hyphens
pub comment_opens : (c : ℕ) (s : List ℕ) → IsComment (c ∷ s) → (c ≡ 45) × (begins is_hyphen s ≡ true)
comment_opens c s (opening, remark, closing, is, run, remark_is, closes) = grind (arith, common_steps, run_opens)

-- ---- lines

-- octets other than newlines contain no newline
others_one_line : (s : List ℕ) → list_all (is_other 10) s ≡ true → newlines s ≡ 0
others_one_line [] h = refl
others_one_line (c ∷ cs) h = grind (arith, common_steps, and_parts, newlines-cons, newlines-one, not-true, others_one_line cs)

word_rest_other : (s : List ℕ) → is_word_rest s ≡ true → list_all (is_other 10) s ≡ true
word_rest_other [] h = refl
word_rest_other (c ∷ cs) h = grind (arith, common_steps, and_parts, word_rest_other cs)

word_one_line : (is_first : ℕ → Bool) → is_first 10 ≡ false → (s : List ℕ) → IsWord is_first s → newlines s ≡ 0
word_one_line is_first fail s (c, rest, is, first, others) = grind (arith, common_steps, others_one_line, other, word_rest_other)

literal_one_line : (is_digit : ℕ → Bool) (upper lower : ℕ) → is_digit 10 ≡ false → is_other 10 upper ≡ true → is_other 10 lower ≡ true
    → (s : List ℕ) → IsLiteral is_digit upper lower s → newlines s ≡ 0
literal_one_line is_digit upper lower fail up low s (digits, letter, is, all, case) =
    grind (arith, common_steps, others_one_line, list_all-append, all_other)

-- a token that isn't a string contains no newline
pub one_line : (kind : TokenKind) → (kind ≡ K.Text → ⊥) → (s : List ℕ) → IsLexeme kind s → newlines s ≡ 0
one_line K.Lower other s h = word_one_line is_ascii_lowercase refl s h
one_line K.Upper other s h = word_one_line is_ascii_uppercase refl s h
one_line K.Number other s (sign, digits, is, signs, some, all) = grind (arith, common_steps, others_one_line, list_all-append, all_other)
one_line K.Text other s h = absurd (other refl)
one_line K.Hex other s h = literal_one_line is_ascii_hexdigit 72 104 refl refl refl s h
one_line K.Binary other s h = literal_one_line is_binary_digit 66 98 refl refl refl s h
one_line _ other s h = rw h refl

remark_other : (s : List ℕ) → is_remark s ≡ true → list_all (is_other 10) s ≡ true
remark_other [] h = refl
remark_other (c ∷ cs) h = grind (arith, common_steps, and_parts, and_from, remark_other cs)

pub comment_one_line : (s : List ℕ) → IsComment s → newlines s ≡ 0
comment_one_line s (opening, remark, closing, is, run, remark_is, closes) =
    grind (arith, common_steps, all_other, all_hyphens, others_one_line, list_all-append, remark_other)
