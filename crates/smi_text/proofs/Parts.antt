-- What a scan finds, together with the octet before it, is the longest prefix that is a part: a lexeme or a gap.
use Rattle.std.proofs.{lemmas.Grind.common_steps, lemmas.Bool.and_parts, lemmas.Bool.cases_lt, lemmas.Bool.not-true, Math.Bool.and-false}
use Rattle.std.proofs.{Math.Bool.and-true, Math.Bool.and_assoc, Math.Seq.take-add, lemmas.List.Folds.list_all-append}
use Rattle.std.proofs.Common.{◌≡◌, ℕ, zero, suc, ◌+◌, ◌-◌, ◌<◌, ◌≤◌, Bool, true, false, cond, if◌then◌else◌, ◌&&◌, ◌⊎◌, Option, Some, None, List, []}
use Rattle.std.proofs.Common.{◌∷◌, ◌++◌, length, get_or, take, drop, refl, sym, ap, ◌∙◌, subst, inl, inr, arith, eqb, add-one, length-drop}
use Rattle.std.specs.{List.list_all, Bool.then_some, Option.option_map, Char.is_ascii_hexdigit}
use Rattle.std.proofs.lemmas.List.{drop_all, take-append-drop, take_all, take-take, length-take}
use Rattle.smi_text.specs.{declared.lexer.token.TokenKind.TokenKind, lexer.Lexeme.Part, lexer.Lexeme.lexeme, lexer.Lexeme.is_binary_digit}
use Rattle.smi_text.specs.declared.lexer.token.TokenKind.TheVariants.{Text, Hex, Binary}
use Rattle.smi_text.specs.lexer.LongestMatch.{HasNoLexeme, IsFirstIndex, IsLexemePrefix, IsLongestPassing, IsPartPrefix, is_other, is_nothing, is_sole}
use Rattle.smi_text.specs.lexer.LongestMatch.{is_string_rest, is_literal_rest, string_part, literal_part, literal_of, is_hex_letter, is_binary_letter}
use Rattle.smi_text.specs.declared.lexer.class.Class.{Class}
use Rattle.smi_text.specs.lexer.LongestMatch.{class_of, part_in, part_of}
use Rattle.smi_text.proofs.Scans.{rest_at, longest_after, goes_on_past}

-- if `reading` returns `part` when `test` passes, and None otherwise, then the longest prefix that passes is the longest that reads as a part
pub part_prefix : (test : List ℕ → Bool) (reading : List ℕ → Option Part) (part : Part) (text : List ℕ) (n : ℕ)
    → ((s : List ℕ) → reading s ≡ then_some (test s) part) → IsLongestPassing test text n → IsPartPrefix reading text part n
part_prefix test reading part text n read prefix = grind (arith, common_steps)

pub none_some : (part : Part) → ◌≡◌ {A = Option Part} None (Some part) → ⊥
none_some part h = cc

-- if `reading` returns `part` when `test` passes, and None otherwise, and no prefix passes, then no prefix reads as a lexeme
pub no_prefix : (test : List ℕ → Bool) (reading : List ℕ → Option Part) (part : Part) (text : List ℕ)
    → ((s : List ℕ) → reading s ≡ then_some (test s) part) → ((m : ℕ) → test (take m text) ≡ false) → HasNoLexeme reading text
no_prefix test reading part text read fails kind m h = none_some (lexeme kind) (sym (read (take m text) ∙ ap (λ b. then_some b part) (fails m)) ∙ h)

-- if all octets pass a test, then so do the octets of each prefix
pub list_all-take : (p : ℕ → Bool) (m : ℕ) (s : List ℕ) → list_all p s ≡ true → list_all p (take m s) ≡ true
list_all-take p m s h =
    (and_parts (list_all p (take m s)) (list_all p (drop m s)) (sym (list_all-append p (take m s) (drop m s)) ∙ ap (list_all p) (take-append-drop m s) ∙ h)).0

pub other_not : (octet c : ℕ) → is_other octet c ≡ true → eqb c octet ≡ false
other_not octet c h = not-true (eqb c octet) h

-- ---- strings

-- if `c` isn't a quote, then `c` and `s` are the rest of a string if and only if `s` is
pub string_step : (c : ℕ) (s : List ℕ) → is_other 34 c ≡ true → is_string_rest (c ∷ s) ≡ is_string_rest s
string_step c s h = ap (λ b. cond b (is_nothing s) (is_string_rest s)) (other_not 34 c h)

pub string_open : (s : List ℕ) → list_all (is_other 34) s ≡ true → is_string_rest s ≡ false
string_open [] h = refl
string_open (c ∷ cs) h = grind (arith, common_steps, and_parts, string_step, string_open cs)

pub string_none : (text : List ℕ) → IsFirstIndex 34 text None → IsLexemePrefix string_part text None
string_none text h = no_prefix is_string_rest string_part (lexeme Text) text (λ s. refl) (λ m. string_open (take m text) (list_all-take (is_other 34) m text h))

pub quote_alone : (s : List ℕ) → IsLongestPassing is_string_rest (34 ∷ s) 1
quote_alone s = record { within = omega arith; passes = refl; longest = more s }
  where
    more : (s : List ℕ) (m : ℕ) → 1 < m → m ≤ length (34 ∷ s) → is_string_rest (take m (34 ∷ s)) ≡ false
    more s zero above within = absurd (omega arith)
    more s (suc zero) above within = absurd (omega arith)
    more [] (suc (suc m)) above within = absurd (omega arith)
    more (c ∷ cs) (suc (suc m)) above within = refl

pub string_some : (text : List ℕ) (i : ℕ) → IsFirstIndex 34 text (Some i) → IsLexemePrefix string_part text (Some (Text, i + 1))
string_some text i h =
    part_prefix is_string_rest string_part (lexeme Text) text (i + 1) (λ s. refl)
    (longest_after is_string_rest is_string_rest text i 1 (omega (arith, h.0))
    (goes_on_past is_string_rest (is_other 34) string_step i text (omega (arith, h.0)) h.2)
    (subst (λ s. IsLongestPassing is_string_rest s 1) (sym (rest_at text i h.0 ∙ ap (λ c. c ∷ drop (i + 1) text) h.1)) (quote_alone (drop (i + 1) text))))

-- ---- literals

-- if no octet of `s` is a quote, then `s` isn't the rest of a literal
pub literal_open : (is_digit is_letter : ℕ → Bool) (s : List ℕ) → list_all (is_other 39) s ≡ true → is_literal_rest is_digit is_letter s ≡ false
literal_open is_digit is_letter [] h = refl
literal_open is_digit is_letter (c ∷ cs) h = grind (arith, common_steps, and_parts, other_not, and-false, literal_open is_digit is_letter cs)

-- if `digits` has no quote, then `digits`, a quote and `s` are the rest of a literal if and only if all digits pass, and `s` is one letter that passes
pub literal_closed : (is_digit is_letter : ℕ → Bool) (digits s : List ℕ) → list_all (is_other 39) digits ≡ true
    → is_literal_rest is_digit is_letter (digits ++ 39 ∷ s) ≡ (list_all is_digit digits && is_sole is_letter s)
literal_closed is_digit is_letter [] s h = refl
literal_closed is_digit is_letter (c ∷ cs) s h = grind (arith, common_steps, and_parts, other_not, and_assoc, literal_closed is_digit is_letter cs s)

-- the literal with the digits `digits` and the octets `s` after its second quote, as a part; None if these make no literal
abbrev pub literal_after : List ℕ → List ℕ → Option Part
literal_after digits s =
    if list_all is_ascii_hexdigit digits && is_sole is_hex_letter s then Some (lexeme Hex)
    else then_some (list_all is_binary_digit digits && is_sole is_binary_letter s) (lexeme Binary)

pub literal_reads : (digits s : List ℕ) → list_all (is_other 39) digits ≡ true → literal_part (digits ++ 39 ∷ s) ≡ literal_after digits s
literal_reads digits s h = grind (arith, common_steps, literal_closed)

pub literal_exact : (digits : List ℕ) (letter : ℕ) → literal_after digits (letter ∷ []) ≡ literal_of digits letter
literal_exact digits letter = rw (and-true (is_hex_letter letter), and-true (is_binary_letter letter)) refl

literal_unended : (digits : List ℕ) → literal_after digits [] ≡ None
literal_unended digits = rw (and-false (list_all is_ascii_hexdigit digits), and-false (list_all is_binary_digit digits)) refl

literal_unclosed : (s : List ℕ) → list_all (is_other 39) s ≡ true → literal_part s ≡ None
literal_unclosed s h = rw (literal_open is_ascii_hexdigit is_hex_letter s h, literal_open is_binary_digit is_binary_letter s h) refl

-- `text` begins after the first quote of a literal. If the second quote is at index `i`, then `literal_part` reads a prefix of more than `i` octets as the
-- literal, if any, that the octets before this quote and those after it make.
literal_long : (k i : ℕ) (text : List ℕ) → IsFirstIndex 39 text (Some i)
    → literal_part (take (i + suc k) text) ≡ literal_after (take i text) (take k (drop (i + 1) text))
literal_long k i text h = grind (arith, common_steps, take-add, rest_at, literal_reads)

-- if the second quote is at index `i`, then a prefix that is the rest of a literal ends after this quote
literal_at : (text : List ℕ) (i : ℕ) → IsFirstIndex 39 text (Some i) → (m : ℕ)
    → (literal_part (take m text) ≡ None)
    ⊎ ((k : ℕ) × (m ≡ i + suc k) × (literal_part (take m text) ≡ literal_after (take i text) (take k (drop (i + 1) text))))
literal_at text i h m =
    elim (cases_lt i m) [
      | inl long ↦
          let offset : m ≡ i + suc (m - (i + 1)) = omega arith in
          inr (m - (i + 1), offset, ap (λ j. literal_part (take j text)) offset ∙ literal_long (m - (i + 1)) i text h)
      | inr short ↦ inl (literal_unclosed (take m text) (rw (take-take m i text short) at (list_all-take (is_other 39) m (take i text) h.2)))
    ]

pub literal_none : (text : List ℕ) → IsFirstIndex 39 text None → IsLexemePrefix literal_part text None
literal_none text h kind m is = none_some (lexeme kind) (sym (literal_unclosed (take m text) (list_all-take (is_other 39) m text h)) ∙ is)

-- if the text ends with the second quote, then no prefix is the rest of a literal
pub literal_ends : (text : List ℕ) (i : ℕ) → IsFirstIndex 39 text (Some i) → i + 1 ≡ length text → IsLexemePrefix literal_part text None
literal_ends text i h last kind m is = grind (arith, common_steps, literal_at, none_some, drop_all, take_all, literal_unended)

-- of the octets `c` and `cs` after the second quote, no prefix makes a literal but `c` by itself
literal_letter : (digits : List ℕ) (c : ℕ) (cs : List ℕ) (k : ℕ) → (literal_after digits (take k (c ∷ cs)) ≡ None) ⊎ (take k (c ∷ cs) ≡ c ∷ [])
literal_letter digits c cs zero = inl (literal_unended digits)
literal_letter digits c cs (suc zero) = inr refl
literal_letter digits c [] (suc (suc k)) = inr refl
literal_letter digits c (d ∷ ds) (suc (suc k)) = grind (arith, common_steps, and-false, literal_unended)

-- If the second quote is at index `i`, and `found` is the kind of a literal with the digits before it and the octet after it, then the longest prefix that is
-- the rest of a literal has `i + 2` octets. If `found` is None, then no prefix is one.
pub literal_prefix : (text : List ℕ) (i : ℕ) → IsFirstIndex 39 text (Some i) → i + 1 < length text
    → (digits : List ℕ) → digits ≡ take i text → (found : Option TokenKind) → option_map lexeme found ≡ literal_of digits (get_or text (i + 1) 0)
    → IsLexemePrefix literal_part text (option_map (λ kind. (kind, i + 2)) found)
literal_prefix text i h next digits prefix found kind_is = by_kind found (rw prefix at kind_is)
  where
    rest : (k : ℕ) → literal_after (take i text) (take k (drop (i + 1) text))
        ≡ literal_after (take i text) (take k (get_or text (i + 1) 0 ∷ drop ((i + 1) + 1) text))
    rest k = ap (λ s. literal_after (take i text) (take k s)) (rest_at text (i + 1) next)

    -- a prefix that is the rest of a literal is the one of `i + 2` octets
    each : (m : ℕ) → (literal_part (take m text) ≡ None)
        ⊎ ((m ≤ length text → m ≡ i + 2) × (literal_part (take m text) ≡ literal_of (take i text) (get_or text (i + 1) 0)))
    each m =
        elim (literal_at text i h m) [
          | inl none ↦ inl none
          | inr p ↦ elim (literal_letter (take i text) (get_or text (i + 1) 0) (drop ((i + 1) + 1) text) p.0) [
            | inl none ↦ inl (p.2 ∙ rest p.0 ∙ none)
            | inr one ↦ inr (
              λ within. omega (arith, p.1, ap length one, length-take p.0 (get_or text (i + 1) 0 ∷ drop ((i + 1) + 1) text), length-drop ((i + 1) + 1) text),
              p.2 ∙ rest p.0 ∙ ap (literal_after (take i text)) one ∙ literal_exact (take i text) (get_or text (i + 1) 0),
            )
          ]
        ]

    by_kind : (found : Option TokenKind) → option_map lexeme found ≡ literal_of (take i text) (get_or text (i + 1) 0)
        → IsLexemePrefix literal_part text (option_map (λ kind. (kind, i + 2)) found)
    by_kind None none = λ kind m is. elim (each m) [ inl e ↦ none_some (lexeme kind) (sym e ∙ is) | inr p ↦ none_some (lexeme kind) (none ∙ sym p.1 ∙ is) ]
    by_kind (Some kind) some = record {
      within = omega arith;
      reads = literal_long 1 i text h ∙ rest 1 ∙ literal_exact (take i text) (get_or text (i + 1) 0) ∙ sym some;
      longest = λ m above within. elim (each m) [ inl e ↦ e | inr p ↦ absurd (omega (arith, p.0 within)) ];
    }

-- ---- with the first octet

-- if `reading` reads `c` followed by any octets as `inner` reads these octets, and the first `n` octets of `cs` are the longest prefix that `inner` reads as a
-- part, then `c` and these `n` octets are the longest prefix of `c` and `cs` that `reading` reads as a part
pub prefix_cons : (reading inner : List ℕ → Option Part) (c : ℕ) (cs : List ℕ) (part : Part) (n : ℕ) → ((s : List ℕ) → reading (c ∷ s) ≡ inner s)
    → IsPartPrefix inner cs part n → IsPartPrefix reading (c ∷ cs) part (n + 1)
prefix_cons reading inner c cs part n read prefix = rw (add-one n) (record {
  within = omega (arith, prefix.within);
  reads = read (take n cs) ∙ prefix.reads;
  longest = longer;
})
  where
    longer : (m : ℕ) → suc n < m → m ≤ suc (length cs) → reading (take m (c ∷ cs)) ≡ None
    longer zero above within = absurd (omega arith)
    longer (suc m) above within = read (take m cs) ∙ prefix.longest m (omega arith) (omega arith)

pub none_after_first : (c : ℕ) (cs : List ℕ) (class : Class) → class ≡ class_of c → HasNoLexeme (part_in class) cs → HasNoLexeme part_of (c ∷ cs)
unfolding part_of
none_after_first c cs class of none kind zero is = none_some (lexeme kind) is
none_after_first c cs class of none kind (suc m) is = none kind m (rw of is)

pub prefix_after_first : (c : ℕ) (cs : List ℕ) (class : Class) → class ≡ class_of c → (part : Part) (n : ℕ) → IsPartPrefix (part_in class) cs part n
    → IsPartPrefix part_of (c ∷ cs) part (n + 1)
unfolding part_of
prefix_after_first c cs class of part n prefix = prefix_cons part_of (part_in class) c cs part n (λ s. rw of refl) prefix

pub no_lexeme_of_nothing : HasNoLexeme part_of []
unfolding part_of
no_lexeme_of_nothing = grind (arith, common_steps)
