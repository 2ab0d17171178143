-- The text of a type is the tokens that it has in a module text, with a blank between each two (`own_tokens`). A mark is what the grammar demands of one
-- token.
use Rattle.std.proofs.Common.{arith, ◌≡◌, ℕ, List, [], ◌∷◌, ◌++◌, codes, Option, Some, None, refl, sym, ◌∙◌, ap, append_assoc, append-nil}
use Rattle.std.proofs.lemmas.Grind.{common_steps, flat_map-append}
use Rattle.std.specs.List.{flat_map}
use Rattle.smi_text.specs.{lexer.Token.Lexeme, declared.trees.tree.NamedNumber.NamedNumber, declared.trees.tree.Range.Range}
use Rattle.smi_text.specs.{declared.trees.tree.TokenText.TokenText, declared.trees.tree.Refinement.Refinement, declared.trees.tree.Syntax.Syntax}
use Rattle.smi_text.specs.declared.lexer.token.TokenKind.TheVariants as K
use Rattle.smi_text.specs.trees.Mark.{Mark, spelled, on_line, sign, MarksToken, TokensMatch}
use Rattle.smi_text.specs.trees.Spelling.{bound, of_list, of_named_number, of_range, of_ranges, of_refinement, of_option, of_syntax}
use Rattle.smi_text.specs.declared.trees.tree.Refinement.TheVariants as R
use Rattle.smi_text.specs.declared.trees.tree.Syntax.TheVariants as T
use Rattle.smi_show.specs.details.Syntax.{named_number_text, numbers_text, high_text, range_text, ranges_text, refinement_text, refined_text}
use Rattle.smi_show.specs.details.Syntax.{syntax_text}
use Rattle.smi_show.specs.private.Tokens.{AreTokensOf, joined_by_blanks}

-- the text that a token must have to match the mark
abbrev text_of : Mark → List ℕ
text_of (spelled k x ok) = x
text_of (on_line n m) = text_of m

-- the texts of marks, each after a blank
abbrev spaced : List Mark → List ℕ
spaced ms = flat_map (λ m. codes " " ++ text_of m) ms

-- the texts of marks, with one blank between two
abbrev joined : List Mark → List ℕ
joined [] = []
joined (m ∷ ms) = text_of m ++ spaced ms

token_text : (m : Mark) (t : Lexeme) → MarksToken m t → t.text ≡ text_of m
token_text (spelled k x ok) t h = h.1
token_text (on_line n m) t h = token_text m t h.0

tokens_spaced : (ms : List Mark) (ts : List Lexeme) → TokensMatch ms ts [] → flat_map (λ t. codes " " ++ t.text) ts ≡ spaced ms
tokens_spaced [] [] h = refl
tokens_spaced [] (t ∷ ts) h = cc
tokens_spaced (m ∷ ms) [] h = absurd h
tokens_spaced (m ∷ ms) (t ∷ ts) h = grind (arith, common_steps, tokens_spaced ms ts h.1, token_text)

tokens_joined : (ms : List Mark) (ts : List Lexeme) → TokensMatch ms ts [] → joined_by_blanks ts ≡ joined ms
tokens_joined [] [] h = refl
tokens_joined [] (t ∷ ts) h = cc
tokens_joined (m ∷ ms) [] h = absurd h
tokens_joined (m ∷ ms) (t ∷ ts) h = grind (arith, common_steps, token_text, tokens_spaced)

spaced_append : (ms ns : List Mark) → spaced (ms ++ ns) ≡ spaced ms ++ spaced ns
spaced_append ms ns = flat_map-append (λ (m : Mark). codes " " ++ text_of m) ms ns

-- if `text` is the texts of the marks `ms`, each after a blank, then `text` between the texts of `opens` and `closes`, each after a blank, is the texts of the
-- marks `opens`, `ms` and `closes`, each after a blank
enclosed : (opens closes : Mark) (ms : List Mark) (text : List ℕ) → text ≡ spaced ms
    → (codes " " ++ text_of opens) ++ (text ++ (codes " " ++ text_of closes)) ≡ spaced (opens ∷ (ms ++ closes ∷ []))
enclosed opens closes ms text is = rw (is, spaced_append ms (closes ∷ []), append-nil (codes " " ++ text_of closes)) refl

-- if `text x`, for each element `x`, is the texts of the mark `m` and of `marks x`, each after a blank, then the texts of all elements, one after the other,
-- are the texts of all these marks in order, each after a blank
parts_spaced : {A : Type 0} (m : Mark) (marks : A → List Mark) (text : A → List ℕ) → ((x : A) → text x ≡ spaced (m ∷ marks x)) → (xs : List A)
    → flat_map text xs ≡ spaced (flat_map (λ x. m ∷ marks x) xs)
parts_spaced m marks text is [] = refl
parts_spaced m marks text is (x ∷ xs) = grind (arith, common_steps, parts_spaced m marks text is xs, spaced_append)

named_number_spaced : (n : NamedNumber) → named_number_text n ≡ spaced (of_named_number n)
named_number_spaced n = simp (append_assoc, append-nil)

numbers_spaced : (ns : List NamedNumber) → numbers_text ns ≡ spaced (of_list (sign K.Comma) of_named_number ns)
numbers_spaced [] = refl
numbers_spaced (n ∷ ns) = grind (arith, common_steps, parts_spaced, named_number_spaced, spaced_append)

high_spaced : (high : Option TokenText) → high_text high ≡ spaced (of_option (λ x. sign K.Range ∷ bound x ∷ []) high)
high_spaced None = refl
high_spaced (Some high) = ap (λ (t : List ℕ). codes " .. " ++ t) (sym (append-nil high.text))

range_spaced : (r : Range) → range_text r ≡ spaced (of_range r)
range_spaced r = ap (λ (t : List ℕ). (codes " " ++ r.low.text) ++ t) (high_spaced r.high)

ranges_spaced : (rs : List Range) → ranges_text rs ≡ spaced (of_ranges rs)
ranges_spaced [] = refl
ranges_spaced (r ∷ rs) = grind (arith, common_steps, parts_spaced, range_spaced, spaced_append)

refinement_spaced : (r : Refinement) → refinement_text r ≡ spaced (of_refinement r)
refinement_spaced (R.Numbers ns) = grind (arith, common_steps, enclosed, numbers_spaced)
refinement_spaced (R.Values rs) = enclosed (sign K.OpenParen) (sign K.CloseParen) (of_ranges rs) (ranges_text rs) (ranges_spaced rs)
refinement_spaced (R.Size rs) = grind (arith, common_steps, ranges_spaced, spaced_append, append_assoc)

refined_spaced : (r : Option Refinement) → refined_text r ≡ spaced (of_option of_refinement r)
refined_spaced None = refl
refined_spaced (Some r) = refinement_spaced r

pub syntax_joined : (s : Syntax) → syntax_text s ≡ joined (of_syntax s)
syntax_joined (T.SequenceOf row) = ap (λ (t : List ℕ). codes "SEQUENCE OF " ++ t) (sym (append-nil row.octets))
syntax_joined (T.Simple t) = grind (arith, common_steps, refined_spaced)

pub own_tokens : (s : Syntax) (ts : List Lexeme) → AreTokensOf s ts → syntax_text s ≡ joined_by_blanks ts
own_tokens s ts are = syntax_joined s ∙ sym (tokens_joined (of_syntax s) ts are)
