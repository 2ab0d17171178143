-- Balanced braces, for a value or a type between braces that is stored as tokens (X.208, RFC
-- 2578): as a relation, `IsBalanced`, and by counting. The law `balanced_braces` says that both
-- agree.
use Rattle.std.specs.Prelude.{◌≡◌, ◌≢◌, ℕ, ◌==◌, Bool, ◌&&◌, nat_le, List, [], ◌∷◌, ◌++◌, map}
use Rattle.std.specs.{Prelude.count_by, List.list_all}
use Rattle.smi_text.specs.declared.lexer.token.TokenKind.TheVariants.{OpenBrace, CloseBrace}
use Rattle.smi_text.specs.{declared.trees.tree.TokenText.TokenText, trees.Mark.same_kind}

-- each opening brace is followed by the brace that closes it, with balanced tokens between the
-- two, and no other token is a closing brace
pub data IsBalanced : List TokenText → Type 0 where
  none : IsBalanced []
  other : {x : TokenText} {xs : List TokenText} → x.kind ≢ OpenBrace → x.kind ≢ CloseBrace
      → IsBalanced xs → IsBalanced (x ∷ xs)
  nested : (first last : TokenText) (inner rest : List TokenText) → first.kind ≡ OpenBrace
      → last.kind ≡ CloseBrace → IsBalanced inner → IsBalanced rest
      → IsBalanced (first ∷ (inner ++ last ∷ rest))

-- the number of tokens that open a brace; `closing_braces` counts those that close one
abbrev pub opening_braces : List TokenText → ℕ
opening_braces xs = count_by (λ x. same_kind x.kind OpenBrace) xs

abbrev pub closing_braces : List TokenText → ℕ
closing_braces xs = count_by (λ x. same_kind x.kind CloseBrace) xs

-- the prefixes of the tokens, the empty one and the whole list included
abbrev pub prefixes : List TokenText → List (List TokenText)
prefixes [] = [] ∷ []
prefixes (x ∷ xs) = [] ∷ map (λ prefix. x ∷ prefix) (prefixes xs)

-- whether each prefix opens at least as many braces as it closes, and the whole list opens as many
-- as it closes
unfoldable pub has_balanced_braces : List TokenText → Bool
has_balanced_braces xs =
    list_all (λ prefix. nat_le (closing_braces prefix) (opening_braces prefix)) (prefixes xs)
    && opening_braces xs == closing_braces xs
