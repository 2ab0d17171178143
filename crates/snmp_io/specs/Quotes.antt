-- Quotes in a text: a `"` or `'` outside quotes opens one, which runs to the next of its kind or
-- to the end.
use Rattle.std.specs.Prelude.{◌≡◌, ◌≢◌, ℕ, Bool, true, false, ◌||◌, ◌==◌, if◌then◌else◌, ◌⊎◌}
use Rattle.std.specs.Prelude.{All, List, [], ◌∷◌, ◌++◌, Option, Some, None}
use Rattle.std.specs.List.{concat}

-- whether the octet opens a quote: it is `"` or `'`
abbrev pub is_quote : ℕ → Bool
is_quote octet = octet == 34 || octet == 39

-- the quote that is open after one more octet, if any
abbrev pub open_after : Option ℕ → ℕ → Option ℕ
open_after None octet = if is_quote octet then Some octet else None
open_after (Some quote) octet = if octet == quote then None else Some quote

-- the piece is an octet that opens no quote; or a quote, octets of other kinds, and the quote that
-- closes it
abbrev pub IsPiece : List ℕ → Type 0
IsPiece piece = ((octet : ℕ) × (is_quote octet ≡ false) × (piece ≡ octet ∷ []))
    ⊎ ((quote : ℕ) × (inside : List ℕ) × (is_quote quote ≡ true)
    × All (λ octet. octet ≢ quote) inside × (piece ≡ quote ∷ inside ++ quote ∷ []))

-- each quote that opens in the text is closed in it, so that what follows the text is outside
-- quotes
abbrev pub IsClosed : List ℕ → Type 0
IsClosed text = (pieces : List (List ℕ)) × All IsPiece pieces × (text ≡ concat pieces)

-- `stop` doesn't occur in the text outside quotes
abbrev pub HasNoneOutside : (stop : ℕ) → List ℕ → Type 0
HasNoneOutside stop text = (before after : List ℕ) → text ≡ before ++ stop ∷ after
    → IsClosed before → ⊥

-- `prefix` and `rest` are what is before and after the first `stop` outside quotes
pub record IsCut (stop : ℕ) (text prefix rest : List ℕ) : Type 0 where
  pub parts : text ≡ prefix ++ stop ∷ rest
  pub outside : IsClosed prefix
  pub first : HasNoneOutside stop prefix

-- `prefix` is what is before the first `stop` outside quotes, or the whole text if there is none
abbrev pub IsUnquotedPrefix : (stop : ℕ) → (text prefix : List ℕ) → Type 0
IsUnquotedPrefix stop text prefix = (HasNoneOutside stop text × (prefix ≡ text))
    ⊎ ((rest : List ℕ) × IsCut stop text prefix rest)
