-- A name as parts: it is cut at each dot outside quotes, and its module is the text before the
-- first `::` outside quotes. A quote may open inside a part.
use Rattle.std.specs.Prelude.{◌≡◌, ◌≤◌, ℕ, List, [], ◌∷◌, ◌++◌, length}
use Rattle.snmp_io.specs.Quotes.{HasNoneOutside, IsClosed, IsCut}

-- `text` is `parts` with a dot outside quotes between each two, and no part contains such a dot
abbrev pub AreParts : (text : List ℕ) → (parts : List (List ℕ)) → Type 0
AreParts text [] = ⊥
AreParts text (part ∷ []) = HasNoneOutside 46 text × (part ≡ text)
AreParts text (part ∷ next ∷ more) =
    (rest : List ℕ) × IsCut 46 text part rest × AreParts rest (next ∷ more)

-- `text` contains no `::` outside quotes: wherever it has `::`, a quote is open before that
abbrev pub HasNoModule : (text : List ℕ) → Type 0
HasNoModule text = (before after : List ℕ) → text ≡ before ++ 58 ∷ 58 ∷ after
    → IsClosed before → ⊥

-- `home` and `rest` are the text before and after the first `::` outside quotes
pub record IsModuleCut (text home rest : List ℕ) : Type 0 where
  pub parts : text ≡ home ++ 58 ∷ 58 ∷ rest
  pub outside : IsClosed home
  pub first : (before after : List ℕ) → text ≡ before ++ 58 ∷ 58 ∷ after
      → IsClosed before → length home ≤ length before
