-- Identifiers as text: decimal numbers with a dot before or between them, as in `.1.3.6.1`.
use Rattle.std.specs.Prelude.{◌≡◌, ◌≢◌, ℕ, ◌+◌, ◌-◌, ◌*◌, ◌^◌, ◌<◌, ◌≤◌, ◌⊎◌, ◌==◌, List, [], ◌∷◌}
use Rattle.std.specs.Prelude.{◌++◌, length, take_while, drop, slice_index, decimal, true, not, map}
use Rattle.std.specs.Prelude.{All, Option, MatchOption}
use Rattle.std.specs.{Char.is_ascii_digit, List.flat_map, Str.all_ascii_digits}

-- the octet of `.`
abbrev pub dot : ℕ
dot = 46

-- the number that a list of ASCII digits writes in decimal, the most significant digit first
abbrev pub decimal_value : List ℕ → ℕ
decimal_value [] = 0
decimal_value (digit ∷ rest) = (digit - 48) * 10 ^ length rest + decimal_value rest

-- `text` is a numeral of `n`: it writes `n` in one or more decimal digits, perhaps with leading
-- zeros, and `n` is below 2^32
pub record IsNumeral (text : List ℕ) (n : ℕ) : Type 0 where
  pub some : text ≢ []
  pub digits : all_ascii_digits text ≡ true
  pub value : decimal_value text ≡ n
  pub fits : n < 2 ^ 32

-- the text consists of numerals, one for each number of the list in turn, with a dot between each
-- two; the list isn't empty
abbrev pub IsDotted : List ℕ → List ℕ → Type 0
IsDotted text [] = ⊥
IsDotted text (n ∷ []) = IsNumeral text n
IsDotted text (n ∷ m ∷ more) =
    (first : List ℕ) × (rest : List ℕ) × (text ≡ first ++ dot ∷ rest)
    × IsNumeral first n × IsDotted rest (m ∷ more)

-- `text` names the identifier `o`. If `o` is empty, `text` is a single dot. Otherwise `text`
-- consists of numerals of the numbers of `o`, with a dot between each two and perhaps one more dot
-- at the start.
abbrev pub IsNumericName : List ℕ → List ℕ → Type 0
IsNumericName text o =
    ((text ≡ dot ∷ []) × (o ≡ []))
    ⊎ (IsDotted text o ⊎ ((rest : List ℕ) × (text ≡ dot ∷ rest) × IsDotted rest o))

-- a part of the text (the parts are what the dots separate) begins at offset `at`: at the start, if
-- the text doesn't begin with a dot, or directly after a dot
abbrev pub BeginsPart : List ℕ → ℕ → Type 0
BeginsPart text at =
    ((at ≡ 0) × (slice_index text 0 ≢ dot))
    ⊎ ((at ≤ length text) × (0 < at) × (slice_index text (at - 1) ≡ dot))

-- the part that begins at offset `at`: the octets up to the next dot, or to the end
abbrev pub part_at : List ℕ → ℕ → List ℕ
part_at text at = take_while (λ octet. not (octet == dot)) (drop at text)

-- the first part of `text` that isn't a numeral (`IsNumeral`) begins at offset `at`, and `text` is
-- not a single dot
pub record IsFirstBadPart (text : List ℕ) (at : ℕ) : Type 0 where
  pub more : text ≢ dot ∷ []
  pub part : BeginsPart text at
  pub bad : (n : ℕ) → IsNumeral (part_at text at) n → ⊥
  pub before : (k : ℕ) → k < at → BeginsPart text k → (n : ℕ) × IsNumeral (part_at text k) n

-- The first part of a text ends at its first dot or with the text. `number` is the number that the
-- part is a numeral of, or None if the part isn't a numeral; `after` is what follows the dot, or
-- None if the text has no dot.
pub record IsPartRead (text : List ℕ) (number : Option ℕ) (after : Option (List ℕ)) : Type 0 where
  pub part : List ℕ
  pub plain : All (λ octet. octet ≢ dot) part
  pub parts : MatchOption after (text ≡ part) (λ rest. text ≡ part ++ dot ∷ rest)
  pub read : MatchOption number ((n : ℕ) → IsNumeral part n → ⊥) (IsNumeral part)

-- the text names a list of more than 128 numbers, which no identifier can hold
abbrev pub IsTooLong : List ℕ → Type 0
IsTooLong text = (o : List ℕ) × IsNumericName text o × (128 < length o)

-- the text that is written for an identifier: a dot before each number, or a single dot if it has
-- none
abbrev pub numeric_text : List ℕ → List ℕ
numeric_text [] = dot ∷ []
numeric_text (n ∷ more) = flat_map (λ m. dot ∷ decimal m) (n ∷ more)

-- a function wrote `text` to the start of `out`, left the other octets of `out` as they were in
-- `before`, and returned `written`, the length of `text`
pub record IsWrittenTo (out before text : List ℕ) (written : ℕ) : Type 0 where
  pub size : written ≡ length text
  pub octets : out ≡ text ++ drop written before

-- ---- for private functions

-- `text` consists of `count` digits, each with a dot after it, and then `rest`. `after` is `before`
-- followed by the values of these digits, and has at most 128 numbers.
pub record AreDigitsRead (count : ℕ) (text rest before after : List ℕ) : Type 0 where
  pub digits : List ℕ
  pub size : length digits ≡ count
  pub are : All (λ digit. is_ascii_digit digit ≡ true) digits
  pub parts : text ≡ flat_map (λ digit. digit ∷ dot ∷ []) digits ++ rest
  pub room : length before + count ≤ 128
  pub numbers : after ≡ before ++ map (λ digit. digit - 48) digits
