-- Computes what a part of a name is: a number, a text in quotes or a label; or why it is none of
-- these. For `Meaning`, and for contracts of private functions.
use Rattle.std.specs.Prelude.{ℕ, ◌-◌, ◌^◌, ◌&&◌, ◌==◌, nat_lt, if◌then◌else◌, List, [], ◌∷◌, length}
use Rattle.std.specs.Prelude.{take, slice_index, Option, Some, None, Result, Ok, Err}
use Rattle.std.specs.{List.list_all, Char.is_ascii_digit, Str.all_ascii_digits}
use Rattle.snmp_oid.specs.Numeric.{decimal_value}
use Rattle.smi_show.specs.index.Pieces.{Piece, plain_number, counted_text, plain_text, is_quotable}
use Rattle.smi_show.specs.declared.name.error.NameError.{NameError}
use Rattle.smi_show.specs.declared.name.error.NameError.TheVariants.{BadIndex, BadNumber}

pub data Word : Type 0 where
  a_piece : Piece → Word
  a_label : List ℕ → Word

-- the number that `part` stands for, if all its octets are decimal digits and the number is below
-- 2^32; leading zeros are allowed
abbrev pub numeral_of : List ℕ → Option ℕ
numeral_of part =
    if all_ascii_digits part && nat_lt (decimal_value part) (2 ^ 32) then Some (decimal_value part)
    else None

-- `rest` without its last octet, if the last octet is `quote` and each octet before it may appear
-- between quotes; otherwise None
abbrev pub quoted_in : ℕ → List ℕ → Option (List ℕ)
quoted_in quote rest =
    let size = length rest - 1 in
    if nat_lt 0 (length rest) && (slice_index rest size == quote)
    && list_all is_quotable (take size rest)
    then Some (take size rest) else None

abbrev pub number_word : Option ℕ → Result Word NameError
number_word None = Err BadNumber
number_word (Some n) = Ok (a_piece (plain_number n))

-- the part that is `octets` between double quotes, perhaps no octets (`""` stands for a length of
-- 0); for None, the fault `BadIndex`
abbrev pub counted_word : Option (List ℕ) → Result Word NameError
counted_word None = Err BadIndex
counted_word (Some octets) = Ok (a_piece (counted_text octets))

-- the part that is the octets between single quotes, at least one; for None, or for no octets, as
-- in `''`, the fault `BadIndex`
abbrev pub plain_word : Option (List ℕ) → Result Word NameError
plain_word None = Err BadIndex
plain_word (Some []) = Err BadIndex
plain_word (Some (octet ∷ more)) = Ok (a_piece (plain_text (octet ∷ more)))

-- what a part is: a number, a text in quotes, a label, or the fault `BadNumber` or `BadIndex`
abbrev pub word_of : List ℕ → Result Word NameError
word_of [] = Err BadNumber
word_of (octet ∷ more) =
    if is_ascii_digit octet then number_word (numeral_of (octet ∷ more))
    else (if octet == 34 then counted_word (quoted_in 34 more)
    else (if octet == 39 then plain_word (quoted_in 39 more)
    else Ok (a_label (octet ∷ more))))
