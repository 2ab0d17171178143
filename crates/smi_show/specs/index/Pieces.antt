-- The instance part of a name as text: pieces, each after a dot. A piece is a number, or a text in
-- quotes: in double quotes it stands for its length and its octets, in single ones for its octets.
use Rattle.std.specs.Prelude.{◌≡◌, ◌≢◌, ℕ, ◌<◌, ◌^◌, Bool, true, false, not, ◌&&◌, ◌||◌, ◌==◌}
use Rattle.std.specs.Prelude.{nat_le, ◌⊎◌, List, [], ◌∷◌, ◌++◌, length, map, decimal, codes, Option}
use Rattle.std.specs.Prelude.{Some, None, if◌then◌else◌, IsTrue}
use Rattle.std.specs.List.{flat_map, list_all}
use Rattle.smi_show.specs.index.Index.{ReadValues, extent_of}
use Rattle.smi_tree.specs.declared.columns.index_part.Extent.{Extent}
use Rattle.smi_tree.specs.declared.columns.index_part.IndexPart.{IndexPart}
use Rattle.smi_tree.specs.declared.columns.index_part.Extent.TheVariants.{Fixed, Counted, Implied}
use Rattle.smi_tree.specs.declared.columns.index_part.IndexPart.TheVariants.{Text}

pub data Piece : Type 0 where
  plain_number : ℕ → Piece
  counted_text : List ℕ → Piece
  plain_text : List ℕ → Piece

-- the octet may appear between quotes: it is printable, and neither a quote nor a backslash
abbrev pub is_quotable : ℕ → Bool
is_quotable octet =
    nat_le 32 octet && nat_le octet 126 && not (octet == 34 || octet == 39 || octet == 92)

-- the value isn't empty, and each of its octets may appear between quotes
abbrev pub is_shown_text : List ℕ → Bool
is_shown_text value = not (length value == 0) && list_all is_quotable value

-- the numbers that a piece stands for
abbrev pub piece_numbers : Piece → List ℕ
piece_numbers (plain_number n) = n ∷ []
piece_numbers (counted_text octets) = length octets ∷ octets
piece_numbers (plain_text octets) = octets

-- the piece may be a part of a name: a number below 2^32, or octets that may appear between
-- quotes, at least one if the quotes are single ones
abbrev pub IsPiece : Piece → Type 0
IsPiece (plain_number n) = n < 2 ^ 32
IsPiece (counted_text octets) = IsTrue (list_all is_quotable octets)
IsPiece (plain_text octets) = (octets ≢ []) × IsTrue (list_all is_quotable octets)

-- the text of a piece
abbrev pub shown_piece : Piece → List ℕ
shown_piece (plain_number n) = decimal n
shown_piece (counted_text octets) = codes "\"" ++ octets ++ codes "\""
shown_piece (plain_text octets) = codes "'" ++ octets ++ codes "'"

abbrev pub dotted_text : Piece → List ℕ
dotted_text piece = codes "." ++ shown_piece piece

abbrev pub shown_pieces : List Piece → List ℕ
shown_pieces pieces = flat_map dotted_text pieces

-- each number as a piece
abbrev pub as_numbers : List ℕ → List Piece
as_numbers numbers = map plain_number numbers

abbrev pub as_text : Extent → List ℕ → Piece
as_text (Fixed size) value = plain_text value
as_text Counted value = counted_text value
as_text Implied value = plain_text value

-- the numbers that encode `value`: the length of `value` and then `value` if the extent is
-- `Counted`, otherwise only `value`
abbrev pub extent_numbers : Extent → List ℕ → List ℕ
extent_numbers (Fixed size) value = value
extent_numbers Counted value = length value ∷ value
extent_numbers Implied value = value

abbrev pub value_numbers : IndexPart → List ℕ → List ℕ
value_numbers part value = extent_numbers (extent_of part) value

-- whether a value is shown as a text: an OCTET STRING, if it isn't empty and its octets may appear
-- between quotes
abbrev pub is_text : IndexPart → List ℕ → Bool
is_text (Text extent) value = is_shown_text value
is_text _ value = false

-- the pieces of a value of an index: one text, or the numbers that encode it
abbrev pub value_pieces : IndexPart → List ℕ → List Piece
value_pieces part value =
    if is_text part value then as_text (extent_of part) value ∷ []
    else as_numbers (value_numbers part value)

abbrev pub index_pieces : List IndexPart → List (List ℕ) → List Piece
index_pieces [] values = []
index_pieces (part ∷ parts) [] = []
index_pieces (part ∷ parts) (value ∷ values) = value_pieces part value ++ index_pieces parts values

-- `pieces` show `numbers`, the numbers of a name after its node: they are the pieces of the values
-- that `parts`, the node's index, read from `numbers`, if they read all of it; otherwise each
-- number is a piece
abbrev pub AreInstancePieces : Option (List IndexPart) → (numbers : List ℕ) → List Piece → Type 0
AreInstancePieces None numbers pieces = pieces ≡ as_numbers numbers
AreInstancePieces (Some parts) numbers pieces =
    ((values : List (List ℕ)) × ReadValues parts numbers values
    × (pieces ≡ index_pieces parts values))
    ⊎ (((values : List (List ℕ)) → ReadValues parts numbers values → ⊥)
    × (pieces ≡ as_numbers numbers))

-- ---- for private functions

-- values of the part are never shown as texts
abbrev pub is_plain : IndexPart → Bool
is_plain (Text extent) = false
is_plain _ = true

-- whether one of the values is shown as a text
abbrev pub is_text_among : List IndexPart → List (List ℕ) → Bool
is_text_among [] values = false
is_text_among (part ∷ parts) [] = false
is_text_among (part ∷ parts) (value ∷ values) = is_text part value || is_text_among parts values
