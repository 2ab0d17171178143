-- Computes what the relations of Index and Pieces define, for contracts of private functions: the
-- values that an index reads from numbers, and their pieces.
use Rattle.std.specs.Prelude.{ℕ, nat_le, if◌then◌else◌, List, [], ◌∷◌, length, take, drop, Option}
use Rattle.std.specs.Prelude.{Some, None, option_map, option_and_then, unwrap_or, Bool, false}
use Rattle.std.specs.List.{list_all}
use Rattle.smi_show.specs.index.Index.{extent_of, is_octet, is_of_octets}
use Rattle.smi_show.specs.index.Pieces.{Piece, as_numbers, index_pieces, is_text_among}
use Rattle.smi_tree.specs.declared.columns.index_part.Extent.{Extent}
use Rattle.smi_tree.specs.declared.columns.index_part.IndexPart.{IndexPart}
use Rattle.smi_tree.specs.declared.columns.index_part.Extent.TheVariants.{Fixed, Counted, Implied}

-- the first `size` numbers and the rest, or None if there are fewer than `size`
abbrev pub split_numbers : ℕ → List ℕ → Option (List ℕ × List ℕ)
split_numbers size numbers =
    if nat_le size (length numbers) then Some (take size numbers, drop size numbers) else None

-- the first number, `size`, is a length: the next `size` numbers, and the rest; None if the list is
-- empty, or fewer than `size` numbers follow the length
abbrev pub counted : List ℕ → Option (List ℕ × List ℕ)
counted [] = None
counted (size ∷ numbers) = split_numbers size numbers

-- all numbers and an empty rest, or None if there is no number
abbrev pub remaining : List ℕ → Option (List ℕ × List ℕ)
remaining [] = None
remaining (n ∷ more) = Some (n ∷ more, [])

abbrev pub of_octets : Option (List ℕ × List ℕ) → Option (List ℕ × List ℕ)
of_octets read = option_and_then (λ r. if list_all is_octet r.0 then Some r else None) read

abbrev pub in_extent : Extent → List ℕ → Option (List ℕ × List ℕ)
in_extent (Fixed size) numbers = split_numbers size numbers
in_extent Counted numbers = counted numbers
in_extent Implied numbers = remaining numbers

-- the value of `part` that is encoded at the start of `numbers`, and the numbers after the
-- encoding; None if `numbers` doesn't begin with the encoding of a value
abbrev pub value_and_rest : IndexPart → List ℕ → Option (List ℕ × List ℕ)
value_and_rest part numbers =
    if is_of_octets part then of_octets (in_extent (extent_of part) numbers)
    else in_extent (extent_of part) numbers

-- a value for each part, if `numbers` consists of the encodings of these values and nothing more;
-- otherwise None
abbrev pub values_of : List IndexPart → List ℕ → Option (List (List ℕ))
values_of [] [] = Some []
values_of [] (n ∷ more) = None
values_of (part ∷ parts) numbers =
    option_and_then
    (λ (value, rest). option_map (λ values. value ∷ values) (values_of parts rest))
    (value_and_rest part numbers)

-- whether the parts read all of `numbers`, and one of the values is shown as a text
abbrev pub has_text : List IndexPart → List ℕ → Bool
has_text parts numbers =
    unwrap_or (option_map (is_text_among parts) (values_of parts numbers)) false

-- the pieces that show `numbers`, the numbers of a name after its node: the pieces of the values
-- that `parts`, the node's index, read from `numbers`, if they read all of it; otherwise each
-- number is a piece
abbrev pub instance_pieces : Option (List IndexPart) → List ℕ → List Piece
instance_pieces None numbers = as_numbers numbers
instance_pieces (Some parts) numbers =
    unwrap_or (option_map (index_pieces parts) (values_of parts numbers)) (as_numbers numbers)
