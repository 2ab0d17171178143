-- An index as numbers after a column's identifier: the encoded values of its parts, one after the
-- other (RFC 2578, section 7.7). In contracts the value of a part is the list of its numbers,
-- without a length before it.
use Rattle.std.specs.Prelude.{◌≡◌, ◌≢◌, ℕ, Bool, true, false, nat_le, List, [], ◌∷◌, ◌++◌, length}
use Rattle.std.specs.{Bool.OnTrue, List.list_all}
use Rattle.smi_tree.specs.declared.columns.index_part.Extent.{Extent}
use Rattle.smi_tree.specs.declared.columns.index_part.IndexPart.{IndexPart}
use Rattle.smi_tree.specs.declared.columns.index_part.Extent.TheVariants.{Fixed, Counted, Implied}
use Rattle.smi_tree.specs.declared.columns.index_part.IndexPart.TheVariants.{Number, Address, Text}
use Rattle.smi_tree.specs.declared.columns.index_part.IndexPart.TheVariants.{Octets, Identifier}
use Rattle.smi_tree.specs.declared.columns.index_part.IndexPart.TheVariants.{ImpliedIdentifier}

-- the number is at most 255
abbrev pub is_octet : ℕ → Bool
is_octet n = nat_le n 255

abbrev pub AreOctetNumbers : List ℕ → Type 0
AreOctetNumbers value = list_all is_octet value ≡ true

-- `here` encodes the numbers `value` (RFC 2578, section 7.7). For `Fixed size`, `here` is `value`,
-- which has `size` numbers. For `Counted`, `here` is the length of `value` followed by `value`. For
-- `Implied`, `here` is `value`, which isn't empty.
abbrev pub IsInExtent : Extent → List ℕ → List ℕ → Type 0
IsInExtent (Fixed size) value here = (length value ≡ size) × (here ≡ value)
IsInExtent Counted value here = here ≡ length value ∷ value
IsInExtent Implied value here = (value ≢ []) × (here ≡ value)

-- what determines how many numbers a value of the part has: its type or SIZE, a length before it,
-- or the end of the identifier
abbrev pub extent_of : IndexPart → Extent
extent_of Number = Fixed 1
extent_of Address = Fixed 4
extent_of (Text extent) = extent
extent_of (Octets extent) = extent
extent_of Identifier = Counted
extent_of ImpliedIdentifier = Implied

-- the values of the part consist of octets; the numbers of an INTEGER or an OBJECT IDENTIFIER may
-- be larger
abbrev pub is_of_octets : IndexPart → Bool
is_of_octets Address = true
is_of_octets (Text extent) = true
is_of_octets (Octets extent) = true
is_of_octets _ = false

-- `here` encodes `value`, a value of `part`
abbrev pub IsEncoding : IndexPart → List ℕ → List ℕ → Type 0
IsEncoding part value here =
    OnTrue (is_of_octets part) (AreOctetNumbers value) × IsInExtent (extent_of part) value here

-- `rest` may follow a value of the extent: if the extent is `Implied`, `rest` is empty
abbrev pub LeavesIn : Extent → List ℕ → Type 0
LeavesIn Implied rest = rest ≡ []
LeavesIn _ rest = Unit {0}

-- `numbers` are the encoding of `value`, a value of `part`, and then `rest`, which is empty if the
-- extent of the part is `Implied`
pub record ReadsValue (part : IndexPart) (numbers value rest : List ℕ) : Type 0 where
  pub here : List ℕ
  pub whole : numbers ≡ here ++ rest
  pub encoding : IsEncoding part value here
  pub after : LeavesIn (extent_of part) rest

-- `numbers` are the encodings of `values`, one value for each part, one after the other; a value
-- whose extent is `Implied` takes all numbers that remain
abbrev pub ReadValues : List IndexPart → List ℕ → List (List ℕ) → Type 0
ReadValues [] numbers [] = numbers ≡ []
ReadValues [] numbers (value ∷ values) = ⊥
ReadValues (part ∷ parts) numbers [] = ⊥
ReadValues (part ∷ parts) numbers (value ∷ values) =
    (rest : List ℕ) × ReadsValue part numbers value rest × ReadValues parts rest values
