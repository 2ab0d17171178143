-- Octets as a display hint shows them (RFC 2579, section 3.1): each spec is applied to a group of
-- octets, which is cut into pieces.
use Rattle.std.specs.Prelude.{◌≡◌, ◌≢◌, ℕ, ◌≤◌, ◌⊎◌, false, if◌then◌else◌, is_some, List, [], ◌∷◌}
use Rattle.std.specs.Prelude.{◌++◌, length, take, drop, slice_index, Option, option_to_list}
use Rattle.std.specs.Prelude.{decimal, Bool, not, ◌&&◌, ◌==◌}
use Rattle.std.specs.{Fmt.digits, List.flat_map, Int.Digits.number_from_digits}
use Rattle.smi_value.specs.{hint.Spec.IsOctetHint, declared.hint.spec.Spec.Spec}
use Rattle.smi_value.specs.declared.hint.spec.OctetFormat.{OctetFormat}
use Rattle.smi_value.specs.declared.hint.spec.OctetFormat.TheVariants as octet_format

-- the octets as one number, the most significant octet first
abbrev pub number_of_octets : List ℕ → ℕ
number_of_octets octets = number_from_digits 256 octets

-- the text of the octets that one application of a spec takes: in the format `Text` the octets
-- unchanged, otherwise one number in the base of the format; nothing without octets
abbrev pub piece_text : OctetFormat → List ℕ → List ℕ
piece_text format [] = []
piece_text octet_format.Text (octet ∷ more) = octet ∷ more
piece_text octet_format.Hexadecimal (octet ∷ more) = digits 16 false
    (number_of_octets (octet ∷ more))
piece_text octet_format.Decimal (octet ∷ more) = decimal (number_of_octets (octet ∷ more))
piece_text octet_format.Octal (octet ∷ more) = digits 8 false (number_of_octets (octet ∷ more))

-- `pieces` are cut one by one from the start of `octets`: `width` octets each, or all that remain
-- if there are fewer, and no piece if none remain; `rest` is what remains after the pieces
abbrev pub ArePieces : ℕ → List (List ℕ) → List ℕ → List ℕ → Type 0
ArePieces width [] octets rest = rest ≡ octets
ArePieces width (piece ∷ pieces) octets rest =
    (octets ≢ []) × (piece ≡ take width octets) × ArePieces width pieces (drop width octets) rest

-- `pieces` are cut from the start of `octets`, `width` octets each (see `ArePieces`), and `rest`
-- remains: `times` pieces, or fewer if nothing remains after them
pub record IsCut (width times : ℕ) (pieces : List (List ℕ)) (octets rest : List ℕ) : Type 0 where
  pub are_pieces : ArePieces width pieces octets rest
  pub at_most : length pieces ≤ times
  pub enough : (length pieces ≡ times) ⊎ (rest ≡ [])

-- the text of `mark`, a separator or a terminator, before the octets that remain: nothing if none
-- remain, or `mark` is `None`
abbrev pub mark_before : Option ℕ → List ℕ → List ℕ
mark_before mark [] = []
mark_before mark (_ ∷ _) = option_to_list mark

-- the mark of `spec` after its last application: the terminator if it has one, otherwise the
-- separator, which may be `None`
abbrev pub last_mark : Spec → Option ℕ
last_mark spec = if is_some spec.terminator then spec.terminator else spec.separator

-- the text of the pieces of one spec: its separator, if it has one, is between them, and its last
-- mark is after the last piece if octets remain in `rest`; nothing without pieces
abbrev pub pieces_text : Spec → List (List ℕ) → List ℕ → List ℕ
pieces_text spec [] rest = []
pieces_text spec (piece ∷ []) rest =
    piece_text spec.format piece ++ mark_before (last_mark spec) rest
pieces_text spec (piece ∷ next ∷ more) rest =
    piece_text spec.format piece ++ option_to_list spec.separator
    ++ pieces_text spec (next ∷ more) rest

-- the number of times that a spec is applied: the first octet if the spec has a star, otherwise 1
abbrev pub times_of : Spec → List ℕ → ℕ
times_of spec octets = if spec.is_counted then slice_index octets 0 else 1

-- the octets that a spec is applied to: those after the first one if the spec has a star, otherwise
-- all of `octets`
abbrev pub body_of : Spec → List ℕ → List ℕ
body_of spec octets = if spec.is_counted then drop 1 octets else octets

-- the specs after `spec`: those that follow it, or `spec` itself again if it is the last one
abbrev pub specs_after : Spec → List Spec → List Spec
specs_after spec [] = spec ∷ []
specs_after spec (next ∷ more) = next ∷ more

-- `spec` is applied to the start of `octets`, which aren't empty, and cuts `pieces` from it; `rest`
-- remains
pub record IsGroup (spec : Spec) (pieces : List (List ℕ)) (octets rest : List ℕ) : Type 0 where
  pub some : octets ≢ []
  pub cut : IsCut spec.length (times_of spec octets) pieces (body_of spec octets) rest

-- the specs are applied one after the other, and the last one again and again, until no octets
-- remain: `groups` lists the pieces that each use of a spec cuts off, and `text` is the text of all
-- these pieces
abbrev pub AreGroups : List Spec → List (List (List ℕ)) → List ℕ → List ℕ → Type 0
AreGroups specs [] octets text = (octets ≡ []) × (text ≡ [])
AreGroups [] (pieces ∷ groups) octets text = ⊥
AreGroups (spec ∷ specs) (pieces ∷ groups) octets text =
    (rest : List ℕ) × (later : List ℕ) × IsGroup spec pieces octets rest
    × AreGroups (specs_after spec specs) groups rest later
    × (text ≡ pieces_text spec pieces rest ++ later)

-- `hint` shows `octets` as `text`
pub record ShowsOctets (hint octets text : List ℕ) : Type 0 where
  pub specs : List Spec
  pub groups : List (List (List ℕ))
  pub is_hint : IsOctetHint hint specs
  pub are_groups : AreGroups specs groups octets text

-- ---- for private functions

-- whether the spec has no star, and takes one octet each time
abbrev pub is_single : Spec → Bool
is_single spec = not spec.is_counted && (spec.length == 1)

-- the text of one octet by itself
abbrev pub single_text : OctetFormat → ℕ → List ℕ
single_text format octet = piece_text format (octet ∷ [])

-- the mark, if there is one, and the text of one octet
abbrev pub marked_text : OctetFormat → Option ℕ → ℕ → List ℕ
marked_text format mark octet = option_to_list mark ++ single_text format octet

-- the text of octets one by one, with `mark`, if there is one, before each but the first
abbrev pub singles_text : OctetFormat → Option ℕ → List ℕ → List ℕ
singles_text format mark [] = []
singles_text format mark (octet ∷ more) =
    single_text format octet ++ flat_map (marked_text format mark) more
