-- The meaning of a text as a name: a relation between the text and its identifier, or its first
-- fault from the left.
use Rattle.std.specs.Prelude.{◌≡◌, ◌≢◌, ◌<◌, ◌≤◌, ◌⊎◌, ◌++◌, ℕ, true, false, List, [], ◌∷◌, length}
use Rattle.std.specs.Prelude.{Bool, Option, Some, None, Result, Ok, Err}
use Rattle.std.specs.Char.{is_ascii_digit}
use Rattle.snmp_oid.specs.Numeric.{IsNumeral}
use Rattle.snmp_io.specs.Quotes.{IsUnquotedPrefix}
use Rattle.smi_show.specs.index.Pieces.{IsPiece, Piece, counted_text, piece_numbers, plain_number}
use Rattle.smi_show.specs.index.Pieces.{plain_text, shown_piece}
use Rattle.smi_show.specs.name.Cut.{AreParts, HasNoModule, IsModuleCut}
use Rattle.smi_show.specs.{declared.name.error.NameError.NameError}
use Rattle.smi_show.specs.declared.name.error.NameError.TheVariants.{BadIndex, BadNumber, TooLong}
use Rattle.smi_show.specs.declared.name.error.NameError.TheVariants.{Unknown}
use Rattle.smi_tree.specs.Naming.{is_module_loaded, oid_anywhere, oid_in_module, oid_of_child}
use Rattle.smi_tree.specs.{Naming.oid_of_root, Tree.Contents}

-- ---- what a part means without the parts before it

-- `part` is the text of the piece: a number in decimal digits, with or without leading zeros, or a
-- text in quotes
abbrev pub StatesPiece : (part : List ℕ) → Piece → Type 0
StatesPiece part (plain_number n) = IsNumeral part n
StatesPiece part (counted_text octets) =
    (part ≡ shown_piece (counted_text octets)) × IsPiece (counted_text octets)
StatesPiece part (plain_text octets) =
    (part ≡ shown_piece (plain_text octets)) × IsPiece (plain_text octets)

-- the part is a label: it begins neither with a digit nor with a quote, and isn't empty
abbrev pub IsLabel : List ℕ → Type 0
IsLabel [] = ⊥
IsLabel (octet ∷ more) = (is_ascii_digit octet ≡ false) × (octet ≢ 34) × (octet ≢ 39)

-- the part is empty, or begins with a digit and isn't a number
abbrev pub IsBadNumber : List ℕ → Type 0
IsBadNumber [] = Unit {0}
IsBadNumber (octet ∷ more) =
    (is_ascii_digit octet ≡ true) × ((n : ℕ) → IsNumeral (octet ∷ more) n → ⊥)

-- the part begins with a quote and isn't the text of a piece
abbrev pub IsBadIndex : List ℕ → Type 0
IsBadIndex [] = ⊥
IsBadIndex (octet ∷ more) =
    ((octet ≡ 34) ⊎ (octet ≡ 39)) × ((piece : Piece) → StatesPiece (octet ∷ more) piece → ⊥)

-- ---- what parts mean, one after the other

-- `result` is the identifier `o` if it has at most 128 numbers (RFC 2578, section 3.5), otherwise
-- `TooLong`
abbrev pub IsRoomFor : List ℕ → Result (List ℕ) NameError → Type 0
IsRoomFor o result =
    ((length o ≤ 128) × (result ≡ Ok o)) ⊎ ((128 < length o) × (result ≡ Err TooLong))

-- `result` is what a look-up found, or `Unknown` if it found nothing
abbrev pub IsFound : Option (List ℕ) → Result (List ℕ) NameError → Type 0
IsFound None result = result ≡ Err Unknown
IsFound (Some o) result = result ≡ Ok o

-- `part`, after parts that mean `so_far`, means `result`. A number or a text in quotes means
-- `so_far` followed by the part's numbers, or `TooLong`. A label means what `look_up` finds, or
-- `Unknown`. Any other part means the fault `BadNumber` or `BadIndex`.
abbrev pub PartMeans : (look_up : List ℕ → Option (List ℕ)) → (so_far part : List ℕ)
    → Result (List ℕ) NameError → Type 0
PartMeans look_up so_far part result =
    ((piece : Piece) × StatesPiece part piece × IsRoomFor (so_far ++ piece_numbers piece) result)
    ⊎ ((IsLabel part × IsFound (look_up part) result)
    ⊎ ((IsBadNumber part × (result ≡ Err BadNumber))
    ⊎ (IsBadIndex part × (result ≡ Err BadIndex))))

-- `parts`, after parts that mean `so_far`, mean `result`: an identifier, or the first fault from
-- the left. A label as the first part is looked up by `look_up`; a label as a later part is looked
-- up among the children of the identifier that the parts before it mean.
abbrev pub PartsMean : Contents → (look_up : List ℕ → Option (List ℕ)) → (so_far : List ℕ)
    → (parts : List (List ℕ)) → Result (List ℕ) NameError → Type 0
PartsMean tree look_up so_far [] result = result ≡ Ok so_far
PartsMean tree look_up so_far (part ∷ more) result =
    ((next : List ℕ) × PartMeans look_up so_far part (Ok next)
    × PartsMean tree (oid_of_child tree next) next more result)
    ⊎ ((why : NameError) × PartMeans look_up so_far part (Err why) × (result ≡ Err why))

-- ---- what a text means as a name

-- where the label of the first part is looked up
pub data Scope : Type 0 where
  in_module : List ℕ → Scope
  anywhere : Scope
  among_roots : Scope

abbrev pub found_in : Contents → Scope → List ℕ → Option (List ℕ)
found_in tree (in_module home) label = oid_in_module tree home label
found_in tree anywhere label = oid_anywhere tree label
found_in tree among_roots label = oid_of_root label

-- The scope says where the label of the first part is looked up: in the module if `text` has one
-- before `::`; otherwise among the roots if `text` begins with a dot; otherwise in the whole tree.
-- `rest` is `text` after `::` or after the dot, or all of `text`.
abbrev pub IsScoped : (text : List ℕ) → Scope → (rest : List ℕ) → Type 0
IsScoped text (in_module home) rest = IsModuleCut text home rest
IsScoped text among_roots rest = HasNoModule text × (text ≡ 46 ∷ rest)
IsScoped text anywhere rest =
    HasNoModule text × (rest ≡ text) × ((more : List ℕ) → text ≢ 46 ∷ more)

-- the scope is a module that is loaded, or it isn't a module
abbrev pub is_loaded_in : Contents → Scope → Bool
is_loaded_in tree (in_module home) = is_module_loaded tree home
is_loaded_in tree _ = true

-- `rest` means `result` in `scope`: `Unknown` if the scope is a module that isn't loaded,
-- otherwise what the parts of `rest` mean
abbrev pub ScopeMeans : Contents → Scope → (rest : List ℕ) → Result (List ℕ) NameError → Type 0
ScopeMeans tree scope rest result =
    ((is_loaded_in tree scope ≡ false) × (result ≡ Err Unknown))
    ⊎ ((is_loaded_in tree scope ≡ true) × ((parts : List (List ℕ)) × AreParts rest parts
    × PartsMean tree (found_in tree scope) [] parts result))

-- `text` means `result`: the empty text is `Unknown`, `.` is the empty identifier, and any other
-- text means what its parts mean in its scope.
abbrev pub TextMeans : Contents → (text : List ℕ) → Result (List ℕ) NameError → Type 0
TextMeans tree text result =
    ((text ≡ []) × (result ≡ Err Unknown))
    ⊎ (((text ≡ 46 ∷ []) × (result ≡ Ok []))
    ⊎ ((text ≢ []) × (text ≢ 46 ∷ []) × ((scope : Scope) × (rest : List ℕ)
    × IsScoped text scope rest × ScopeMeans tree scope rest result)))

-- The prefix of `text` ends before the first `stop` outside quotes; without such a `stop`, it is
-- all of `text`. The prefix means the identifier `o` and has `size` octets, or it means the fault
-- `why`.
abbrev pub PrefixMeans : Contents → (stop : ℕ) → (text : List ℕ) → Result (List ℕ × ℕ) NameError
    → Type 0
PrefixMeans tree stop text (Ok (o, size)) = (prefix : List ℕ) × IsUnquotedPrefix stop text prefix
    × TextMeans tree prefix (Ok o) × (size ≡ length prefix)
PrefixMeans tree stop text (Err why) = (prefix : List ℕ) × IsUnquotedPrefix stop text prefix
    × TextMeans tree prefix (Err why)
