-- The pieces that show numbers stand for exactly these numbers (`whole`), and each may be a part of a name if the numbers are below 2^32 (`each`).
-- `next_value` says what one more value of an index adds to the text.
use Rattle.std.proofs.Common.{arith, ◌≡◌, ◌≢◌, ℕ, ◌+◌, ◌<◌, ◌^◌, Bool, true, false, not, cond, nat_eq, List, [], ◌∷◌, ◌++◌, length, drop, get_or}
use Rattle.std.proofs.Common.{Option, Some, None, option_map, unwrap_or, All, inl, inr, refl, sym, ◌∙◌, ap, subst}
use Rattle.std.proofs.{lemmas.Grind.common_steps, lemmas.Grind.flat_map-append, lemmas.List.at_drop_more, lemmas.List.append-nil}
use Rattle.std.proofs.{lemmas.Bool.and_parts, Math.Seq.take-append_seam, Math.Seq.drop-append_seam}
use Rattle.std.specs.List.{list_all, flat_map}
use Rattle.std.proofs.lemmas.List.Elements.{All-nil, All-cons, All-append, All-map, All-take, All-drop}
use Rattle.smi_tree.specs.{declared.columns.index_part.Extent.Extent, declared.columns.index_part.IndexPart.IndexPart}
use Rattle.smi_tree.specs.declared.columns.index_part.Extent.TheVariants.{Fixed, Counted, Implied}
use Rattle.smi_tree.specs.declared.columns.index_part.IndexPart.TheVariants.{Number, Text}
use Rattle.smi_show.specs.index.Index.{IsInExtent, ReadsValue, ReadValues, extent_of}
use Rattle.smi_show.specs.private.index.IndexValues.{value_and_rest, values_of, instance_pieces}
use Rattle.smi_show.specs.index.Pieces.{Piece, plain_number, is_quotable, is_shown_text, piece_numbers, IsPiece, is_text, dotted_text, shown_pieces}
use Rattle.smi_show.specs.index.Pieces.{as_numbers, as_text, extent_numbers, value_numbers, value_pieces, index_pieces, AreInstancePieces}
use Rattle.smi_show.proofs.IndexValues.{all_found, all_only, first_value}

-- the text of `ahead`, the values of part `i` and the parts after it, is the text of `value` and then the text of `more`, which the parts after `i` read from
-- `rest`
pub record IsNextValue (parts : List IndexPart) (i : ℕ) (value rest : List ℕ) (ahead : List (List ℕ)) : Type 0 where
  pub more : List (List ℕ)
  pub left : values_of (drop (i + 1) parts) rest ≡ Some more
  pub text : shown_pieces (index_pieces (drop i parts) ahead)
      ≡ shown_pieces (value_pieces (get_or parts i Number) value) ++ shown_pieces (index_pieces (drop (i + 1) parts) more)

next_at : (part : IndexPart) (parts : List IndexPart) (left value rest : List ℕ) (ahead : List (List ℕ)) → value_and_rest part left ≡ Some (value, rest)
    → values_of (part ∷ parts) left ≡ Some ahead → (more : List (List ℕ)) × (values_of parts rest ≡ Some more) × (ahead ≡ value ∷ more)
next_at part parts left value rest ahead prefix h = grind (arith, common_steps, first_value)

pub next_value : (parts : List IndexPart) (i : ℕ) (left value rest : List ℕ) (ahead : List (List ℕ)) → i < length parts
    → value_and_rest (get_or parts i Number) left ≡ Some (value, rest) → values_of (drop i parts) left ≡ Some ahead → IsNextValue parts i value rest ahead
next_value parts i left value rest ahead low prefix h =
    let here : drop i parts ≡ get_or parts i Number ∷ drop (i + 1) parts = at_drop_more (λ (ps : List IndexPart). ps) parts i Number low in
    let P : List IndexPart → Type 0 = λ ps. values_of ps left ≡ Some ahead in
    let e = next_at (get_or parts i Number) (drop (i + 1) parts) left value rest ahead prefix (subst P here h) in
    record {
      more = e.0;
      left = e.1;
      text = ap (λ (ps : List IndexPart). shown_pieces (index_pieces ps ahead)) here
          ∙ ap (λ (vs : List (List ℕ)). shown_pieces (index_pieces (get_or parts i Number ∷ drop (i + 1) parts) vs)) e.2
          ∙ flat_map-append dotted_text (value_pieces (get_or parts i Number) value) (index_pieces (drop (i + 1) parts) e.0);
    }

-- the pieces of a list of numbers stand for these numbers (`whole` says so of the pieces by an index)
pub numbers_of_numbers : (numbers : List ℕ) → flat_map piece_numbers (as_numbers numbers) ≡ numbers
numbers_of_numbers [] = refl
numbers_of_numbers (n ∷ more) = ap (λ (ns : List ℕ). n ∷ ns) (numbers_of_numbers more)

text_numbers : (extent : Extent) (value : List ℕ) → flat_map piece_numbers (as_text extent value ∷ []) ≡ extent_numbers extent value
text_numbers (Fixed size) value = append-nil value
text_numbers Counted value = append-nil (length value ∷ value)
text_numbers Implied value = append-nil value

either_numbers : (extent : Extent) (value : List ℕ) (test : Bool)
    → flat_map piece_numbers (cond test (as_text extent value ∷ []) (as_numbers (extent_numbers extent value))) ≡ extent_numbers extent value
either_numbers extent value true = text_numbers extent value
either_numbers extent value false = numbers_of_numbers (extent_numbers extent value)

extent_here : (extent : Extent) (value here : List ℕ) → IsInExtent extent value here → here ≡ extent_numbers extent value
extent_here (Fixed size) value here h = h.1
extent_here Counted value here h = h
extent_here Implied value here h = h.1

pub read_whole : (part : IndexPart) (numbers value rest : List ℕ) → ReadsValue part numbers value rest → numbers ≡ value_numbers part value ++ rest
read_whole part numbers value rest h = h.whole ∙ ap (λ (t : List ℕ). t ++ rest) (extent_here (extent_of part) value h.here h.encoding.1)

index_is : (parts : List IndexPart) (numbers : List ℕ) (values : List (List ℕ)) → ReadValues parts numbers values
    → flat_map piece_numbers (index_pieces parts values) ≡ numbers
index_is [] numbers [] h = sym h
index_is [] numbers (value ∷ values) h = absurd h
index_is (part ∷ parts) numbers [] h = absurd h
index_is (part ∷ parts) numbers (value ∷ values) h = grind (arith, common_steps, index_is parts h.0 values h.2, flat_map-append, either_numbers, read_whole)

either_whole : (parts : List IndexPart) (numbers : List ℕ) (read : Option (List (List ℕ))) → values_of parts numbers ≡ read
    → flat_map piece_numbers (unwrap_or (option_map (index_pieces parts) read) (as_numbers numbers)) ≡ numbers
either_whole parts numbers None is = numbers_of_numbers numbers
either_whole parts numbers (Some values) is = index_is parts numbers values (all_found parts numbers values is)

pub whole : (index : Option (List IndexPart)) (numbers : List ℕ) → flat_map piece_numbers (instance_pieces index numbers) ≡ numbers
whole None numbers = numbers_of_numbers numbers
whole (Some parts) numbers = either_whole parts numbers (values_of parts numbers) refl

-- the number has at most 32 bits; if all numbers do, then each piece that shows them may be a part of a name (`each`)
abbrev pub IsNumber : ℕ → Type 0
IsNumber n = n < 2 ^ 32

are_numbers : (numbers : List ℕ) → All IsNumber numbers → All IsPiece (as_numbers numbers)
are_numbers numbers h = All-map IsPiece plain_number numbers h

not_empty : (value : List ℕ) → is_shown_text value ≡ true → value ≢ []
not_empty value h none = let P : List ℕ → Type 0 = λ v. is_shown_text v ≡ true in let no : false ≡ true = subst P none h in cc

quotable : (value : List ℕ) → is_shown_text value ≡ true → list_all is_quotable value ≡ true
quotable value h = (and_parts (not (nat_eq (length value) 0)) (list_all is_quotable value) h).1

text_is_piece : (extent : Extent) (value : List ℕ) → is_shown_text value ≡ true → IsPiece (as_text extent value)
text_is_piece (Fixed size) value h = (not_empty value h, quotable value h)
text_is_piece Counted value h = quotable value h
text_is_piece Implied value h = (not_empty value h, quotable value h)

text_is_shown : (part : IndexPart) (value : List ℕ) → is_text part value ≡ true → is_shown_text value ≡ true
text_is_shown (Text extent) value h = h
text_is_shown _ value h = cc

value_each : (part : IndexPart) (value : List ℕ) (test : Bool) → is_text part value ≡ test → All IsNumber (value_numbers part value)
    → All IsPiece (cond test (as_text (extent_of part) value ∷ []) (as_numbers (value_numbers part value)))
value_each part value true is h = grind (arith, common_steps, All-cons, text_is_piece, text_is_shown, All-nil)
value_each part value false is h = are_numbers (value_numbers part value) h

index_each : (parts : List IndexPart) (numbers : List ℕ) (values : List (List ℕ)) → ReadValues parts numbers values → All IsNumber numbers
    → All IsPiece (index_pieces parts values)
index_each [] numbers values h all = All-nil IsPiece
index_each (part ∷ parts) numbers [] h all = absurd h
index_each (part ∷ parts) numbers (value ∷ values) h all =
    let here : List ℕ = value_numbers part value in
    let both : All IsNumber (here ++ h.0) = rw (← read_whole part numbers value h.0 h.1) all in
    let first = rw take-append_seam at (All-take IsNumber (length here) (here ++ h.0) both) in
    let rest = rw drop-append_seam at (All-drop IsNumber (length here) (here ++ h.0) both) in
    All-append IsPiece (value_pieces part value) (index_pieces parts values)
    (value_each part value (is_text part value) refl first) (index_each parts h.0 values h.2 rest)

either_each : (parts : List IndexPart) (numbers : List ℕ) (read : Option (List (List ℕ))) → values_of parts numbers ≡ read → All IsNumber numbers
    → All IsPiece (unwrap_or (option_map (index_pieces parts) read) (as_numbers numbers))
either_each parts numbers None is all = are_numbers numbers all
either_each parts numbers (Some values) is all = index_each parts numbers values (all_found parts numbers values is) all

pub each : (index : Option (List IndexPart)) (numbers : List ℕ) → All IsNumber numbers → All IsPiece (instance_pieces index numbers)
each None numbers all = are_numbers numbers all
each (Some parts) numbers all = either_each parts numbers (values_of parts numbers) refl all

-- the pieces by the values that were read, or each number by itself if none were; `AreInstancePieces` holds of these pieces and no others (`pieces_stated`,
-- `pieces_only`)
abbrev pieces_by : List IndexPart → List ℕ → Option (List (List ℕ)) → List Piece
pieces_by parts numbers read = unwrap_or (option_map (index_pieces parts) read) (as_numbers numbers)

read_stated : (parts : List IndexPart) (numbers : List ℕ) (read : Option (List (List ℕ))) → values_of parts numbers ≡ read
    → AreInstancePieces (Some parts) numbers (pieces_by parts numbers read)
read_stated parts numbers None is = inr (λ values h. (let some = all_only parts numbers values h in let no : ⊥ = cc in no), refl)
read_stated parts numbers (Some values) is = inl (values, all_found parts numbers values is, refl)

pub pieces_stated : (index : Option (List IndexPart)) (numbers : List ℕ) → AreInstancePieces index numbers (instance_pieces index numbers)
pieces_stated None numbers = refl
pieces_stated (Some parts) numbers = read_stated parts numbers (values_of parts numbers) refl

read_only : (parts : List IndexPart) (numbers : List ℕ) (pieces : List Piece) (read : Option (List (List ℕ))) → values_of parts numbers ≡ read
    → AreInstancePieces (Some parts) numbers pieces → pieces ≡ pieces_by parts numbers read
read_only parts numbers pieces None is (inl h) = let some = all_only parts numbers h.0 h.1 in let no : ⊥ = cc in absurd no
read_only parts numbers pieces None is (inr h) = h.1
read_only parts numbers pieces (Some values) is (inl h) = grind (arith, common_steps, all_only)
read_only parts numbers pieces (Some values) is (inr h) = absurd (h.0 values (all_found parts numbers values is))

pub pieces_only : (index : Option (List IndexPart)) (numbers : List ℕ) (pieces : List Piece) → AreInstancePieces index numbers pieces
    → pieces ≡ instance_pieces index numbers
pieces_only None numbers pieces h = h
pieces_only (Some parts) numbers pieces h = read_only parts numbers pieces (values_of parts numbers) refl h
