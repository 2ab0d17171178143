-- If no value of an index is shown as a text, then the index is shown as its numbers.
use Rattle.std.proofs.Common.{arith, ◌≡◌, ℕ, true, false, ◌++◌, List, [], ◌∷◌, Option, Some, None, option_map, unwrap_or, refl, ap, ◌∙◌}
use Rattle.std.proofs.{lemmas.Grind.common_steps, lemmas.Bool.and_parts, lemmas.Bool.or_from, lemmas.Bool.or_parts, lemmas.List.map-append}
use Rattle.std.specs.List.{list_all}
use Rattle.smi_tree.specs.declared.columns.index_part.IndexPart.TheVariants.{Text}
use Rattle.smi_show.specs.index.Index.{ReadValues}
use Rattle.smi_tree.specs.declared.columns.index_part.IndexPart.{IndexPart}
use Rattle.smi_show.specs.index.Pieces.{Piece, plain_number, as_numbers, index_pieces, is_plain, is_text, is_text_among, value_numbers}
use Rattle.smi_show.specs.private.index.IndexValues.{has_text, instance_pieces, values_of}
use Rattle.smi_show.proofs.{IndexValues.all_found, Pieces.read_whole}

values_alone : (parts : List IndexPart) (numbers : List ℕ) (values : List (List ℕ)) → ReadValues parts numbers values
    → is_text_among parts values ≡ false → as_numbers numbers ≡ index_pieces parts values
values_alone [] numbers [] h e = ap as_numbers h
values_alone [] numbers (value ∷ values) h e = absurd h
values_alone (part ∷ parts) numbers [] h e = absurd h
values_alone (part ∷ parts) numbers (value ∷ values) h e =
    let both = or_parts (is_text part value) (is_text_among parts values) e in
    ap as_numbers (read_whole part numbers value h.0 h.1) ∙ map-append plain_number (value_numbers part value) h.0
    ∙ ap (λ (ps : List Piece). as_numbers (value_numbers part value) ++ ps) (values_alone parts h.0 values h.2 both.1) ∙ rw both.0 refl

either_alone : (parts : List IndexPart) (numbers : List ℕ) (read : Option (List (List ℕ))) → values_of parts numbers ≡ read
    → unwrap_or (option_map (is_text_among parts) read) false ≡ false
    → as_numbers numbers ≡ unwrap_or (option_map (index_pieces parts) read) (as_numbers numbers)
either_alone parts numbers None is e = refl
either_alone parts numbers (Some values) is e = values_alone parts numbers values (all_found parts numbers values is) e

pub numbers_alone : (parts : List IndexPart) (numbers : List ℕ) → has_text parts numbers ≡ false
    → as_numbers numbers ≡ instance_pieces (Some parts) numbers
numbers_alone parts numbers e = either_alone parts numbers (values_of parts numbers) refl e

-- if a part isn't an OCTET STRING, then none of its values is shown as a text
plain_value : (part : IndexPart) (value : List ℕ) → is_plain part ≡ true → is_text part value ≡ false
plain_value (Text extent) value e = cc
plain_value _ value e = refl

plain_values : (parts : List IndexPart) (values : List (List ℕ)) → list_all is_plain parts ≡ true → is_text_among parts values ≡ false
plain_values [] values e = refl
plain_values (part ∷ parts) [] e = refl
plain_values (part ∷ parts) (value ∷ values) e =
    let both = and_parts (is_plain part) (list_all is_plain parts) e in
    or_from (is_text part value) (is_text_among parts values) (plain_value part value both.0) (plain_values parts values both.1)

pub plain_index : (parts : List IndexPart) (numbers : List ℕ) → list_all is_plain parts ≡ true
    → as_numbers numbers ≡ instance_pieces (Some parts) numbers
plain_index parts numbers e = grind (arith, common_steps, numbers_alone, unwrap_or, option_map, plain_values)
