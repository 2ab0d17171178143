-- A name shown by module and label, or in numbers, means the identifier that it shows.
use Rattle.std.proofs.Common.{arith, ◌≡◌, ◌≢◌, ℕ, ◌≤◌, Bool, true, cond, List, [], ◌∷◌, ◌++◌, length, map, take, drop, All, inl, inr, Option, Some}
use Rattle.std.proofs.Common.{None, Result, Ok, refl, sym, ◌∙◌, ap, subst, append_assoc}
use Rattle.std.proofs.{lemmas.Grind.common_steps, lemmas.List.append-nil, lemmas.List.take-append-drop}
use Rattle.std.specs.List.{flat_map}
use Rattle.std.proofs.lemmas.List.Elements.{All-head, All-tail, All-drop}
use Rattle.snmp_oid.specs.{Identifier.IsIdentifier, Numeric.IsNumericName, Numeric.numeric_text}
use Rattle.smi_text.specs.trees.Word.{is_word}
use Rattle.smi_show.specs.index.Pieces.{Piece, piece_numbers, IsPiece, shown_piece, shown_pieces}
use Rattle.smi_show.specs.{private.index.IndexValues.instance_pieces, declared.name.error.NameError.NameError, name.Cutting.name_parts}
use Rattle.smi_show.specs.{name.Cutting.module_after}
use Rattle.smi_tree.specs.Tree.{Contents}
use Rattle.smi_tree.specs.Naming.{NodeView, IsSound, LabelRefersTo, nearest_node, oid_of_child}
use Rattle.smi_show.specs.{name.Word.Word, name.Meant.Scope, name.Meant.in_module, name.Meant.anywhere, name.Meant.found_in, name.Name.qualified}
use Rattle.smi_show.specs.{name.Name.ReadsBack, private.name.Shown.nearest_text, private.name.Shown.name_text}
use Rattle.smi_value.specs.{declared.letters.NameForm.NameForm, declared.letters.NameForm.TheVariants.ModuleLabel}
use Rattle.smi_show.specs.name.Meaning.{and_then, meaning_in, further_meaning, meaning, part_meaning, plain_meaning, scoped_meaning, word_meaning}
use Rattle.smi_show.proofs.{NumericNames.fits, NumericNames.numeric_meaning, NumericNames.scoped, NumericNames.shorter, Pieces.IsNumber}
use Rattle.smi_show.proofs.{Pieces.each, Pieces.whole, PlainOctets.plain_word, PlainOctets.plain_word_begins, ShownWords.joined_module}
use Rattle.smi_show.proofs.{ShownWords.joined_parts, ShownWords.plain_is_whole, ShownWords.scopes, Words.piece_word, Words.label_word}

-- pieces after parts that mean `so_far` mean `so_far` followed by the numbers of the pieces, if these are at most 128 numbers together
further_pieces : (tree : Contents) (so_far : List ℕ) (pieces : List Piece) → All IsPiece pieces → length (so_far ++ flat_map piece_numbers pieces) ≤ 128
    → further_meaning tree so_far (map shown_piece pieces) ≡ Ok (so_far ++ flat_map piece_numbers pieces)
further_pieces tree so_far [] all low = ap (λ (t : List ℕ). Ok t) (sym (append-nil so_far))
further_pieces tree so_far (piece ∷ pieces) all low =
    let next : List ℕ = so_far ++ piece_numbers piece in
    let later : List ℕ = flat_map piece_numbers pieces in
    let grouped : next ++ later ≡ so_far ++ flat_map piece_numbers (piece ∷ pieces) = append_assoc so_far (piece_numbers piece) later in
    let low_here : length (next ++ later) ≤ 128 = subst (λ (t : List ℕ). length t ≤ 128) (sym grouped) low in
    let here : part_meaning (oid_of_child tree so_far) so_far (shown_piece piece) ≡ Ok next
    = ap (λ (w : Result Word NameError). and_then w (word_meaning (oid_of_child tree so_far) so_far)) (piece_word piece (All-head IsPiece piece pieces all))
    ∙ fits next (shorter next later low_here) in
    ap (λ (r : Result (List ℕ) NameError). and_then r (λ o. further_meaning tree o (map shown_piece pieces))) here
    ∙ further_pieces tree next pieces (All-tail IsPiece piece pieces all) low_here
    ∙ ap (λ (t : List ℕ). Ok t) grouped

-- a label that refers to `prefix`, with pieces after it, means `prefix` followed by the numbers of the pieces, if these are at most 128 numbers together
label_and_pieces : (tree : Contents) (scope : Scope) (label prefix : List ℕ) (pieces : List Piece) → is_word label ≡ true
    → found_in tree scope label ≡ Some prefix → All IsPiece pieces → length (prefix ++ flat_map piece_numbers pieces) ≤ 128
    → meaning_in tree scope (name_parts (label ++ shown_pieces pieces)) ≡ Ok (prefix ++ flat_map piece_numbers pieces)
label_and_pieces tree scope label prefix pieces word found all low =
    grind (arith, common_steps, label_word, joined_parts, plain_is_whole, plain_word, further_pieces)

-- a text that begins with a label isn't empty
begins_some : (word rest : List ℕ) → is_word word ≡ true → word ++ rest ≢ []
begins_some [] rest h same = let wrong : ⊥ = cc in absurd wrong
begins_some (octet ∷ more) rest h same = let none : octet ∷ (more ++ rest) ≡ [] = same in let wrong : ⊥ = cc in absurd wrong

begins_more : (word rest : List ℕ) → is_word word ≡ true → word ++ rest ≢ 46 ∷ []
begins_more [] rest h same = let wrong : ⊥ = cc in absurd wrong
begins_more (octet ∷ more) rest h same = grind (arith, common_steps, plain_word_begins)

-- if a text begins with a label, then `plain_meaning` looks the label of its first part up in the whole tree
plain_label : (tree : Contents) (label rest : List ℕ) → is_word label ≡ true
    → plain_meaning tree (label ++ rest) ≡ meaning_in tree anywhere (name_parts (label ++ rest))
plain_label tree [] rest h = let wrong : ⊥ = cc in absurd wrong
plain_label tree (octet ∷ more) rest h = rw ((plain_word_begins octet more h).dot) refl

-- `MODULE::label`, or only the label of a root, with pieces after it, means the label's identifier followed by the numbers of the pieces, if these are at most
-- 128 numbers together
qualified_back : (tree : Contents) (home : Option (List ℕ)) (label prefix : List ℕ) (pieces : List Piece) → is_word label ≡ true
    → LabelRefersTo tree home label prefix → All IsPiece pieces → length (prefix ++ flat_map piece_numbers pieces) ≤ 128
    → meaning tree (qualified home label ++ shown_pieces pieces) ≡ Ok (prefix ++ flat_map piece_numbers pieces)
qualified_back tree None label prefix pieces word found all low =
    let rest = shown_pieces pieces in
    scoped tree (label ++ rest) (begins_some label rest word) (begins_more label rest word)
    ∙ ap (scoped_meaning tree (label ++ rest)) (joined_module label pieces (plain_is_whole label (plain_word label word)) all)
    ∙ plain_label tree label rest word
    ∙ label_and_pieces tree anywhere label prefix pieces word found all low
qualified_back tree (Some home) label prefix pieces word (home_word, loaded, found) all low =
    let rest = label ++ shown_pieces pieces in
    let text = home ++ 58 ∷ 58 ∷ rest in
    let grouped : ((home ++ 58 ∷ 58 ∷ []) ++ label) ++ shown_pieces pieces ≡ text
    = append_assoc (home ++ 58 ∷ 58 ∷ []) label (shown_pieces pieces) ∙ append_assoc home (58 ∷ 58 ∷ []) rest in
    let cut : module_after None text ≡ Some (home, rest)
    = scopes home (58 ∷ 58 ∷ rest) (plain_is_whole home (plain_word home home_word)) ∙ ap (λ (t : List ℕ). Some (t, rest)) (append-nil home) in
    ap (meaning tree) grouped
    ∙ scoped tree text (begins_some home (58 ∷ 58 ∷ rest) home_word) (begins_more home (58 ∷ 58 ∷ rest) home_word)
    ∙ ap (scoped_meaning tree text) cut
    ∙ rw loaded refl
    ∙ label_and_pieces tree (in_module home) label prefix pieces word found all low

module _ (written : (o : List ℕ) → IsIdentifier o → IsNumericName (numeric_text o) o) (tree : Contents) (numeric_index : Bool) (o : List ℕ) where
  deepest_back : IsSound tree → IsIdentifier o → (view : Option NodeView) → nearest_node tree o ≡ view
      → meaning tree (nearest_text tree ModuleLabel numeric_index o view) ≡ Ok o
  deepest_back sound h None is = numeric_meaning tree (numeric_text o) o (written o h) h.short
  deepest_back sound h (Some node) is =
      let index = cond numeric_index None node.index in
      let rest : List ℕ = drop node.depth o in
      let pieces : List Piece = instance_pieces index rest in
      let prefix : List ℕ = take node.depth o in
      let same : prefix ++ flat_map piece_numbers pieces ≡ o = ap (λ (t : List ℕ). prefix ++ t) (whole index rest) ∙ take-append-drop node.depth o in
      let low : length (prefix ++ flat_map piece_numbers pieces) ≤ 128 = subst (λ (t : List ℕ). length t ≤ 128) (sym same) h.short in
      qualified_back tree node.home node.label prefix pieces (sound.words o node is) (sound.refers_to o node is)
      (each index rest (All-drop IsNumber node.depth o h.numbers)) low
      ∙ ap (λ (t : List ℕ). Ok t) same

  pub name_back : (form : NameForm) → IsSound tree → ReadsBack form → IsIdentifier o → meaning tree (name_text tree form numeric_index o) ≡ Ok o
  name_back form sound (inl is) h = rw is (numeric_meaning tree (numeric_text o) o (written o h) h.short)
  name_back form sound (inr is) h = rw is (deepest_back sound h (nearest_node tree o) refl)
