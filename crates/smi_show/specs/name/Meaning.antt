-- Computes what `Meant` defines, the meaning of a text: for contracts of private functions, for
-- the law `meanings_are_computed`, and for definitions that need a function.
use Rattle.std.specs.Prelude.{ℕ, ◌==◌, nat_le, if◌then◌else◌, List, [], ◌∷◌, ◌++◌, length, Option}
use Rattle.std.specs.Prelude.{Some, None, Result, Ok, Err}
use Rattle.smi_show.specs.{index.Pieces.piece_numbers, name.Cutting.name_parts}
use Rattle.smi_show.specs.{name.Cutting.module_after, declared.name.error.NameError.NameError}
use Rattle.smi_show.specs.name.Meant.{Scope, among_roots, anywhere, found_in, in_module}
use Rattle.smi_show.specs.name.Meant.{is_loaded_in}
use Rattle.smi_show.specs.name.Word.{Word, a_piece, a_label, word_of}
use Rattle.smi_show.specs.declared.name.error.NameError.TheVariants.{Unknown, TooLong}
use Rattle.smi_tree.specs.{Naming.oid_of_child, Tree.Contents}

abbrev pub and_then : {A B : Type 0} → Result A NameError → (A → Result B NameError)
    → Result B NameError
and_then (Ok x) f = f x
and_then (Err fault) f = Err fault

-- the identifier, or `TooLong` if it has more than 128 numbers
abbrev pub fitting : List ℕ → Result (List ℕ) NameError
fitting o = if nat_le (length o) 128 then Ok o else Err TooLong

abbrev pub or_unknown : Option (List ℕ) → Result (List ℕ) NameError
or_unknown None = Err Unknown
or_unknown (Some o) = Ok o

-- the meaning of a part that follows parts with the meaning `so_far`: for a number or a text in
-- quotes, `so_far` followed by the numbers of the part, or `TooLong` if that is more than 128
-- numbers; for a label, the identifier that `look_up` finds, or `Unknown` if it finds none
abbrev pub word_meaning : (look_up : List ℕ → Option (List ℕ)) → List ℕ → Word
    → Result (List ℕ) NameError
word_meaning look_up so_far (a_piece piece) = fitting (so_far ++ piece_numbers piece)
word_meaning look_up so_far (a_label label) = or_unknown (look_up label)

abbrev pub part_meaning : (look_up : List ℕ → Option (List ℕ)) → (so_far part : List ℕ)
    → Result (List ℕ) NameError
part_meaning look_up so_far part = and_then (word_of part) (word_meaning look_up so_far)

-- the meaning of parts that follow parts with the meaning `so_far`: if the first part is a label,
-- `look_up` looks it up; if a later part is a label, it is looked up among the children of the
-- identifier that the parts before it mean
abbrev pub parts_meaning : Contents → (look_up : List ℕ → Option (List ℕ)) → List ℕ
    → List (List ℕ) → Result (List ℕ) NameError
parts_meaning tree look_up so_far [] = Ok so_far
parts_meaning tree look_up so_far (part ∷ parts) =
    and_then (part_meaning look_up so_far part)
    (λ o. parts_meaning tree (oid_of_child tree o) o parts)

-- the meaning of `parts` if the label of the first one is looked up in `scope`; if the scope is a
-- module, this doesn't check that the module is loaded
abbrev pub meaning_in : Contents → Scope → List (List ℕ) → Result (List ℕ) NameError
meaning_in tree scope parts = parts_meaning tree (found_in tree scope) [] parts

-- the meaning of the parts of `rest` if the label of the first one is looked up in `scope`; the
-- fault `Unknown` if the scope is a module that isn't loaded
abbrev pub scope_meaning : Contents → Scope → (rest : List ℕ) → Result (List ℕ) NameError
scope_meaning tree scope rest =
    if is_loaded_in tree scope then meaning_in tree scope (name_parts rest) else Err Unknown

-- the meaning of a text without a module: the label of the first part is looked up among the roots
-- if the text begins with a dot, otherwise in the whole tree
abbrev pub plain_meaning : Contents → List ℕ → Result (List ℕ) NameError
plain_meaning tree [] = scope_meaning tree anywhere []
plain_meaning tree (octet ∷ more) =
    if octet == 46 then scope_meaning tree among_roots more
    else scope_meaning tree anywhere (octet ∷ more)

abbrev pub scoped_meaning : Contents → List ℕ → Option (List ℕ × List ℕ) → Result (List ℕ) NameError
scoped_meaning tree text None = plain_meaning tree text
scoped_meaning tree text (Some (home, rest)) = scope_meaning tree (in_module home) rest

-- the meaning of a text: `.` is the empty identifier; the empty text isn't a name
abbrev pub meaning : Contents → List ℕ → Result (List ℕ) NameError
meaning tree [] = Err Unknown
meaning tree (octet ∷ []) =
    if octet == 46 then Ok []
    else scoped_meaning tree (octet ∷ []) (module_after None (octet ∷ []))
meaning tree (octet ∷ next ∷ more) =
    scoped_meaning tree (octet ∷ next ∷ more) (module_after None (octet ∷ next ∷ more))

-- ---- for private functions

abbrev pub further_meaning : Contents → List ℕ → List (List ℕ) → Result (List ℕ) NameError
further_meaning tree so_far parts = parts_meaning tree (oid_of_child tree so_far) so_far parts
