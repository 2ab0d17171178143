-- `value_and_rest` returns the value of an index part and the rest if and only if `ReadsValue` holds of them (`part_found`, `part_only`), and `values_of`
-- returns the values of all parts if and only if `ReadValues` holds of them (`all_found`, `all_only`).
use Rattle.std.proofs.{lemmas.Grind.common_steps, Math.Seq.take-append_seam, Math.Seq.drop-append_seam, lemmas.Bool.leb-true, lemmas.Bool.le-leb}
use Rattle.std.proofs.{lemmas.Bool.false_from_ne_true, lemmas.List.take-append-drop, lemmas.List.length-take-le, lemmas.List.append-nil}
use Rattle.std.proofs.Common.{◌≡◌, ◌≢◌, ℕ, Bool, true, false, cond, List, [], ◌∷◌, ◌++◌, length, Option, Some, None, option_map, option_and_then}
use Rattle.std.proofs.Common.{is_some, refl, sym, ◌∙◌, ◌↔◌, IsTrue, ap, subst, arith, length-append}
use Rattle.std.specs.Bool.{OnTrue}
use Rattle.smi_tree.specs.{declared.columns.index_part.Extent.Extent, declared.columns.index_part.IndexPart.IndexPart}
use Rattle.smi_tree.specs.declared.columns.index_part.Extent.TheVariants.{Fixed, Counted, Implied}
use Rattle.smi_show.specs.index.Index.{AreOctetNumbers, IsInExtent, LeavesIn, extent_of, is_of_octets, ReadsValue, ReadValues}
use Rattle.smi_show.specs.private.index.IndexValues.{split_numbers, counted, remaining, of_octets, in_extent, value_and_rest, values_of}

abbrev Pair : Type 0
Pair = List ℕ × List ℕ

same_pair : (p q : Pair) → Some p ≡ Some q → (p.0 ≡ q.0) × (p.1 ≡ q.1)
same_pair p q h = let e : p ≡ q = cc in (ap (λ (r : Pair). r.0) e, ap (λ (r : Pair). r.1) e)

-- if `Some x` on the condition `b`, and otherwise None, is `Some y`, then `b` is true and `x` is `y`
pub chosen : {A : Type 0} (b : Bool) (x y : A) → cond b (Some x) None ≡ Some y → (b ≡ true) × (x ≡ y)
chosen true x y h = (refl, cc)
chosen false x y h = let no : ⊥ = cc in absurd no

-- if `size` numbers are split off, then the value has this size, and the numbers are the value and the rest
cut_found : (size : ℕ) (numbers value rest : List ℕ) → split_numbers size numbers ≡ Some (value, rest) → (numbers ≡ value ++ rest) × (length value ≡ size)
cut_found size numbers value rest h = grind (arith, common_steps, chosen, take-append-drop, length-take-le, leb-true)

cut_only : (value rest : List ℕ) → split_numbers (length value) (value ++ rest) ≡ Some (value, rest)
cut_only value rest = grind (arith, common_steps, le-leb, length-append, take-append_seam, drop-append_seam)

-- if a value with its length before it is read, then the numbers are the length, the value and the rest
counted_found : (numbers value rest : List ℕ) → counted numbers ≡ Some (value, rest) → numbers ≡ (length value ∷ value) ++ rest
counted_found [] value rest h = let no : ⊥ = cc in absurd no
counted_found (size ∷ numbers) value rest h = grind (arith, common_steps, cut_found)

-- if an implied value is read, then it is all of the numbers, at least one
remaining_found : (numbers value rest : List ℕ) → remaining numbers ≡ Some (value, rest) → (numbers ≡ value ++ rest) × (value ≢ []) × (rest ≡ [])
remaining_found [] value rest h = let no : ⊥ = cc in absurd no
remaining_found (n ∷ more) value rest h = grind (arith, common_steps, same_pair, append-nil)

remaining_only : (value : List ℕ) → value ≢ [] → remaining (value ++ []) ≡ Some (value, [])
remaining_only [] some = absurd (some refl)
remaining_only (n ∷ more) some = ap (λ (v : List ℕ). Some (n ∷ v, [])) (append-nil more)

-- if a value of octets is read, then each of its numbers is an octet
octets_found : (read : Option Pair) (value rest : List ℕ) → of_octets read ≡ Some (value, rest) → (read ≡ Some (value, rest)) × AreOctetNumbers value
octets_found None value rest h = let no : ⊥ = cc in absurd no
octets_found (Some (first, more)) value rest h = grind (arith, common_steps, chosen)

-- if a value is read and only octets are allowed, then each of its numbers is an octet
either_found : (octets : Bool) (read : Option Pair) (value rest : List ℕ) → cond octets (of_octets read) read ≡ Some (value, rest)
    → (read ≡ Some (value, rest)) × OnTrue octets (AreOctetNumbers value)
either_found true read value rest h = octets_found read value rest h
either_found false read value rest h = (h, tt)

either_only : (octets : Bool) (read : Option Pair) (value rest : List ℕ) → read ≡ Some (value, rest) → OnTrue octets (AreOctetNumbers value)
    → cond octets (of_octets read) read ≡ Some (value, rest)
either_only true read value rest is are = ap of_octets is ∙ rw are refl
either_only false read value rest is are = is

-- `numbers` are an encoding of `value` in this extent, and then `rest`, which is empty if the extent is `Implied`
pub record IsSplit (extent : Extent) (numbers value rest : List ℕ) : Type 0 where
  pub here : List ℕ
  pub whole : numbers ≡ here ++ rest
  pub encoding : IsInExtent extent value here
  pub after : LeavesIn extent rest

extent_found : (extent : Extent) (numbers value rest : List ℕ) → in_extent extent numbers ≡ Some (value, rest) → IsSplit extent numbers value rest
extent_found (Fixed size) numbers value rest h = grind (arith, common_steps, cut_found)
extent_found Counted numbers value rest h = grind (arith, common_steps, counted_found)
extent_found Implied numbers value rest h = grind (arith, common_steps, remaining_found)

extent_only : (extent : Extent) (value here rest : List ℕ) → IsInExtent extent value here → LeavesIn extent rest
    → in_extent extent (here ++ rest) ≡ Some (value, rest)
extent_only (Fixed size) value here rest h after = rw (h.1, ← h.0) (cut_only value rest)
extent_only Counted value here rest h after = rw h (cut_only value rest)
extent_only Implied value here rest h after = rw (h.1, after) (remaining_only value h.0)

-- if a value of a part is computed, then the numbers are its encoding and the rest
pub part_found : (part : IndexPart) (numbers value rest : List ℕ) → value_and_rest part numbers ≡ Some (value, rest) → ReadsValue part numbers value rest
part_found part numbers value rest h =
    let are = either_found (is_of_octets part) (in_extent (extent_of part) numbers) value rest h in
    let e = extent_found (extent_of part) numbers value rest are.0 in
    record { here = e.here; whole = e.whole; encoding = (are.1, e.encoding); after = e.after }

pub part_only : (part : IndexPart) (numbers value rest : List ℕ) → ReadsValue part numbers value rest → value_and_rest part numbers ≡ Some (value, rest)
part_only part numbers value rest h = grind (arith, common_steps, either_only, extent_only)

pub one_prefix : (part : IndexPart) (numbers value rest other left : List ℕ) → ReadsValue part numbers value rest → ReadsValue part numbers other left
    → (value ≡ other) × (rest ≡ left)
one_prefix part numbers value rest other left h g =
    same_pair (value, rest) (other, left) (sym (part_only part numbers value rest h) ∙ part_only part numbers other left g)

-- if `values` is `value` before the values that were read, then `read` is `Some` of the values after the first
pub first_value : (value : List ℕ) (read : Option (List (List ℕ))) (values : List (List ℕ)) → option_map (λ vs. value ∷ vs) read ≡ Some values
    → (more : List (List ℕ)) × (read ≡ Some more) × (values ≡ value ∷ more)
first_value value None values h = let no : ⊥ = cc in absurd no
first_value value (Some more) values h = (more, refl, cc)

step_found : (part : IndexPart) (parts : List IndexPart) (numbers : List ℕ) (values : List (List ℕ)) (prefix : Option Pair)
    → value_and_rest part numbers ≡ prefix
    → ((rest : List ℕ) (more : List (List ℕ)) → values_of parts rest ≡ Some more → ReadValues parts rest more)
    → option_and_then (λ (value, rest). option_map (λ vs. value ∷ vs) (values_of parts rest)) prefix ≡ Some values → ReadValues (part ∷ parts) numbers values
step_found part parts numbers values None is again h = let no : ⊥ = cc in absurd no
step_found part parts numbers values (Some (value, rest)) is again h =
    let e = first_value value (values_of parts rest) values h in
    let P : List (List ℕ) → Type 0 = λ vs. ReadValues (part ∷ parts) numbers vs in
    subst P (sym e.2) (rest, part_found part numbers value rest is, again rest e.0 e.1)

pub all_found : (parts : List IndexPart) (numbers : List ℕ) (values : List (List ℕ)) → values_of parts numbers ≡ Some values → ReadValues parts numbers values
all_found [] [] [] h = refl
all_found [] [] (value ∷ values) h = let no : ⊥ = cc in absurd no
all_found [] (n ∷ more) values h = let no : ⊥ = cc in absurd no
all_found (part ∷ parts) numbers values h = step_found part parts numbers values (value_and_rest part numbers) refl (all_found parts) h

pub all_only : (parts : List IndexPart) (numbers : List ℕ) (values : List (List ℕ)) → ReadValues parts numbers values → values_of parts numbers ≡ Some values
all_only [] numbers [] h = ap (values_of []) h
all_only [] numbers (value ∷ values) h = absurd h
all_only (part ∷ parts) numbers [] h = absurd h
all_only (part ∷ parts) numbers (value ∷ values) h =
    let prefix : value_and_rest part numbers ≡ Some (value, h.0) = part_only part numbers value h.0 h.1 in
    let more : values_of parts h.0 ≡ Some values = all_only parts h.0 values h.2 in
    rw prefix (rw more refl)

pub one_reading_of_all : (parts : List IndexPart) (numbers : List ℕ) (values others : List (List ℕ)) → ReadValues parts numbers values
    → ReadValues parts numbers others → values ≡ others
one_reading_of_all parts numbers values others h g = grind (arith, common_steps, all_only)

-- if the numbers encode values of all parts, then `values_of` returns values; `if_read` says the converse
pub read_if : (parts : List IndexPart) (numbers : List ℕ) → ((values : List (List ℕ)) × ReadValues parts numbers values)
    → is_some (values_of parts numbers) ≡ true
read_if parts numbers h = ap is_some (all_only parts numbers h.0 h.1)

some_of : (o : Option (List (List ℕ))) → is_some o ≡ true → (values : List (List ℕ)) × (o ≡ Some values)
some_of None h = let no : ⊥ = cc in absurd no
some_of (Some values) h = (values, refl)

pub if_read : (parts : List IndexPart) (numbers : List ℕ) → is_some (values_of parts numbers) ≡ true
    → (values : List (List ℕ)) × ReadValues parts numbers values
if_read parts numbers h = let e = some_of (values_of parts numbers) h in (e.0, all_found parts numbers e.0 e.1)

-- if `b` is whether the values of all parts are computed, then `b` is true if and only if the numbers encode values of the parts
pub as_stated : (b : Bool) (parts : List IndexPart) (numbers : List ℕ) → b ≡ is_some (values_of parts numbers)
    → IsTrue b ↔ ((values : List (List ℕ)) × ReadValues parts numbers values)
as_stated b parts numbers h = (λ t. if_read parts numbers (sym h ∙ t), λ read. h ∙ read_if parts numbers read)

pub as_computed : (b : Bool) (parts : List IndexPart) (numbers : List ℕ) → IsTrue b ↔ ((values : List (List ℕ)) × ReadValues parts numbers values)
    → b ≡ is_some (values_of parts numbers)
as_computed true parts numbers h = sym (read_if parts numbers (h.0 refl))
as_computed false parts numbers h = grind (arith, common_steps, false_from_ne_true, is_some, if_read)
