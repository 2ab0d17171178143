-- The bindings of a Get's request, name by name, and whether a reply is for these names.
use Rattle.std.proofs.{lemmas.Grind.common_steps, lemmas.Grind.flat_map-append, lemmas.Bool.and_parts}
use Rattle.std.proofs.Common.{◌≡◌, ℕ, ◌+◌, ◌<◌, ◌≤◌, Bool, true, false, List, [], ◌∷◌, ◌++◌, length, take, drop, get_or, refl, sym, ◌∙◌, ap, arith}
use Rattle.std.proofs.Common.{length-append, append-nil, add-one, drop-cons}
use Rattle.std.proofs.lemmas.List.{take_all, take-append-drop, take_more, map-append}
use Rattle.std.specs.{Prelude.◌&&◌, Prelude.not, Prelude.pos, Prelude.Ok, Bool.nat_eq, List.AllByRecursion, Ordering.int_eq}
use Rattle.std.specs.Cmp.Lexicographic.{pointwise}
use Rattle.snmp_oid.specs.Identifier.{wire}
use Rattle.snmp_wire.specs.{ber.Value.null_value, Message.VarBind, Message.Message, Laws.HasPieces, Range.IsBindingInRange}
use Rattle.snmp_wire.specs.Canon.{canon, canon_binding, canon_bindings, canon_fields, canon_prefix, canon_head, canon_opening}
use Rattle.snmp_walk.specs.{Names.is_end, Get.asked_names, Get.are_for, Get.answers_of}

-- whether p has the wire form of o, and isn't endOfMibView
abbrev pub is_for : List ℕ → VarBind → Bool
is_for o p = pointwise nat_eq p.name (wire o) && not (is_end p.value)

pub for_more : (names : List (List ℕ)) (i : ℕ) (o : List ℕ) (p : VarBind) (more : List VarBind) → i < length names → o ≡ get_or names i o → is_for o p ≡ true
    → are_for (drop i names) (p ∷ more) ≡ are_for (drop (i + 1) names) more
for_more names i o p more h e is = rw (drop-cons names i o h, ← e, add-one, is)

pub for_none : (names : List (List ℕ)) (i : ℕ) (o : List ℕ) → i < length names → o ≡ get_or names i o → are_for (drop i names) [] ≡ false
for_none names i o h e = rw (drop-cons names i o h)

-- the encoding of `ps ++ qs` is the encoding of `ps` followed by the encoding of `qs`
canon_append : (ps qs : List VarBind) → canon_bindings (ps ++ qs) ≡ canon_bindings ps ++ canon_bindings qs
unfolding canon_bindings
canon_append ps qs = flat_map-append canon_binding ps qs

pub canon_one : (p : VarBind) → canon_bindings (p ∷ []) ≡ canon_binding p
unfolding canon_bindings
canon_one p = append-nil (canon_binding p)

pub written_more : (names : List (List ℕ)) (i : ℕ) (o : List ℕ) (p : VarBind) → i < length names → o ≡ get_or names i o
    → p ≡ record { name = wire o; value = null_value }
    → canon_bindings (asked_names (take (i + 1) names)) ≡ canon_bindings (asked_names (take i names)) ++ canon_binding p
written_more names i o p h e is = rw (take_more names i o h, ← e, is, map-append, canon_append, canon_one)

-- the encoding of the bindings for the first i names isn't longer than the encoding of the bindings for all names
pub longer_all : (names : List (List ℕ)) (i : ℕ) → length (canon_bindings (asked_names (take i names))) ≤ length (canon_bindings (asked_names names))
longer_all names i =
    let whole : canon_bindings (asked_names names) ≡ canon_bindings (asked_names (take i names)) ++ canon_bindings (asked_names (drop i names)) =
    ap (λ (ns : List (List ℕ)). canon_bindings (asked_names ns)) (sym (take-append-drop i names))
    ∙ ap canon_bindings (map-append _ (take i names) (drop i names)) ∙ canon_append (asked_names (take i names)) (asked_names (drop i names)) in
    omega (arith, ap length whole, length-append (canon_bindings (asked_names (take i names))) (canon_bindings (asked_names (drop i names))))

-- the encoded head of m, for a total length of the bindings, doesn't depend on the bindings of m
pub head_of : (m : Message) (total : ℕ) → canon_head (record m { bindings = [] }) total ≡ canon_head m total
unfolding canon_head canon_prefix canon_opening canon_fields
head_of m total = refl

-- the encoding of m is its head and then its bindings
module _ (law : HasPieces) (m bare : Message) (same : bare ≡ record m { bindings = [] }) where
  pub pieces_of : (total : ℕ) (text : List ℕ) → total ≡ length (canon_bindings m.bindings) → text ≡ canon_bindings m.bindings
      → canon_head bare total ++ text ≡ canon m
  pieces_of total text long is = grind (arith, common_steps, head_of)

  pub size_of : (total : ℕ) → total ≡ length (canon_bindings m.bindings) → length (canon_head bare total) + total ≡ length (canon m)
  size_of total long =
      let whole = pieces_of total (canon_bindings m.bindings) long refl in
      omega (arith, ap length whole, long, length-append (canon_head bare total) (canon_bindings m.bindings))

pub none_written : (0 ≤ 65507) × (0 ≡ length (canon_bindings [])) × ([] ≡ canon_bindings [])
unfolding canon_bindings
none_written = (omega arith, refl, refl)

-- if the bindings are for the names, there are as many
pub for_length : (names : List (List ℕ)) (ps : List VarBind) → are_for names ps ≡ true → length ps ≡ length names
for_length [] [] e = refl
for_length (o ∷ names) (p ∷ ps) e = let rest = for_length names ps (and_parts (is_for o p) (are_for names ps) e).1 in omega (arith, rest)
for_length names ps e = let no : ⊥ = cc in absurd no

pub taken_whole : (names : List (List ℕ)) (ps : List VarBind) → are_for names ps ≡ true → take (length names) ps ≡ ps
taken_whole names ps e = take_all (length names) ps (omega (arith, for_length names ps e))

range_push : (ps : List VarBind) (p : VarBind) → AllByRecursion IsBindingInRange ps → IsBindingInRange p → AllByRecursion IsBindingInRange (ps ++ p ∷ [])
range_push [] p h k = (k, tt)
range_push (q ∷ ps) p h k = (h.0, range_push ps p h.1 k)

pub range_more : (names : List (List ℕ)) (i : ℕ) (o : List ℕ) → i < length names → o ≡ get_or names i o
    → IsBindingInRange (record { name = wire o; value = null_value })
    → AllByRecursion IsBindingInRange (asked_names (take i names)) → AllByRecursion IsBindingInRange (asked_names (take (i + 1) names))
range_more names i o h e here prefix = rw (take_more names i o h, ← e, map-append) (range_push _ _ prefix here)

-- if m has no error status, and its bindings are for these names, then `answers_of` computes `Ok` of them
pub answered_all : (names : List (List ℕ)) (m : Message) (rows : List VarBind) → int_eq m.a (pos 0) ≡ true → are_for names m.bindings ≡ true
    → rows ≡ take (length names) m.bindings
    → Ok rows ≡ answers_of names m
answered_all names m rows status are is = grind (arith, common_steps, taken_whole)
