-- A text that consists of at most 128 numbers means these numbers, whatever nodes the tree has.
use Rattle.std.proofs.{lemmas.Grind.common_steps, lemmas.Bool.and_parts, lemmas.Bool.le-leb, lemmas.Bool.ne_eqb, lemmas.List.append-nil}
use Rattle.std.proofs.Common.{◌≡◌, ◌≢◌, ℕ, ◌≤◌, true, false, eqb, List, [], ◌∷◌, ◌++◌, length, inl, inr, Option, Some, None, Result, Ok, refl, sym}
use Rattle.std.proofs.Common.{◌∙◌, ap, subst, append_assoc, arith, length-append}
use Rattle.std.specs.{Char.is_ascii_digit, Str.all_ascii_digits}
use Rattle.snmp_oid.specs.Numeric.{IsDotted, IsNumericName}
use Rattle.smi_show.specs.declared.name.error.NameError.{NameError}
use Rattle.smi_show.specs.{name.Cutting.module_after, name.Cutting.name_parts, name.Meant.anywhere}
use Rattle.smi_show.specs.name.Meaning.{and_then, meaning_in, fitting, further_meaning, meaning, parts_meaning, plain_meaning, scoped_meaning}
use Rattle.smi_show.proofs.{NumberParts.number_next, PlainOctets.apart, PlainOctets.plain_digits, Readers.before_module}
use Rattle.smi_tree.specs.{Naming.oid_of_child, Naming.oid_anywhere, Naming.oid_of_root, Tree.Contents}
use Rattle.smi_show.proofs.ShownWords.{dot_module, plain_is_whole, scopes}

-- `fitting` returns an identifier of at most 128 numbers unchanged
pub fits : (o : List ℕ) → length o ≤ 128 → fitting o ≡ Ok o
fits o low = rw (le-leb (length o) 128 low) refl

pub shorter : (prefix rest : List ℕ) → length (prefix ++ rest) ≤ 128 → length prefix ≤ 128
shorter prefix rest h = omega (arith, length-append prefix rest)

-- the meaning of a text that is neither empty nor `.` is what `scoped_meaning` computes from the text and its module, if it has one
pub scoped : (tree : Contents) (text : List ℕ) → text ≢ [] → text ≢ 46 ∷ [] → meaning tree text ≡ scoped_meaning tree text (module_after None text)
scoped tree [] some more = absurd (some refl)
scoped tree (octet ∷ []) some more = rw (ne_eqb octet 46 (λ e. more (ap (λ (n : ℕ). n ∷ []) e))) refl
scoped tree (octet ∷ next ∷ rest) some more = refl

-- if `text` is the numbers `o` with dots between them, and `so_far` followed by `o` has at most 128 numbers, then the parts of `text`, after parts that mean
-- `so_far`, mean `so_far` followed by `o`
dotted_parts : (tree : Contents) (look_up : List ℕ → Option (List ℕ)) (so_far text o : List ℕ) → IsDotted text o → length (so_far ++ o) ≤ 128
    → parts_meaning tree look_up so_far (name_parts text) ≡ Ok (so_far ++ o)
dotted_parts tree look_up so_far text [] h low = absurd h
dotted_parts tree look_up so_far text (n ∷ []) h low =
    number_next tree look_up so_far text text n None h refl
    ∙ ap (λ (r : Result (List ℕ) NameError). and_then r (λ p. further_meaning tree p [])) (fits (so_far ++ n ∷ []) low)
dotted_parts tree look_up so_far text (n ∷ m ∷ more) (first, rest, is, numeral, dotted) low =
    let next : List ℕ = so_far ++ n ∷ [] in
    let grouped : next ++ (m ∷ more) ≡ so_far ++ (n ∷ m ∷ more) = append_assoc so_far (n ∷ []) (m ∷ more) in
    let low_all : length (next ++ (m ∷ more)) ≤ 128 = subst (λ (t : List ℕ). length t ≤ 128) (sym grouped) low in
    number_next tree look_up so_far text first n (Some rest) numeral is
    ∙ ap (λ (r : Result (List ℕ) NameError). and_then r (λ p. further_meaning tree p (name_parts rest))) (fits next (shorter next (m ∷ more) low_all))
    ∙ dotted_parts tree (oid_of_child tree next) next rest (m ∷ more) dotted low_all
    ∙ ap (λ (t : List ℕ). Ok t) grouped

-- a text of numbers with dots between them has no module
dotted_module : (text o : List ℕ) → IsDotted text o → module_after None text ≡ None
dotted_module text [] h = absurd h
dotted_module text (n ∷ []) h =
    ap (module_after None) (sym (append-nil text)) ∙ scopes text [] (plain_is_whole text (plain_digits text h.digits))
dotted_module text (n ∷ m ∷ more) (first, rest, is, numeral, dotted) =
    grind (arith, common_steps, dotted_module rest (m ∷ more) dotted, scopes, plain_is_whole, plain_digits, before_module, dot_module)

-- if a text consists of digits, then its first octet isn't a dot
digit_no_dot : (octet : ℕ) (more : List ℕ) → all_ascii_digits (octet ∷ more) ≡ true → eqb octet 46 ≡ false
digit_no_dot octet more digits = apart is_ascii_digit octet 46 (and_parts (is_ascii_digit octet) (all_ascii_digits more) digits).0 refl

begins_with_digit : (octet : ℕ) (text o : List ℕ) → IsDotted (octet ∷ text) o → eqb octet 46 ≡ false
begins_with_digit octet text [] h = absurd h
begins_with_digit octet text (n ∷ []) h = digit_no_dot octet text h.digits
begins_with_digit octet text (n ∷ m ∷ more) ([], rest, is, numeral, dotted) = absurd (numeral.some refl)
begins_with_digit octet text (n ∷ m ∷ more) ((other ∷ first), rest, is, numeral, dotted) = grind (arith, common_steps, digit_no_dot)

dotted_some : (text o : List ℕ) → IsDotted text o → text ≢ []
dotted_some text [] h same = absurd h
dotted_some text (n ∷ []) h same = h.some same
dotted_some text (n ∷ m ∷ more) ([], rest, is, numeral, dotted) same = numeral.some refl
dotted_some text (n ∷ m ∷ more) ((other ∷ first), rest, is, numeral, dotted) same = let wrong : ⊥ = cc in wrong

dotted_plain : (tree : Contents) (text o : List ℕ) → IsDotted text o → plain_meaning tree text ≡ meaning_in tree anywhere (name_parts text)
dotted_plain tree [] o h = refl
dotted_plain tree (octet ∷ more) o h = rw (begins_with_digit octet more o h) refl

no_dot_alone : (text o : List ℕ) → IsDotted text o → text ≢ 46 ∷ []
no_dot_alone text o h same = grind (arith, common_steps, begins_with_digit)

pub numeric_meaning : (tree : Contents) (text o : List ℕ) → IsNumericName text o → length o ≤ 128 → meaning tree text ≡ Ok o
numeric_meaning tree text o (inl h) low = ap (meaning tree) h.0 ∙ ap (λ (t : List ℕ). Ok t) (sym h.1)
numeric_meaning tree text o (inr (inl h)) low =
    scoped tree text (dotted_some text o h) (no_dot_alone text o h)
    ∙ ap (scoped_meaning tree text) (dotted_module text o h)
    ∙ dotted_plain tree text o h
    ∙ dotted_parts tree (oid_anywhere tree) [] text o h low
numeric_meaning tree text o (inr (inr (rest, is, h))) low =
    let some : 46 ∷ rest ≢ [] = λ same. (let wrong : ⊥ = cc in wrong) in
    let more : 46 ∷ rest ≢ 46 ∷ [] = λ same. dotted_some rest o h (let e : rest ≡ [] = cc in e) in
    ap (meaning tree) is
    ∙ scoped tree (46 ∷ rest) some more
    ∙ ap (scoped_meaning tree (46 ∷ rest)) (dot_module rest (dotted_module rest o h))
    ∙ dotted_parts tree oid_of_root [] rest o h low
