-- What `Meaning` computes for a part, for parts and for a text is a meaning as `Meant` defines it, and the only one.
use Rattle.std.proofs.Common.{arith, ◌≡◌, ◌≢◌, ℕ, Bool, true, false, eqb, cond, List, [], ◌∷◌, ◌++◌, length, Option, Some, None, Result, Ok, Err}
use Rattle.std.proofs.Common.{refl, sym, ◌∙◌, ap, subst, inl, inr}
use Rattle.std.proofs.lemmas.Grind.{common_steps}
use Rattle.std.proofs.lemmas.Bool.{cond_both, eqb-true, eqb-false, leb-true, leb-false, le-leb, lt-leb, ne_eqb}
use Rattle.smi_show.specs.{index.Pieces.piece_numbers, name.Cutting.module_after, name.Cutting.name_parts, name.Word.Word}
use Rattle.smi_show.specs.{name.Word.a_piece, name.Word.a_label, name.Word.word_of, declared.name.error.NameError.NameError}
use Rattle.smi_show.specs.name.Meaning.{and_then, meaning_in, fitting, meaning, or_unknown, part_meaning, parts_meaning, scope_meaning}
use Rattle.smi_show.specs.name.Meaning.{scoped_meaning, word_meaning}
use Rattle.smi_show.specs.name.Meant.{Scope, among_roots, anywhere, in_module, found_in, IsFound, IsRoomFor, IsScoped, TextMeans, PartMeans}
use Rattle.smi_show.specs.name.Meant.{PartsMean, ScopeMeans, is_loaded_in}
use Rattle.smi_show.specs.declared.name.error.NameError.TheVariants.{BadIndex, BadNumber, TooLong, Unknown}
use Rattle.smi_show.proofs.Parted.{are_parts, has_module, has_no_module, no_module, one_module, only_parts}
use Rattle.smi_show.proofs.MeantWords.{WordIs, index_fails, label_word, number_fails, states_word, word_is}
use Rattle.smi_tree.specs.{Naming.oid_of_child, Tree.Contents}
use Rattle.smi_show.proofs.NumericNames.{scoped}

abbrev Outcome : Type 0
Outcome = Result (List ℕ) NameError

abbrev LookUp : Type 0
LookUp = List ℕ → Option (List ℕ)

-- ---- one part

room : (o : List ℕ) → IsRoomFor o (fitting o)
room o = grind (arith, common_steps, cond_both, leb-true, leb-false)

room_only : (o : List ℕ) (result : Outcome) → IsRoomFor o result → result ≡ fitting o
room_only o result (inl fits) = rw (le-leb (length o) 128 fits.0) fits.1
room_only o result (inr long) = rw (lt-leb (length o) 128 long.0) long.1

found : (read : Option (List ℕ)) → IsFound read (or_unknown read)
found None = refl
found (Some o) = refl

found_only : (read : Option (List ℕ)) (result : Outcome) → IsFound read result → result ≡ or_unknown read
found_only None result h = h
found_only (Some o) result h = h

part_at : (look_up : LookUp) (so_far part : List ℕ) (word : Result Word NameError) → WordIs part word
    → PartMeans look_up so_far part (and_then word (word_meaning look_up so_far))
part_at look_up so_far part (Ok (a_piece piece)) h = inl (piece, h, room (so_far ++ piece_numbers piece))
part_at look_up so_far part (Ok (a_label label)) h = grind (arith, common_steps, found)
part_at look_up so_far part (Err BadNumber) h = inr (inr (inl (h, refl)))
part_at look_up so_far part (Err BadIndex) h = inr (inr (inr (h, refl)))
part_at look_up so_far part (Err Unknown) h = absurd h
part_at look_up so_far part (Err TooLong) h = absurd h

part_means : (look_up : LookUp) (so_far part : List ℕ) → PartMeans look_up so_far part (part_meaning look_up so_far part)
part_means look_up so_far part = part_at look_up so_far part (word_of part) (word_is part)

part_only : (look_up : LookUp) (so_far part : List ℕ) (result : Outcome) → PartMeans look_up so_far part result → result ≡ part_meaning look_up so_far part
part_only look_up so_far part result h = grind (arith, common_steps, room_only, states_word, found_only, label_word, number_fails, index_fails)

-- ---- parts

parts_mean : (tree : Contents) (look_up : LookUp) (so_far : List ℕ) (parts : List (List ℕ))
    → PartsMean tree look_up so_far parts (parts_meaning tree look_up so_far parts)
parts_mean tree look_up so_far [] = refl
parts_mean tree look_up so_far (part ∷ more) =
    at (λ next. parts_mean tree (oid_of_child tree next) next more) (part_meaning look_up so_far part) (part_means look_up so_far part)
  where
    at : ((next : List ℕ) → PartsMean tree (oid_of_child tree next) next more (parts_meaning tree (oid_of_child tree next) next more))
        → (first : Outcome) → PartMeans look_up so_far part first
        → PartsMean tree look_up so_far (part ∷ more) (and_then first (λ o. parts_meaning tree (oid_of_child tree o) o more))
    at later (Ok next) h = inl (next, h, later next)
    at later (Err why) h = inr (why, h, refl)

parts_only : (tree : Contents) (look_up : LookUp) (so_far : List ℕ) (parts : List (List ℕ)) (result : Outcome)
    → PartsMean tree look_up so_far parts result → result ≡ parts_meaning tree look_up so_far parts
parts_only tree look_up so_far [] result h = h
parts_only tree look_up so_far (part ∷ more) result h =
    let returned = λ (first : Outcome). and_then first (λ o. parts_meaning tree (oid_of_child tree o) o more) in
    elim h [
      | inl goes ↦ parts_only tree (oid_of_child tree goes.0) goes.0 more result goes.2 ∙ ap returned (part_only look_up so_far part (Ok goes.0) goes.1)
      | inr fails ↦ fails.2 ∙ ap returned (part_only look_up so_far part (Err fails.0) fails.1)
    ]

-- ---- a text

module _ (tree : Contents) where
  scope_means : (scope : Scope) (rest : List ℕ) → ScopeMeans tree scope rest (scope_meaning tree scope rest)
  scope_means scope rest =
      let means = parts_mean tree (found_in tree scope) [] (name_parts rest) in
      cond_both (is_loaded_in tree scope) (meaning_in tree scope (name_parts rest)) (Err Unknown) (ScopeMeans tree scope rest)
      (λ is. inr (is, (name_parts rest, are_parts rest, means))) (λ is. inl (is, refl))

  scope_only : (scope : Scope) (rest : List ℕ) (result : Outcome) → ScopeMeans tree scope rest result → result ≡ scope_meaning tree scope rest
  scope_only scope rest result (inl missing) = rw missing.0 missing.1
  scope_only scope rest result (inr (there, (parts, are, h))) = grind (arith, common_steps, parts_only, only_parts)

  -- a text that isn't empty and has no `::` outside quotes has a scope and a rest, and what `plain_meaning` computes for it is the meaning of the rest in
  -- this scope
  plain_at : (octet : ℕ) (more : List ℕ) (dotted : Bool) → eqb octet 46 ≡ dotted → module_after None (octet ∷ more) ≡ None
      → (scope : Scope) × (rest : List ℕ) × IsScoped (octet ∷ more) scope rest
      × (scope_meaning tree scope rest ≡ cond dotted (scope_meaning tree among_roots more) (scope_meaning tree anywhere (octet ∷ more)))
  plain_at octet more true is none = (among_roots, more, (has_no_module (octet ∷ more) none, ap (λ (o : ℕ). o ∷ more) (eqb-true octet 46 is)), refl)
  plain_at octet more false is none =
      (anywhere, octet ∷ more, (has_no_module (octet ∷ more) none, refl, λ rest e. eqb-false octet 46 is (let same : octet ≡ 46 = cc in same)), refl)

  scope_at : (text : List ℕ) (read : Option (List ℕ × List ℕ)) → text ≢ [] → module_after None text ≡ read
      → (scope : Scope) × (rest : List ℕ) × IsScoped text scope rest × (scope_meaning tree scope rest ≡ scoped_meaning tree text read)
  scope_at text (Some (home, rest)) some is = (in_module home, rest, has_module text home rest is, refl)
  scope_at [] None some is = absurd (some refl)
  scope_at (octet ∷ more) None some is = plain_at octet more (eqb octet 46) refl is

  scope_found : (text : List ℕ) (scope : Scope) (rest : List ℕ) → IsScoped text scope rest → scope_meaning tree scope rest
      ≡ scoped_meaning tree text (module_after None text)
  scope_found text (in_module home) rest is = sym (ap (scoped_meaning tree text) (one_module text home rest is))
  scope_found text among_roots rest is = rw (no_module text is.0) (rw is.1 refl)
  scope_found [] anywhere rest is = ap (scope_meaning tree anywhere) is.1
  scope_found (octet ∷ more) anywhere rest is =
      let apart : eqb octet 46 ≡ false = ne_eqb octet 46 (λ same. is.2 more (ap (λ (o : ℕ). o ∷ more) same)) in
      ap (scope_meaning tree anywhere) is.1 ∙ rw (no_module (octet ∷ more) is.0) (rw apart refl)

  long_means : (text : List ℕ) → text ≢ [] → text ≢ 46 ∷ [] → TextMeans tree text (meaning tree text)
  long_means text some long =
      let s = scope_at text (module_after None text) some refl in
      let same : scope_meaning tree s.0 s.1 ≡ meaning tree text = s.3 ∙ sym (scoped tree text some long) in
      inr (inr (some, long, (s.0, s.1, s.2, subst (ScopeMeans tree s.0 s.1) same (scope_means s.0 s.1))))

  pub means : (text : List ℕ) → TextMeans tree text (meaning tree text)
  means [] = inl (refl, refl)
  means (octet ∷ []) = at (eqb octet 46) refl
    where
      at : (b : Bool) → eqb octet 46 ≡ b → TextMeans tree (octet ∷ []) (meaning tree (octet ∷ []))
      at true same = let is : octet ≡ 46 = eqb-true octet 46 same in inr (inl (ap (λ (o : ℕ). o ∷ []) is, rw same refl))
      at false same = long_means (octet ∷ []) (λ e. (let w : ⊥ = cc in w)) (λ e. eqb-false octet 46 same (let is : octet ≡ 46 = cc in is))
  means (octet ∷ next ∷ more) = long_means (octet ∷ next ∷ more) (λ e. (let w : ⊥ = cc in w)) (λ e. (let w : ⊥ = cc in w))

  means_only : (text : List ℕ) (result : Outcome) → TextMeans tree text result → result ≡ meaning tree text
  means_only text result (inl none) = none.1 ∙ sym (ap (meaning tree) none.0)
  means_only text result (inr (inl dot)) = dot.1 ∙ sym (ap (meaning tree) dot.0)
  means_only text result (inr (inr (some, long, (scope, rest, is, h)))) =
      scope_only scope rest result h ∙ scope_found text scope rest is ∙ sym (scoped tree text some long)

  pub one_meaning : (text : List ℕ) (a b : Outcome) → TextMeans tree text a → TextMeans tree text b → a ≡ b
  one_meaning text a b h k = means_only text a h ∙ sym (means_only text b k)
