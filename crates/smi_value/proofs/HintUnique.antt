-- A hint shows a value as only one text (`same_by_hint`).
use Rattle.std.proofs.lemmas.Grind.{common_steps}
use Rattle.std.proofs.Common.{◌≡◌, ℕ, ℤ, ◌-◌, inl, inr, List, [], ◌∷◌, ◌++◌, drop, get_or, refl, sym, ◌∙◌, ap, subst, arith}
use Rattle.smi_value.specs.{hint.Number.IsNumberHint, hint.Hint.ShowsNumber, hint.Hint.Shows, declared.hint.number.NumberForm.NumberForm}
use Rattle.smi_value.specs.{declared.hint.HintValue.HintValue, hint.Spec.AreSpecs, declared.hint.spec.Spec.Spec}
use Rattle.smi_value.specs.declared.hint.number.NumberForm.TheVariants as form
use Rattle.smi_value.specs.declared.hint.HintValue.TheVariants as value
use Rattle.smi_value.specs.hint.Pieces.{IsCut, AreGroups, ShowsOctets, pieces_text, times_of, body_of, specs_after}
use Rattle.smi_value.proofs.HintSpec.{same_spec, same_rest}

same_specs : (text : List ℕ) (a b : List Spec) → AreSpecs text a → AreSpecs text b → a ≡ b
same_specs text [] [] h k = refl
same_specs text [] (spec ∷ more) h k = absurd ((rw h at k.1.digits) refl)
same_specs text (spec ∷ more) [] h k = absurd ((rw k at h.1.digits) refl)
same_specs text (spec ∷ more) (other ∷ others) h k =
    let first : spec ≡ other = same_spec text spec other h.0 k.0 h.1 k.1 in
    let rest : h.0 ≡ k.0 = same_rest text spec other h.0 k.0 h.1 k.1 in
    let P : List ℕ → Type 0 = λ t. AreSpecs t more in
    let after : more ≡ others = same_specs k.0 more others (subst P rest h.2) k.2 in
    λ i. first i ∷ after i

fewer : (width times : ℕ) (piece : List ℕ) (pieces : List (List ℕ)) (octets rest : List ℕ) → IsCut width times (piece ∷ pieces) octets rest
    → IsCut width (times - 1) pieces (drop width octets) rest
fewer width times piece pieces octets rest h = grind (arith, common_steps)

none_or_some : (width times : ℕ) (piece : List ℕ) (pieces : List (List ℕ)) (octets r s : List ℕ) → IsCut width times [] octets r
    → IsCut width times (piece ∷ pieces) octets s → ⊥
none_or_some width times piece pieces octets r s h k = grind (arith, common_steps)

same_pieces : (width times : ℕ) (p q : List (List ℕ)) (octets r s : List ℕ) → IsCut width times p octets r → IsCut width times q octets s → (p ≡ q) × (r ≡ s)
same_pieces width times [] [] octets r s h k = (refl, h.are_pieces ∙ sym k.are_pieces)
same_pieces width times [] (piece ∷ q) octets r s h k = absurd (none_or_some width times piece q octets r s h k)
same_pieces width times (piece ∷ p) [] octets r s h k = absurd (none_or_some width times piece p octets s r k h)
same_pieces width times (piece ∷ p) (other ∷ q) octets r s h k = grind (
  arith,
  common_steps,
  same_pieces width (times - 1) p q (drop width octets) r s (fewer width times piece p octets r h) (fewer width times other q octets s k),
  fewer,
)

same_groups : (specs : List Spec) (g h : List (List (List ℕ))) (octets a b : List ℕ) → AreGroups specs g octets a → AreGroups specs h octets b → a ≡ b
same_groups specs [] [] octets a b k l = k.1 ∙ sym l.1
same_groups [] [] (pieces ∷ h) octets a b k l = absurd l
same_groups (spec ∷ specs) [] (pieces ∷ h) octets a b k l = absurd (l.2.some k.0)
same_groups [] (pieces ∷ g) h octets a b k l = absurd k
same_groups (spec ∷ specs) (pieces ∷ g) [] octets a b k l = absurd (k.2.some l.0)
same_groups (spec ∷ specs) (pieces ∷ g) (others ∷ h) octets a b k l =
    let cut = same_pieces spec.length (times_of spec octets) pieces others (body_of spec octets) k.0 l.0 k.2.cut l.2.cut in
    let P : List ℕ → Type 0 = λ rest. AreGroups (specs_after spec specs) g rest k.1 in
    let later : k.1 ≡ l.1 = same_groups (specs_after spec specs) g h l.0 k.1 l.1 (subst P cut.1 k.3) l.3 in
    k.4 ∙ (λ i. pieces_text spec (cut.0 i) (cut.1 i) ++ later i) ∙ sym l.4

pub same_shown : (hint octets first second : List ℕ) → ShowsOctets hint octets first → ShowsOctets hint octets second → first ≡ second
same_shown hint octets first second h k = grind (arith, common_steps, same_specs, same_groups)

-- ---- numbers

-- the letter that a hint of integers with this form begins with
letter : NumberForm → ℕ
letter (form.Decimal indices) = 100
letter form.Hexadecimal = 120
letter form.Octal = 111
letter form.Binary = 98

begins : (text : List ℕ) (f : NumberForm) → IsNumberHint text f → get_or text 0 0 ≡ letter f
unfolding letter
begins text (form.Decimal indices) (inl h) = ap (λ (t : List ℕ). get_or t 0 0) h.0
begins text (form.Decimal indices) (inr h) = ap (λ (t : List ℕ). get_or t 0 0) h.whole
begins text form.Hexadecimal h = ap (λ (t : List ℕ). get_or t 0 0) h
begins text form.Octal h = ap (λ (t : List ℕ). get_or t 0 0) h
begins text form.Binary h = ap (λ (t : List ℕ). get_or t 0 0) h

same_places : (text : List ℕ) (p q : ℕ) → IsNumberHint text (form.Decimal p) → IsNumberHint text (form.Decimal q) → p ≡ q
same_places text p q (inl h) (inl k) = h.1 ∙ sym k.1
same_places text p q (inl h) (inr k) = let no : 100 ∷ [] ≡ 100 ∷ 45 ∷ k.after_hyphen = sym h.0 ∙ k.whole in absurd (cc)
same_places text p q (inr h) (inl k) = let no : 100 ∷ [] ≡ 100 ∷ 45 ∷ h.after_hyphen = sym k.0 ∙ h.whole in absurd (cc)
same_places text p q (inr h) (inr k) = grind (arith, common_steps)

same_letter : (f g : NumberForm) → letter f ≡ letter g → (text : List ℕ) → IsNumberHint text f → IsNumberHint text g → f ≡ g
unfolding letter
same_letter (form.Decimal p) (form.Decimal q) e text h k = ap (λ (n : ℕ). form.Decimal n) (same_places text p q h k)
same_letter form.Hexadecimal form.Hexadecimal e text h k = refl
same_letter form.Octal form.Octal e text h k = refl
same_letter form.Binary form.Binary e text h k = refl
same_letter _ _ e text h k = absurd (omega arith)

pub same_number : (hint : List ℕ) (n : ℤ) (first second : List ℕ) → ShowsNumber hint n first → ShowsNumber hint n second → first ≡ second
same_number hint n first second h k = grind (arith, common_steps, same_letter, begins)

pub same_by_hint : (hint : List ℕ) (shown : HintValue) (first second : List ℕ) → Shows hint shown first → Shows hint shown second → first ≡ second
same_by_hint hint (value.Number n) first second h k = same_number hint n first second h k
same_by_hint hint (value.Octets octets) first second h k = same_shown hint octets.now first second h k
