-- A text has at most one first spec (`same_spec`), and isn't a hint of both kinds (`not_both`). `GoesOn` is the invariant of the loop of `ends_hint`.
use Rattle.std.proofs.lemmas.Grind.{common_steps}
use Rattle.std.proofs.Common.{◌≡◌, ◌≢◌, ℕ, Bool, true, false, List, [], ◌∷◌, refl, inl, inr, subst, arith, ◌<◌, ◌≤◌, Bor}
use Rattle.smi_value.specs.{hint.Number.StartsWithNumber, hint.Number.IsNumberHint, hint.Hint.IsOfNumbers, hint.Hint.IsOfOctets}
use Rattle.smi_value.specs.{declared.hint.number.NumberForm.NumberForm, declared.hint.spec.OctetFormat.OctetFormat, declared.hint.spec.Spec.Spec}
use Rattle.smi_value.specs.{hint.Form.IsFormOf, declared.hint.HintForm.HintForm}
use Rattle.smi_value.specs.declared.hint.number.NumberForm.TheVariants as form
use Rattle.smi_value.specs.declared.hint.spec.OctetFormat.TheVariants as octet_format
use Rattle.smi_value.specs.hint.Spec.{most_octets, after_star, at_letter, IsFirstSpec, AreSpecs, IsOctetHint, LastTakesOctets, takes_octets}
use Rattle.smi_value.specs.declared.hint.HintForm.TheVariants as kept

same_fields : (a b : Spec) → a.is_counted ≡ b.is_counted → a.length ≡ b.length → a.format ≡ b.format → a.separator ≡ b.separator
    → a.terminator ≡ b.terminator → a ≡ b
same_fields a b e f g h k = λ i. record { is_counted = e i; length = f i; format = g i; separator = h i; terminator = k i }

-- if `a` and `b` are first specs of a text, then they are equal
pub same_spec : (text : List ℕ) (a b : Spec) (r s : List ℕ) → IsFirstSpec text a r → IsFirstSpec text b s → a ≡ b
same_spec text a b r s h k = grind (arith, common_steps, same_fields)

pub same_rest : (text : List ℕ) (a b : Spec) (r s : List ℕ) → IsFirstSpec text a r → IsFirstSpec text b s → r ≡ s
same_rest text a b r s h k = grind (arith, common_steps, same_spec)

-- the last of the specs takes octets; if there are no specs, `before` is true, which says that the spec before them takes octets
abbrev pub TakesAfter : Bool → List Spec → Type 0
TakesAfter before [] = before ≡ true
TakesAfter before (spec ∷ specs) = TakesAfter (takes_octets spec) specs

pub takes_after_from : (specs : List Spec) → LastTakesOctets specs → TakesAfter false specs
takes_after_from [] h = absurd h
takes_after_from (spec ∷ []) h = h
takes_after_from (spec ∷ next ∷ more) h = takes_after_from (next ∷ more) h

pub takes_after_to : (specs : List Spec) → TakesAfter false specs → LastTakesOctets specs
takes_after_to [] h = absurd (cc)
takes_after_to (spec ∷ []) h = h
takes_after_to (spec ∷ next ∷ more) h = takes_after_to (next ∷ more) h

-- `text` is a hint of octets if and only if `rest` consists of specs, and `TakesAfter before` holds of these: the last one takes octets, or there are none and
-- `before` is true
pub record GoesOn (text rest : List ℕ) (before : Bool) : Type 0 where
  pub whole : (specs : List Spec) → AreSpecs rest specs → TakesAfter before specs → (all : List Spec) × IsOctetHint text all
  pub part : (all : List Spec) → IsOctetHint text all → (specs : List Spec) × AreSpecs rest specs × TakesAfter before specs

pub goes_on_first : (text : List ℕ) → GoesOn text text false
goes_on_first text = grind (arith, common_steps, takes_after_to, takes_after_from)

-- `text` is `spec` and then `rest`, which consists of the specs `more`; `specs` are `spec` and then `more`
pub record Begins (text : List ℕ) (specs : List Spec) : Type 0 where
  pub spec : Spec
  pub rest : List ℕ
  pub more : List Spec
  pub is_first : IsFirstSpec text spec rest
  pub are_more : AreSpecs rest more
  pub whole : specs ≡ spec ∷ more

pub begins : (text : List ℕ) (specs : List Spec) → text ≢ [] → AreSpecs text specs → Begins text specs
begins text [] some are = absurd (some are)
begins text (spec ∷ more) some are = record { spec = spec; rest = are.0; more = more; is_first = are.1; are_more = are.2; whole = refl }

pub first_some : (text : List ℕ) (spec : Spec) (rest : List ℕ) → IsFirstSpec text spec rest → text ≢ []
first_some [] spec rest h = λ _. h.digits refl
first_some (octet ∷ more) spec rest h = λ no. absurd (cc no)

-- if `text` consists of `specs`, and begins with `spec` followed by `rest`, then `specs` is `spec` followed by specs that `rest` consists of
pub after_first : (text : List ℕ) (specs : List Spec) (spec : Spec) (rest : List ℕ) → IsFirstSpec text spec rest → AreSpecs text specs
    → (more : List Spec) × AreSpecs rest more × (specs ≡ spec ∷ more)
after_first text [] spec rest h are = absurd (first_some text spec rest h are)
after_first text (first ∷ more) spec rest h (left, is, are) = grind (arith, common_steps, same_rest, same_spec)

pub goes_on_next : (text rest next : List ℕ) (before : Bool) (spec : Spec) → rest ≢ [] → IsFirstSpec rest spec next → GoesOn text rest before
    → GoesOn text next (takes_octets spec)
goes_on_next text rest next before spec some is_first h = record {
  whole = λ specs are ends. h.whole (spec ∷ specs) (next, is_first, are) ends;
  part = λ all hint.
      let had = h.part all hint in
      let (more, are, is) = after_first rest had.0 spec next is_first had.1 in
      let ends : TakesAfter before (spec ∷ more) = rw is at had.2 in
      (more, are, ends);
}

pub no_hint : (text rest : List ℕ) (before : Bool) → rest ≢ [] → ((spec : Spec) (next : List ℕ) → IsFirstSpec rest spec next → ⊥) → GoesOn text rest before
    → (all : List Spec) → IsOctetHint text all → ⊥
no_hint text rest before some none h all hint =
    let had = h.part all hint in
    let b = begins rest had.0 some had.1 in
    none b.spec b.rest b.is_first

pub at_end : (text : List ℕ) (before : Bool) → GoesOn text [] before → (all : List Spec) → IsOctetHint text all → before ≡ true
at_end text before h all hint = go (h.part all hint).0 (h.part all hint).1 (h.part all hint).2
  where
    go : (specs : List Spec) → AreSpecs [] specs → TakesAfter before specs → before ≡ true
    go [] are ends = ends
    go (spec ∷ more) are ends = absurd (are.1.digits refl)

most_octets-le : (format : OctetFormat) → most_octets format ≤ 65535
most_octets-le octet_format.Text = omega arith
most_octets-le _ = omega arith

-- if a text, without its star if it begins with one, doesn't begin with a number up to 65535, then it doesn't begin with a spec
pub no_length : (text after : List ℕ) → after ≡ after_star text → ((number : ℕ) (rest : List ℕ) → StartsWithNumber after number rest → 65535 < number)
    → (spec : Spec) (rest : List ℕ) → IsFirstSpec text spec rest → ⊥
no_length text after e none spec rest h =
    let P : List ℕ → Type 0 = λ s. (number : ℕ) (rest : List ℕ) → StartsWithNumber s number rest → 65535 < number in
    let above = subst P e none spec.length (at_letter text) (record { some = h.digits; value = h.length_is; after = refl }) in
    let le = most_octets-le spec.format in
    absurd (omega (arith, above, le, h.fits))

-- if a text is a hint of integers, then it isn't a hint of octets
pub not_both : (text : List ℕ) (form : NumberForm) (specs : List Spec) → IsNumberHint text form → IsOctetHint text specs → ⊥
not_both text form [] h k = k.ends
not_both text (form.Decimal indices) (spec ∷ more) (inl h) k = (rw h.0 at k.read.1.digits) refl
not_both text (form.Decimal indices) (spec ∷ more) (inr h) k = (rw h.whole at k.read.1.digits) refl
not_both text _ (spec ∷ more) h k = (rw h at k.read.1.digits) refl

-- if the form of the hint `text` is `Number number`, then `text` is the hint of integers for `number`
pub of_number : (text : List ℕ) (form : HintForm) (number : NumberForm) → form ≡ kept.Number number → IsFormOf text form → IsNumberHint text number
of_number text form number e h = let P : HintForm → Type 0 = λ f. IsFormOf text f in subst P e h

-- if the form of the hint `text` is `Octets first ahead`, then `text` is a hint of octets that begins with `first`, followed by `ahead`
pub of_octets : (text : List ℕ) (form : HintForm) (first : Spec) (ahead : Bor (List ℕ)) → form ≡ kept.Octets first ahead → IsFormOf text form
    → (specs : List Spec) × IsOctetHint text specs × IsFirstSpec text first ahead.now
of_octets text form first ahead e h = let P : HintForm → Type 0 = λ f. IsFormOf text f in subst P e h

pub number_kept : (inside text : List ℕ) (form : HintForm) (number : NumberForm) → inside ≡ text → form ≡ kept.Number number → IsFormOf inside form
    → IsOfNumbers text × (IsOfOctets text → ⊥)
number_kept inside text form number same e h = grind (arith, common_steps, of_number, not_both)

pub octets_kept : (inside text : List ℕ) (form : HintForm) (first : Spec) (ahead : Bor (List ℕ)) → inside ≡ text → form ≡ kept.Octets first ahead
    → IsFormOf inside form → IsOfOctets text × (IsOfNumbers text → ⊥)
octets_kept inside text form first ahead same e h = grind (arith, common_steps, of_octets, not_both)
