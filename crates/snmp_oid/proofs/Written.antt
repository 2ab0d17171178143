-- The numeric text of an identifier: how it is written, and that it names the identifier.
use Rattle.std.proofs.Common.{inl, inr, All, subst, ◌^◌, ◌≡◌, ℕ, ◌+◌, ◌*◌, ◌≤◌, ◌<◌, List, [], ◌∷◌, ◌++◌, ◌-◌, decimal, length, take, refl, sym}
use Rattle.std.proofs.{lemmas.List.append-nil, lemmas.List.Elements.All-head, lemmas.List.Elements.All-tail}
use Rattle.std.specs.List.{flat_map}
use Rattle.snmp_oid.specs.{Identifier.IsIdentifier, Numeric.dot, Numeric.numeric_text, Numeric.IsNumeral, Numeric.IsDotted, Numeric.IsNumericName}
use Rattle.snmp_oid.proofs.Numeral.{decimal_is_numeral}

-- the text of the first `count` numbers, or a single dot if the list is empty
abbrev pub text_of : List ℕ → ℕ → List ℕ
text_of [] count = dot ∷ []
text_of (n ∷ more) count = flat_map (λ m. dot ∷ decimal m) (take count (n ∷ more))

-- `text` is the text of the first `count` numbers, and has at most 11 octets for each of them, and one more if the list is empty
pub record IsWritten (numbers : List ℕ) (count : ℕ) (text : List ℕ) : Type 0 where
  pub text_is : text ≡ text_of numbers count
  pub short : length text ≤ 11 * count + (1 - length numbers)

-- the written numerals, with dots between them, are dotted
written_is_dotted : (n : ℕ) (more : List ℕ) → n < 2 ^ 32 → All (λ m. m < 2 ^ 32) more → IsDotted (decimal n ++ flat_map (λ m. dot ∷ decimal m) more) (n ∷ more)
written_is_dotted n [] small all = let P : List ℕ → Type 0 = λ t. IsNumeral t n in subst P (sym (append-nil (decimal n))) (decimal_is_numeral n small)
written_is_dotted n (m ∷ more) small all = (
  decimal n,
  decimal m ++ flat_map (λ k. dot ∷ decimal k) more,
  refl,
  decimal_is_numeral n small,
  written_is_dotted m more (All-head (λ k. k < 2 ^ 32) m more all) (All-tail (λ k. k < 2 ^ 32) m more all),
)

pub written_is_name : (o : List ℕ) → IsIdentifier o → IsNumericName (numeric_text o) o
written_is_name [] is = inl (refl, refl)
written_is_name (n ∷ more) is =
    inr (inr (
      decimal n ++ flat_map (λ m. dot ∷ decimal m) more,
      refl,
      written_is_dotted n more (All-head (λ k. k < 2 ^ 32) n more is.numbers) (All-tail (λ k. k < 2 ^ 32) n more is.numbers),
    ))
