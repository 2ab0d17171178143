-- If `text` is one, two or three digits, then `stated_number text` is the number that they write (`one_stated`, `two_stated`, `three_stated`).
use Rattle.std.proofs.lemmas.Grind.{common_steps}
use Rattle.std.proofs.Common.{◌≡◌, ℕ, pos, ◌+◌, ◌-◌, ◌*◌, ◌≤◌, true, false, [], ◌∷◌, List, Some, refl, length, get_or, arith, rules, tests}
use Rattle.std.specs.{Bool.nat_le, Int.IsInRange}
use Rattle.smi_text.specs.trees.Number.{digit_value, number_value, is_negative, is_number, stated_number}

value_of : (digit : ℕ) → IsInRange 48 57 digit → digit_value digit ≡ digit - 48
value_of digit range = let low : nat_le digit 57 ≡ true = search (rules, tests) in rw low refl

stated : (text : List ℕ) (n : ℕ) → is_negative text ≡ false → number_value 10 text ≡ n → n ≤ 18446744073709551615 → stated_number text ≡ Some (pos n)
unfolding is_number
stated text n plain value few = let fits : nat_le n 18446744073709551615 ≡ true = search (rules, tests) in rw (plain, value, fits) refl

no_sign : (digit : ℕ) (more : List ℕ) → IsInRange 48 57 digit → is_negative (digit ∷ more) ≡ false
no_sign digit more range = search (rules, tests)

pub one_stated : (text : List ℕ) (n : ℕ) → length text ≡ 1 → IsInRange 48 57 (get_or text 0 0) → n ≡ get_or text 0 0 - 48 → stated_number text ≡ Some (pos n)
unfolding number_value
one_stated (c ∷ []) n long h e = stated (c ∷ []) n (no_sign c [] h) (omega (arith, value_of c h)) (omega (arith, h.1))
one_stated _ n long h e = absurd (omega arith)

pub two_stated : (text : List ℕ) (n : ℕ) → length text ≡ 2 → IsInRange 48 57 (get_or text 0 0) → IsInRange 48 57 (get_or text 1 0)
    → n ≡ 10 * (get_or text 0 0 - 48) + (get_or text 1 0 - 48) → stated_number text ≡ Some (pos n)
unfolding number_value
two_stated (b ∷ c ∷ []) n long h k e = grind (arith, common_steps, stated, no_sign, value_of)
two_stated _ n long h k e = absurd (omega arith)

pub three_stated : (text : List ℕ) (n : ℕ) → length text ≡ 3 → IsInRange 48 57 (get_or text 0 0) → IsInRange 48 57 (get_or text 1 0)
    → IsInRange 48 57 (get_or text 2 0) → n ≡ 100 * (get_or text 0 0 - 48) + (10 * (get_or text 1 0 - 48) + (get_or text 2 0 - 48))
    → stated_number text ≡ Some (pos n)
unfolding number_value
three_stated (a ∷ b ∷ c ∷ []) n long g h k e = grind (arith, common_steps, stated, no_sign, value_of)
three_stated _ n long g h k e = absurd (omega arith)
