-- The decimal digits of numbers: of two or three digits one by one, and of four or more as the digits of `n / 1000` followed by three digits.
use Rattle.std.proofs.{lemmas.Grind.common_steps, lemmas.Fmt.decimal_digit, lemmas.Fmt.decimal_step}
use Rattle.std.proofs.Common.{◌≡◌, ℕ, ◌+◌, ◌/◌, ◌%◌, ◌^◌, ◌<◌, ◌≤◌, List, [], ◌∷◌, ◌++◌, decimal, refl, append_assoc, arith}
use Rattle.smi_show.specs.private.index.Digits.{three_digits}

-- if `n`, below 2^64, has four or more digits, then they are the digits of `n / 1000` followed by the three digits of `n % 1000`
pub last_three : (n : ℕ) → 1000 ≤ n → n < 2 ^ 64 → decimal n ≡ decimal (n / 1000) ++ three_digits (n % 1000)
last_three n long small = grind (arith, common_steps, decimal_step, append_assoc)

pub two_digits : (n : ℕ) → 10 ≤ n → n < 100 → decimal n ≡ (48 + n / 10) ∷ (48 + n % 10) ∷ []
two_digits n above below = rw (decimal_step n above (omega arith), decimal_digit (n / 10) (omega arith)) refl

pub digits_of_three : (n : ℕ) → 100 ≤ n → n < 1000 → decimal n ≡ (48 + n / 10 / 10) ∷ (48 + n / 10 % 10) ∷ (48 + n % 10) ∷ []
digits_of_three n above below = grind (arith, common_steps, decimal_step, two_digits)

-- if `n`, below 2^64, has four or more digits, `x` is `a` followed by a dot and the digits of `n / 1000`, and `y` is `x` followed by the last three digits of
-- `n`, then `y` is `a` followed by a dot and the digits of `n`
pub after : (a x y : List ℕ) (n : ℕ) → 1000 ≤ n → n < 2 ^ 64 → x ≡ a ++ 46 ∷ decimal (n / 1000) → y ≡ x ++ three_digits (n % 1000)
    → y ≡ a ++ 46 ∷ decimal n
after a x y n long small prefix end = grind (arith, common_steps, last_three, append_assoc)
