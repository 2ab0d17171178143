-- A loop over digits, from the first to the last, computes the number that they write.
use Rattle.std.proofs.{lemmas.Grind.common_steps, lemmas.List.drop_all, lemmas.Bool.lt-leb, lemmas.Bool.le-leb}
use Rattle.std.proofs.Common.{◌≡◌, ℕ, suc, ◌+◌, ◌*◌, ◌^◌, ◌<◌, ◌≤◌, List, [], ◌∷◌, length, get_or, drop, refl, ◌∙◌, ap, arith, drop-cons, add-one}
use Rattle.std.specs.Prelude.{Some, None}
use Rattle.std.proofs.Math.Nat.{le-mul_of_pos_right, one-le-pow, mul_comm, mul_assoc, mul-one, pow-zero, pow-succ'}
use Rattle.smi_text.specs.trees.Number.{digit_value, number_value, up_to}

-- the number that digits write in base `base`, if the first of them write `n`, and `cs` are the others
abbrev pub worth : ℕ → ℕ → List ℕ → ℕ
worth base n cs = n * base ^ length cs + number_value base cs

add-mul : (a b c : ℕ) → (a + b) * c ≡ a * c + b * c
add-mul a b c = grind arith

pub worth-digit : (base n c : ℕ) (cs : List ℕ) → worth base n (c ∷ cs) ≡ worth base (base * n + digit_value c) cs
unfolding number_value
worth-digit base n c cs = grind (arith, common_steps, pow-succ', mul_assoc, mul_comm, add-mul)

-- if the digits `cs` follow digits that write `n`, then together they write at least `n`, in a base above 0
pub worth-grows : (base n : ℕ) (cs : List ℕ) → 0 < base → n ≤ worth base n cs
worth-grows base n cs h = grind (arith, common_steps, le-mul_of_pos_right, one-le-pow)

-- if the digits of `cs` from index `i` on follow digits that write `n`, then the number is the same with the digit at `i` counted among the digits before
pub worth_step : (base n i : ℕ) (cs : List ℕ) → i < length cs
    → worth base n (drop i cs) ≡ worth base (base * n + digit_value (get_or cs i 0)) (drop (i + 1) cs)
worth_step base n i cs h = rw (add-one, drop-cons cs i 0) (worth-digit base n (get_or cs i 0) (drop (suc i) cs))

-- if the digits before index `i` write `n`, and together with the digit at `i` they write more than `most`, then `up_to most` of the number that all digits
-- write is None
pub worth_above : (base n i most : ℕ) (cs : List ℕ) → 0 < base → i < length cs → worth base n (drop i cs) ≡ number_value base cs
    → most < base * n + digit_value (get_or cs i 0) → None ≡ up_to most (number_value base cs)
worth_above base n i most cs pos h e over = grind (arith, common_steps, worth-grows, worth_step, lt-leb)

nothing-more : (base n : ℕ) → worth base n [] ≡ n
unfolding number_value
nothing-more base n = let one : n * base ^ 0 ≡ n = ap (λ m. n * m) (pow-zero base) ∙ mul-one n in omega (arith, one)

pub worth_end : (base n i : ℕ) (cs : List ℕ) → length cs ≤ i → worth base n (drop i cs) ≡ n
unfolding number_value
worth_end base n i cs h = rw (drop_all i cs h) (nothing-more base n)

pub value_within : (v most : ℕ) → v ≤ most → Some v ≡ up_to most v
value_within v most h = rw (le-leb v most h) refl

pub ruleset worths = (worth_step, worth_above, worth_end, value_within, mul_comm)
