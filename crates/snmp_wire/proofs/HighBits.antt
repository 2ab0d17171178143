-- Four octets tested at once: if their word has no bit in common with `high_bits`, then each of them is below 128.
use Rattle.std.proofs.Common.{◌≡◌, ℕ, ◌+◌, ◌*◌, ◌/◌, ◌%◌, ◌<◌, [], ◌∷◌, refl, ap, ◌∙◌, arith}
use Rattle.std.specs.{Int.w32, Int.bit_at, Int.from_le_bytes, Int.Bits.bit_and}
use Rattle.std.proofs.lemmas.Nat.Bits.{bit_at_and, bit_at-zero, bit_at-lt}

-- the word in which only the high bit of each of its four octets is set
abbrev high_bits : ℕ
high_bits = 2155905152

low_bit : (w i : ℕ) → bit_and w high_bits ≡ 0 → bit_at high_bits i ≡ 1 → bit_at w i ≡ 0
low_bit w i none set =
    let zero_bit : bit_at (bit_and w high_bits) i ≡ 0 = ap (λ n. bit_at n i) none ∙ bit_at-zero i in
    let both = bit_at_and w high_bits i in
    let small = bit_at-lt w i in
    omega arith

pub low_octets : (a b c d : ℕ) → a < 256 → b < 256 → c < 256 → d < 256 → bit_and (from_le_bytes w32 (a ∷ b ∷ c ∷ d ∷ [])) high_bits ≡ 0
    → (a < 128) × (b < 128) × (c < 128) × (d < 128)
low_octets a b c d fa fb fc fd none =
    let w : ℕ = from_le_bytes w32 (a ∷ b ∷ c ∷ d ∷ []) in
    let worth : w ≡ a + 256 * b + 65536 * c + 16777216 * d = omega arith in
    let one : w / 128 % 2 ≡ 0 = low_bit w 7 none refl in
    let two : w / 32768 % 2 ≡ 0 = low_bit w 15 none refl in
    let three : w / 8388608 % 2 ≡ 0 = low_bit w 23 none refl in
    let four : w / 2147483648 % 2 ≡ 0 = low_bit w 31 none refl in
    (omega (arith, worth, one), omega (arith, worth, two), omega (arith, worth, three), omega (arith, worth, four))
