-- Two words of eight octets: the lowest bit that differs is in the first octet that differs.
use Rattle.std.proofs.{lemmas.Grind.common_steps, Math.ListN.get_or-eq_default, lemmas.Bool.cases_lt, lemmas.Nat.trailing_le, lemmas.Nat.xor_lt}
use Rattle.std.proofs.Common.{◌≡◌, ℕ, zero, suc, ◌+◌, ◌-◌, ◌*◌, ◌/◌, ◌%◌, ◌^◌, ◌<◌, ◌≤◌, ◌⊎◌, inl, inr, List, [], ◌∷◌, length, get_or, refl, sym, ap}
use Rattle.std.proofs.Common.{◌∙◌, arith}
use Rattle.std.proofs.lemmas.List.{get_or-drop, get_or_append_left}
use Rattle.std.specs.{Int.w64, Int.bit_at, Int.from_le_bytes, Int.trailing_zeros, Int.Bits.bit_xor, Int.Count.trailing_of_zero}
use Rattle.std.proofs.lemmas.Nat.Bits.{bit_at_xor, bit_at-zero, bit_at-lt, bit_at_cat_low, bit_at_cat_high, bit_at-trailing_zeros}
use Rattle.std.proofs.lemmas.Nat.Bits.{same_from_bits_below}
use Rattle.snmp_wire.specs.ber.Canon.{eight_from}
use Rattle.snmp_wire.proofs.WrittenIdentifiers.{eight_then}

-- the number whose octets these are, the least significant first
word_of : List ℕ → ℕ
word_of [] = 0
word_of (octet ∷ rest) = word_of rest * 2 ^ 8 + octet

bits_of : (xs : List ℕ) → ((i : ℕ) → get_or xs i 0 < 256) → (k j : ℕ) → j < 8 → bit_at (word_of xs) (k * 8 + j) ≡ bit_at (get_or xs k 0) j
unfolding word_of
bits_of [] small k j low = bit_at-zero (k * 8 + j) ∙ sym (bit_at-zero j)
bits_of (x ∷ xs) small zero j low =
    let first : 0 * 8 + j ≡ j = omega arith in
    ap (bit_at (word_of xs * 2 ^ 8 + x)) first ∙ bit_at_cat_low (word_of xs) 8 x j low
bits_of (x ∷ xs) small (suc k) j low =
    let position : suc k * 8 + j - 8 ≡ k * 8 + j = omega arith in
    bit_at_cat_high (word_of xs) 8 x (suc k * 8 + j) (small 0) (omega arith) ∙ ap (bit_at (word_of xs)) position ∙ bits_of xs (λ i. small (suc i)) k j low

same_bit : (a b i : ℕ) → bit_at (bit_xor a b) i ≡ 0 → bit_at a i ≡ bit_at b i
same_bit a b i none = grind (arith, common_steps, bit_at_xor, bit_at-lt)

other_bit : (a b i : ℕ) → bit_at (bit_xor a b) i ≡ 1 → bit_at a i ≡ bit_at b i → ⊥
other_bit a b i set same = grind (arith, common_steps, bit_at_xor)

some_or_none : (n : ℕ) → (n ≡ 0) ⊎ (0 < n)
some_or_none zero = inl refl
some_or_none (suc n) = inr (omega arith)

-- no bit below the lowest set bit is set
bits_below : (n i : ℕ) → n < 2 ^ 64 → i < trailing_zeros w64 n → bit_at n i ≡ 0
bits_below n i fits low = elim (some_or_none n) [
  | inl none ↦ ap (λ m. bit_at m i) none ∙ bit_at-zero i
  | inr some ↦ (bit_at-trailing_zeros w64 n some fits).2 i low
]

lowest_set : (n : ℕ) → n < 2 ^ 64 → trailing_zeros w64 n < 64 → bit_at n (trailing_zeros w64 n) ≡ 1
lowest_set n fits low = elim (some_or_none n) [
  | inl none ↦ absurd (omega (arith, low, ap (trailing_zeros w64) none, trailing_of_zero 64))
  | inr some ↦ (bit_at-trailing_zeros w64 n some fits).1
]

module _ (xs ys : List ℕ) (small : (i : ℕ) → get_or xs i 0 < 256) (other_small : (i : ℕ) → get_or ys i 0 < 256) (n : ℕ) (fits : n < 2 ^ 64)
    (is : n ≡ bit_xor (word_of xs) (word_of ys)) where
  same_before : (k : ℕ) → k < trailing_zeros w64 n / 8 → get_or xs k 0 ≡ get_or ys k 0
  same_before k low = same_from_bits_below 8 (get_or xs k 0) (get_or ys k 0) (small k) (other_small k) (λ j within.
      let below : k * 8 + j < trailing_zeros w64 n = omega arith in
      sym (bits_of xs small k j within)
      ∙ same_bit (word_of xs) (word_of ys) (k * 8 + j) (ap (λ m. bit_at m (k * 8 + j)) (sym is) ∙ bits_below n (k * 8 + j) fits below)
      ∙ bits_of ys other_small k j within)

  other_at : trailing_zeros w64 n < 64 → get_or xs (trailing_zeros w64 n / 8) 0 ≡ get_or ys (trailing_zeros w64 n / 8) 0 → ⊥
  other_at low same =
      let t : ℕ = trailing_zeros w64 n in
      let position : t / 8 * 8 + t % 8 ≡ t = omega arith in
      let within : t % 8 < 8 = omega arith in
      let bits : bit_at (word_of xs) t ≡ bit_at (word_of ys) t =
      cc (bits_of xs small (t / 8) (t % 8) within, bits_of ys other_small (t / 8) (t % 8) within) in
      other_bit (word_of xs) (word_of ys) t (ap (λ m. bit_at m t) (sym is) ∙ lowest_set n fits low) bits

-- the k-th of the eight octets from `at` on is the octet at `at + k`
at_position : (octets : List ℕ) (at k : ℕ) → at + 8 ≤ length octets → k < 8 → get_or (eight_from octets at) k 0 ≡ get_or octets (at + k) 0
at_position octets at k fits low = grind (arith, common_steps, get_or_append_left, eight_then, get_or-drop)

eight_small : (octets : List ℕ) (at : ℕ) → at + 8 ≤ length octets → ((i : ℕ) → get_or octets i 0 < 256) → (i : ℕ) → get_or (eight_from octets at) i 0 < 256
eight_small octets at fits small i = grind (arith, common_steps, cases_lt, at_position, get_or-eq_default)

eight_word : (octets : List ℕ) (at : ℕ) → from_le_bytes w64 (eight_from octets at) ≡ word_of (eight_from octets at)
unfolding word_of
eight_word octets at = omega arith

-- the first `count` of the eight octets from `at` on are the same in `octets` and `others`; if `count` is below 8, the next ones differ
pub record AreAlike (octets others : List ℕ) (at count : ℕ) : Type 0 where
  pub most : count ≤ 8
  pub same : (k : ℕ) → k < count → get_or octets (at + k) 0 ≡ get_or others (at + k) 0
  pub first : count < 8 → get_or octets (at + count) 0 ≡ get_or others (at + count) 0 → ⊥

pub words_alike : (octets others : List ℕ) (at a b : ℕ) → at + 8 ≤ length octets → at + 8 ≤ length others → ((i : ℕ) → get_or octets i 0 < 256)
    → ((i : ℕ) → get_or others i 0 < 256) → a ≡ from_le_bytes w64 (eight_from octets at) → b ≡ from_le_bytes w64 (eight_from others at)
    → a < 2 ^ 64 → b < 2 ^ 64 → AreAlike octets others at (trailing_zeros w64 (bit_xor a b) / 8)
words_alike octets others at a b long other_long small other_small e f below other_below =
    let n : ℕ = bit_xor a b in
    let fits : n < 2 ^ 64 = xor_lt 64 a b below other_below in
    let xs : List ℕ = eight_from octets at in
    let ys : List ℕ = eight_from others at in
    let word : n ≡ bit_xor (word_of xs) (word_of ys) = cc (eight_word octets at, eight_word others at) in
    let most : trailing_zeros w64 n ≤ 64 = trailing_le 64 n in
    let these : (i : ℕ) → get_or xs i 0 < 256 = eight_small octets at long small in
    let those : (i : ℕ) → get_or ys i 0 < 256 = eight_small others at other_long other_small in
    record {
      most = omega arith;
      same = λ k low.
          sym (at_position octets at k long (omega arith)) ∙ same_before xs ys these those n fits word k low
          ∙ at_position others at k other_long (omega arith);
      first = λ low same.
          other_at xs ys these those n fits word (omega arith) (at_position octets at (trailing_zeros w64 n / 8) long low ∙ same
          ∙ sym (at_position others at (trailing_zeros w64 n / 8) other_long low));
    }
