-- One identifier precedes another if and only if its rank is smaller. The base of the digits is 4294967297, 2^32 + 1.
use Rattle.std.proofs.{lemmas.Grind.common_steps, lemmas.List.append-nil, lemmas.List.drop_at, lemmas.List.append_assoc}
use Rattle.std.proofs.Common.{◌≡◌, ◌≢◌, ℕ, suc, ◌+◌, ◌-◌, ◌*◌, ◌^◌, ◌<◌, ◌≤◌, ◌↔◌, inl, inr, List, [], ◌∷◌, ◌++◌, length, drop, All, refl, sym, ◌∙◌}
use Rattle.std.proofs.Common.{ap, arith, lit<, length-append}
use Rattle.std.proofs.Math.Nat.{pow-suc, one-le-pow, mul-le-mul_right}
use Rattle.std.proofs.lemmas.List.Elements.{All-drop, All-head, All-tail}
use Rattle.std.specs.{Cmp.Lexicographic.slice_cmp, Ordering.nat_cmp, declared.cmp.Ordering.Ordering}
use Rattle.std.specs.declared.cmp.Ordering.TheVariants.{Less, Equal, Greater}
use Rattle.snmp_oid.specs.Identifier.{Precedes, IsIdentifier, rank_in, rank}
use Rattle.snmp_oid.proofs.Identifiers.{Says, compared}

-- if `digits` isn't 0, then the base to the power `digits` is the base to the power `digits - 1`, times the base
power_step : (digits : ℕ) → 0 < digits → 4294967297 ^ digits ≡ 4294967297 ^ (digits - 1) * 4294967297
power_step digits some = let e : digits ≡ suc (digits - 1) = omega arith in ap (λ d. 4294967297 ^ d) e ∙ pow-suc 4294967297 (digits - 1)

-- if n is below m, and `rest` is below `power`, then the digit n + 1 followed by digits of the value `rest` is below the digit m + 1 followed by zeros
digit_below : (n m power rest : ℕ) → rest < power → n < m → (n + 1) * power + rest < (m + 1) * power
digit_below n m power rest low less = grind (arith, common_steps, mul-le-mul_right)

-- the rank of an identifier of at most `digits` numbers is below the base to the power `digits`
rank_fits : (digits : ℕ) (o : List ℕ) → length o ≤ digits → All (λ n. n < 2 ^ 32) o → rank_in digits o < 4294967297 ^ digits
rank_fits digits [] short small = one-le-pow digits 4294967297 (lit< tt)
rank_fits digits (n ∷ rest) short small =
    let low : rank_in (digits - 1) rest < 4294967297 ^ (digits - 1) = rank_fits (digits - 1) rest (omega arith) (All-tail (λ n. n < 2 ^ 32) n rest small) in
    let first : n < 4294967296 = All-head (λ n. n < 2 ^ 32) n rest small in
    let below = digit_below n 4294967296 (4294967297 ^ (digits - 1)) (rank_in (digits - 1) rest) low first in
    omega (arith, power_step digits (omega arith), below)

-- if `s` ranks below `t`, then `prefix ++ s` ranks below `prefix ++ t`
rises_after : (digits : ℕ) (prefix s t : List ℕ) → rank_in (digits - length prefix) s < rank_in (digits - length prefix) t
    → rank_in digits (prefix ++ s) < rank_in digits (prefix ++ t)
rises_after digits [] s t h = let e : digits - 0 ≡ digits = omega arith in rw e at h
rises_after digits (k ∷ prefix) s t h =
    let e : digits - suc (length prefix) ≡ digits - 1 - length prefix = omega arith in
    let more = rises_after (digits - 1) prefix s t (rw e at h) in
    omega arith

some_rank : (digits : ℕ) (rest : List ℕ) → rest ≢ [] → 0 < rank_in digits rest
some_rank digits [] some = absurd (some refl)
some_rank digits (m ∷ rest) some = grind (arith, common_steps, one-le-pow, mul-le-mul_right)

rises_at_once : (digits n m : ℕ) (after suffix : List ℕ) → length after < digits → All (λ k. k < 2 ^ 32) after → n < m
    → rank_in digits (n ∷ after) < rank_in digits (m ∷ suffix)
rises_at_once digits n m after suffix short small less = grind (arith, common_steps, digit_below, rank_fits)

rank_rises : (o p : List ℕ) → IsIdentifier o → Precedes o p → rank o < rank p
rank_rises o p is (inl below) =
    rw below.2 (rw append-nil at (rises_after 128 o [] below.0 (some_rank (128 - length o) below.0 below.1)))
rank_rises o p is (inr parts) =
    let count : length o ≡ length parts.prefix + suc (length parts.after) = ap length parts.this ∙ length-append parts.prefix (parts.smaller ∷ parts.after) in
    let tail : drop (length parts.prefix + 1) o ≡ parts.after =
    ap (drop (length parts.prefix + 1)) (parts.this ∙ sym (append_assoc parts.prefix (parts.smaller ∷ []) parts.after))
    ∙ drop_at (parts.prefix ++ parts.smaller ∷ []) parts.after (length parts.prefix + 1) (length-append parts.prefix (parts.smaller ∷ [])) in
    let small = rw tail at (All-drop (λ k. k < 2 ^ 32) (length parts.prefix + 1) o is.numbers) in
    rw (parts.this, parts.that) (rises_after 128 parts.prefix (parts.smaller ∷ parts.after) (parts.larger ∷ parts.suffix)
    (rises_at_once (128 - length parts.prefix) parts.smaller parts.larger parts.after parts.suffix (omega (arith, count, is.short)) small parts.is_smaller))

rank_tells : (o p : List ℕ) (r : Ordering) → Says r o p → IsIdentifier p → rank o < rank p → Precedes o p
rank_tells o p Less h is less = h
rank_tells o p Equal same is less = absurd (omega (arith, ap rank same))
rank_tells o p Greater h is less = absurd (omega (arith, rank_rises p o is h))

pub ordered_as_ranks : (o p : List ℕ) → IsIdentifier o → IsIdentifier p → Precedes o p ↔ (rank o < rank p)
ordered_as_ranks o p is are = (rank_rises o p is, λ less. rank_tells o p (slice_cmp nat_cmp o p) (compared o p) are less)
