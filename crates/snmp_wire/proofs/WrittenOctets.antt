-- What the smallest writing functions do to a slice: write nothing, one octet, digits, or a
-- string.
use Rattle.std.proofs.{lemmas.Grind.common_steps, Math.Nat.div-div-eq-div-mul, Math.Nat.div-one, Math.Nat.pow-suc, Math.Nat.pow-zero}
use Rattle.std.proofs.Common.{◌≡◌, ℕ, suc, ◌+◌, ◌-◌, ◌/◌, ◌^◌, ◌<◌, ◌≤◌, List, [], ◌∷◌, ◌++◌, length, take, drop, set, refl, sym, ap, subst, ◌∙◌}
use Rattle.std.proofs.Common.{arith, length-drop}
use Rattle.std.proofs.lemmas.List.{append-nil, drop-set, drop_all, drop_at, length-take-le, take-set, take_all, take_at}
use Rattle.snmp_wire.specs.ber.Writing.{Writes}
use Rattle.snmp_wire.proofs.WritingLaws.{kept, writes_same}

-- if nothing changes, then the empty string is written at any offset
pub writes_none : (old : List ℕ) (end : ℕ) → Writes old end end [] old
writes_none old end = record { begins = omega arith; before = refl; after = refl }

-- if `text` was written from `at` on, and then an octet before it, then this octet followed by `text` was written
pub writes_octet : {old : List ℕ} {at end : ℕ} {text mid : List ℕ} → Writes old at end text mid → (start octet : ℕ) → start + 1 ≡ at → at ≤ length mid
    → Writes old start end (octet ∷ text) (set mid start octet)
writes_octet {old} {at} {end} {text} {mid} w start octet e h = grind (arith, common_steps, take-set, kept, drop-set)

-- if one octet is set, then it is written
pub writes_one : (old : List ℕ) (end octet : ℕ) → 1 ≤ end → end ≤ length old → Writes old (end - 1) end (octet ∷ []) (set old (end - 1) octet)
writes_one old end octet some within = writes_octet (writes_none old end) (end - 1) octet (omega arith) within

-- ---- digits, each written before the previous one

pub writes_no_digit : (text : ℕ → List ℕ) (out : List ℕ) (end : ℕ) → [] ≡ text 0 → Writes out end end (text (end - end)) out
writes_no_digit text out end none = let here : 0 ≡ end - end = omega arith in writes_same (writes_none out end) (none ∙ ap text here)

pub writes_digit : {old out : List ℕ} {at end : ℕ} (text : ℕ → List ℕ) (digit : ℕ) → digit ∷ text (end - at) ≡ text (suc (end - at))
    → Writes old at end (text (end - at)) out → 0 < at → at ≤ end → at ≤ length out
    → Writes old (at - 1) end (text (end - (at - 1))) (set out (at - 1) digit)
writes_digit {old} {out} {at} {end} text digit step w some h within = grind (arith, common_steps, writes_same, writes_octet)

pub all_digits : {old out : List ℕ} {at end : ℕ} (text : ℕ → List ℕ) (count : ℕ) → Writes old at end (text (end - at)) out → at ≡ end - count
    → count ≤ end → Writes old (end - count) end (text count) out
all_digits {old} {out} {at} {end} text count w e room = grind (arith, common_steps, writes_same)

-- before any digit of a number is written, all of the number is left
pub rest_none : (base end n : ℕ) → n ≡ n / base ^ (end - end)
rest_none base end n = let none : 0 ≡ end - end = omega arith in subst (λ (k : ℕ). n ≡ n / base ^ k) none (rw pow-zero (sym (div-one n)))

pub rest_digits : (base at end n rest : ℕ) → rest ≡ n / base ^ (end - at) → 0 < at → at ≤ end → rest / base ≡ n / base ^ (end - (at - 1))
rest_digits base at end n rest e some h =
    let one_more : end - (at - 1) ≡ suc (end - at) = omega arith in
    ap (λ r. r / base) e ∙ div-div-eq-div-mul n (base ^ (end - at)) base
    ∙ ap (λ m. n / m) (sym (ap (λ k. base ^ k) one_more ∙ pow-suc base (end - at)))

-- ---- strings

-- if a string is copied to the octets from `start` to `end`, then it is written
pub writes_copy : (old text : List ℕ) (start end : ℕ) → start + length text ≡ end → end ≤ length old
    → Writes old start end text (take start old ++ (text ++ drop end old))
writes_copy old text start end e h = grind (arith, common_steps, take_at, length-take-le, drop_at)

-- if `text` is written from `start` to the end of a slice, then the slice contains `text` from `start` on
pub written_to_end : {old new text : List ℕ} {start end : ℕ} → Writes old start end text new → end ≡ length old
    → take (length new - start) (drop start new) ≡ text
written_to_end {old} {new} {text} {start} {end} w last = grind (arith, common_steps, take_all, length-drop, drop_all, append-nil)
