-- Each entry of the table `SMALL` begins with a dot and its number in digits (`small_entry`). The entries are checked one by one.
use Rattle.std.proofs.{lemmas.Grind.common_steps, Math.Seq.take-append-add, lemmas.List.length-take-le, lemmas.List.take-take}
use Rattle.std.proofs.{lemmas.Bool.Decides.Decides-below_and, lemmas.Slice.Eq.bytes_eq-Decides, lemmas.Fmt.decimal_digit}
use Rattle.std.proofs.Common.{◌≡◌, ℕ, zero, suc, ◌+◌, ◌*◌, ◌/◌, ◌%◌, ◌<◌, Bool, true, ◌&&◌, ltb, leb, cond, List, [], ◌∷◌, ◌++◌, ◌≤◌, decimal, length}
use Rattle.std.proofs.Common.{take, get_or, refl, sym, ap, ◌∙◌, arith}
use mir.Val.{bool_byte}
use Rattle.std.specs.Str.{bytes_eq}
use Rattle.std.proofs.lemmas.Bool.{cases_lt, lt-ltb, le-ltb, lt-leb, le-leb}
use Rattle.smi_show.specs.declared.index.shown.TheConstants.{SMALL}
use Rattle.smi_show.proofs.Digits.{two_digits, digits_of_three}

-- a dot and the digits of `n`, if `n` is below 1000
abbrev dotted : ℕ → List ℕ
dotted n =
    46 ∷ cond (ltb n 10) ((48 + n) ∷ []) (cond (ltb n 100) ((48 + n / 10) ∷ (48 + n % 10) ∷ [])
    ((48 + n / 10 / 10) ∷ (48 + n / 10 % 10) ∷ (48 + n % 10) ∷ []))

dotted_is : (n : ℕ) → n < 256 → dotted n ≡ 46 ∷ decimal n
dotted_is n small = grind (arith, common_steps, cases_lt, lt-ltb, decimal_digit, le-ltb, two_digits, digits_of_three)

-- the four octets of the entry of `n` in `SMALL`
abbrev pub octets_of : ℕ → List ℕ
octets_of n =
    get_or SMALL.now (n * 4) 0 ∷ get_or SMALL.now (n * 4 + 1) 0 ∷ get_or SMALL.now (n * 4 + 2) 0 ∷ get_or SMALL.now (n * 4 + 3) 0 ∷ []

-- the first octets of the entry of `n` in `SMALL`: as many as a dot and the digits of `n` have, if `n` is below 1000
abbrev entry : ℕ → List ℕ
entry n = take (length (dotted n)) (octets_of n)

abbrev entries_match : ℕ → Bool
entries_match zero = true
entries_match (suc n) = bytes_eq (entry n) (dotted n) && entries_match n

entries_checked : entries_match 256 ≡ true
entries_checked = refl

matched : (n : ℕ) → n < 256 → entry n ≡ dotted n
matched =
    (Decides-below_and (λ n. bytes_eq (entry n) (dotted n)) (λ n. entry n ≡ dotted n) entries_match
    (λ n. bytes_eq-Decides _ _) refl (λ _. refl) 256).0 entries_checked

pub small_entry : (n : ℕ) → n < 256 → take (length (46 ∷ decimal n)) (octets_of n) ≡ 46 ∷ decimal n
small_entry n small = ap (λ t. take (length t) (octets_of n)) (sym (dotted_is n small)) ∙ matched n small ∙ dotted_is n small

-- if `n` is below 256, `a` is 1 if `n` is at least 10 and otherwise 0, and `b` is 1 if `n` is at least 100 and otherwise 0, then a dot followed by the digits
-- of `n` has `2 + a + b` octets
pub small_len_is : (n a b : ℕ) → n < 256 → a ≡ bool_byte (leb 10 n) → b ≡ bool_byte (leb 100 n) → 2 + a + b ≡ length (46 ∷ decimal n)
small_len_is n a b small tens hundreds = grind (arith, common_steps, cases_lt, lt-leb, decimal_digit, le-leb, two_digits, digits_of_three)

-- if the first `a + m` octets of `now` are the first `a` of `room` followed by `part`, and `k` is at most `m` and the length of `part`, then the first `a + k`
-- octets of `now` are the first `a` of `room` followed by the first `k` of `part`
pub prefix_after : (a k m : ℕ) (room now part : List ℕ) → a ≤ length room → k ≤ length part → k ≤ m → take (a + m) now ≡ take a room ++ part
    → take (a + k) now ≡ take a room ++ take k part
prefix_after a k m room now part within fits fewer is =
    sym (take-take (a + k) (a + m) now (omega (arith, fewer))) ∙ ap (take (a + k)) is
    ∙ ap (λ i. take (i + k) (take a room ++ part)) (sym (length-take-le a room within)) ∙ take-append-add (take a room) part k
