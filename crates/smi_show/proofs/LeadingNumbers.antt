-- The text of the first `i` numbers of a list has a dot before each number. If the next numbers have one digit, then each adds a dot and its digit.
use Rattle.std.proofs.{lemmas.Grind.common_steps, lemmas.List.take_more, lemmas.List.map_push, lemmas.List.flat_map_more, lemmas.Fmt.decimal_digit}
use Rattle.std.proofs.Common.{◌≡◌, ◌<◌, ◌≤◌, ◌+◌, ◌*◌, ◌++◌, ◌∷◌, [], ℕ, List, get_or, codes, decimal, length, take, append_assoc, arith}
use Rattle.smi_show.specs.index.Pieces.{as_numbers, shown_pieces}

abbrev shown : List ℕ → List ℕ
shown numbers = shown_pieces (as_numbers numbers)

pub shown_more : (numbers : List ℕ) (n : ℕ) → shown numbers ++ (codes "." ++ decimal n) ≡ shown (numbers ++ n ∷ [])
shown_more numbers n = grind (arith, common_steps, flat_map_more, map_push)

-- if the number at index `i` is below 10, then the text of the first `i + 1` numbers is the text of the first `i`, followed by a dot and the digit
digit_more : (numbers : List ℕ) (i : ℕ) → i < length numbers → get_or numbers i 0 < 10
    → shown (take (i + 1) numbers) ≡ shown (take i numbers) ++ 46 ∷ (48 + get_or numbers i 0) ∷ []
digit_more numbers i within short = grind (arith, common_steps, take_more, shown_more, decimal_digit)

digits_more : (numbers : List ℕ) (i : ℕ) → i + 1 < length numbers → get_or numbers i 0 < 10 → get_or numbers (i + 1) 0 < 10
    → shown (take (i + 2) numbers) ≡ shown (take i numbers) ++ 46 ∷ (48 + get_or numbers i 0) ∷ 46 ∷ (48 + get_or numbers (i + 1) 0) ∷ []
digits_more numbers i within first second = grind (arith, common_steps, digit_more, append_assoc)

-- two writes change a buffer from `room` to `middle` to `now`: if `room` begins with the text of the first `i` numbers, and each write adds two of the next
-- four numbers, each a dot and a digit, then `now` begins with the text of the first `i + 4` numbers
pub four_digits_more : (numbers room middle now : List ℕ) (i : ℕ) → i + 4 ≤ length numbers
    → get_or numbers i 0 < 10 → get_or numbers (i + 1) 0 < 10 → get_or numbers (i + 2) 0 < 10 → get_or numbers (i + 3) 0 < 10
    → take (2 * i) room ≡ shown (take i numbers)
    → take (2 * i + 4) middle ≡ take (2 * i) room ++ 46 ∷ (48 + get_or numbers i 0) ∷ 46 ∷ (48 + get_or numbers (i + 1) 0) ∷ []
    → take (2 * i + 4 + 4) now ≡ take (2 * i + 4) middle ++ 46 ∷ (48 + get_or numbers (i + 2) 0) ∷ 46 ∷ (48 + get_or numbers (i + 3) 0) ∷ []
    → take (2 * (i + 4)) now ≡ shown (take (i + 4) numbers)
four_digits_more numbers room middle now i within a b c d so_far two four = grind (arith, common_steps, digits_more)
