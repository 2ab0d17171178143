-- For loops that append the text `f (index, octet)` for each octet of a list: one step (`enumerated_more`), and the end (`enumerated_all`).
use Rattle.std.proofs.{lemmas.Grind.common_steps, lemmas.List.take_more, lemmas.List.flat_map_more, Math.Seq.take-length}
use Rattle.std.proofs.Common.{◌≡◌, ℕ, ◌+◌, ◌<◌, List, [], ◌++◌, sym, ◌∙◌, ap, take, length, get_or, arith, zero-add}
use Rattle.std.specs.List.{flat_map, enumerate_from}
use Rattle.std.proofs.lemmas.List.FromFn.{length-enumerate_from, get_or-enumerate_from}

-- the text of the first `count + 1` octets is the text of the first `count`, followed by `f` of the next octet
pub enumerated_more : (f : ℕ × ℕ → List ℕ) (xs : List ℕ) (count : ℕ) → count < length xs
    → flat_map f (take (count + 1) (enumerate_from 0 xs)) ≡ flat_map f (take count (enumerate_from 0 xs)) ++ f (count, get_or xs count 0)
enumerated_more f xs count low =
    let long : length (enumerate_from 0 xs) ≡ length xs = length-enumerate_from 0 xs in
    let at : get_or (enumerate_from 0 xs) count (0, 0) ≡ (count, get_or xs count 0) =
    get_or-enumerate_from 0 xs count (0, 0) low ∙ ap (λ (n : ℕ). let p : ℕ × ℕ = (n, get_or xs count 0) in p) (zero-add count) in
    ap (flat_map f) (take_more (enumerate_from 0 xs) count (0, 0) (omega arith))
    ∙ sym (flat_map_more f [] (take count (enumerate_from 0 xs)) (get_or (enumerate_from 0 xs) count (0, 0)))
    ∙ ap (λ (p : ℕ × ℕ). flat_map f (take count (enumerate_from 0 xs)) ++ f p) at

pub enumerated_all : (f : ℕ × ℕ → List ℕ) (xs : List ℕ) (count : ℕ) → count ≡ length xs
    → flat_map f (take count (enumerate_from 0 xs)) ≡ flat_map f (enumerate_from 0 xs)
enumerated_all f xs count e = grind (arith, common_steps, length-enumerate_from, take-length)
