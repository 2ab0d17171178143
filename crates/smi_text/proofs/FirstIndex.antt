-- What `memchr` finds is the first offset of an octet, and `memchr_iter` finds as many newlines as there are.
use Rattle.std.proofs.{lemmas.Grind.common_steps, lemmas.List.take_all, lemmas.List.append-nil, lemmas.List.Folds.list_all_more}
use Rattle.std.proofs.Common.{◌≡◌, ℕ, zero, suc, ◌+◌, ◌<◌, ◌≤◌, Bool, true, cond, ◌==◌, List, [], ◌∷◌, ◌++◌, length, get_or, take, drop}
use Rattle.std.proofs.Common.{Option, Some, None, refl, ap, ◌∙◌, arith, add-one}
use Rattle.std.specs.{List.list_all, Iterator.Drains, Iterator.Yields}
use Rattle.std.proofs.lemmas.Bool.{eqb-true, not_from_false, false_from_ne_true}
use Rattle.memchr.specs.Find.{IsFirstByte, TakesFirst, is_byte, places, places_from}
use Rattle.smi_text.specs.{lexer.LongestMatch.IsFirstIndex, lexer.LongestMatch.is_other, lexer.LongestMatch.newlines}
use Rattle.smi_text.proofs.{LexedItems.newlines-cons, LexedItems.newlines-one, Scans.rest_at}

-- if none of the first `n` octets is `octet`, then each of them passes the test `is_other octet`
others : (octet : ℕ) (text : List ℕ) (n : ℕ) → n ≤ length text
    → ((k : ℕ) → k < n → (get_or text k 0 == octet) ≡ true → ⊥)
    → list_all (is_other octet) (take n text) ≡ true
others octet text zero within none = refl
others octet text (suc n) within none =
    let before = others octet text n (omega arith) (λ k below. none k (omega arith)) in
    let here = not_from_false _ (false_from_ne_true (get_or text n 0 == octet) (none n (omega arith))) in
    rw (← add-one n, list_all_more (is_other octet) text n 0 (omega arith), before, here) refl

pub first_found : (octet : ℕ) (text : List ℕ) (r : Option ℕ)
    → IsFirstByte (is_byte octet) text r → IsFirstIndex octet text r
first_found octet text None none =
    rw (take_all (length text) text (omega arith)) at
    (others octet text (length text) (omega arith) (λ k below. none k (omega arith) below))
first_found octet text (Some i) found = grind (arith, common_steps, eqb-true, others)

-- if `later` has `m` offsets, and `i` is put before them only if `b` is true, then the result has `m + 1` offsets if `b` is true, and `m` otherwise
placed : (b : Bool) (i : ℕ) (later : List ℕ) (m : ℕ) → length later ≡ m
    → length (cond b (i ∷ later) later) ≡ cond b 1 0 + m
placed b i later m h = grind (arith, common_steps)

newlines_placed : (text : List ℕ) (i n : ℕ) → i + n ≤ length text
    → length (places_from (is_byte 10) text i n) ≡ newlines (take n (drop i text))
unfolding places_from
newlines_placed text i zero within = refl
newlines_placed text i (suc n) within =
    grind (arith, common_steps, placed, newlines_placed text (i + 1) n, newlines-one, newlines-cons (get_or text i 0) (take n (drop (i + 1) text)), rest_at)

newline_indices : (text : List ℕ) → length (places (is_byte 10) text) ≡ newlines text
newline_indices text = grind (arith, common_steps, newlines_placed, take_all)

taken : (indices returned left : List ℕ) → Yields TakesFirst indices returned left → indices ≡ returned ++ left
taken indices [] left none = none
taken indices (index ∷ returned) left first = first.1 ∙ ap (λ more. index ∷ more) (taken first.0 returned left first.2)

pub each_newline : (text returned : List ℕ) → Drains TakesFirst (places (is_byte 10) text) returned → length returned ≡ newlines text
each_newline text returned run = grind (arith, common_steps, taken, append-nil, newline_indices)
