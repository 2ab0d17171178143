-- A text is one of some words if it is the first of them or one of the others.
use Rattle.std.proofs.Common.{◌≡◌, ℕ, ◌+◌, ◌<◌, ◌≤◌, Bool, true, false, ◌||◌, List, [], ◌∷◌, length, get_or, drop, refl, drop-cons, add-one, Bor}
use Rattle.std.proofs.Common.{arith}
use Rattle.std.proofs.{lemmas.Grind.common_steps, lemmas.Slice.Eq.bytes_eq-Decides, lemmas.List.drop_all}
use Rattle.std.proofs.lemmas.Bool.{and_parts, false_from_ne_true}
use Rattle.std.specs.{Prelude.map, List.list_all, List.list_any}
use Rattle.smi_text.specs.trees.Mark.{same_text}

abbrev pub is_one_of : List ℕ → List (Bor (List ℕ)) → Bool
is_one_of x ws = list_any (same_text x) (map (λ w. w.now) ws)

pub is_one_of_drop : (x : List ℕ) (ws : List (Bor (List ℕ))) (i : ℕ) (d : Bor (List ℕ)) (b : Bool) → i < length ws → b ≡ same_text x (get_or ws i d).now
    → is_one_of x (drop i ws) ≡ (b || is_one_of x (drop (i + 1) ws))
is_one_of_drop x ws i d b h e = rw (add-one, drop-cons ws i d, e) refl

pub is_one_of_none : (x : List ℕ) (ws : List (Bor (List ℕ))) (i : ℕ) → length ws ≤ i → is_one_of x (drop i ws) ≡ false
is_one_of_none x ws i h = rw (drop_all i ws h) refl

-- if the second octet of each word passes a test, and the second octet of the text (0 if it has none) fails it, then the text isn't one of the words
pub other_second : (test : ℕ → Bool) (words : List (List ℕ)) (x : List ℕ) → list_all (λ w. test (get_or w 1 0)) words ≡ true
    → test (get_or x 1 0) ≡ false → list_any (same_text x) words ≡ false
other_second test [] x all other = refl
other_second test (w ∷ ws) x all other = grind (arith, common_steps, and_parts, bytes_eq-Decides, false_from_ne_true, other_second test ws x)
