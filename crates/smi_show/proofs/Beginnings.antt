-- If a number is appended to an identifier, then the identifier has one more beginning: the whole of it. The beginnings are the first number, the first two
-- numbers, and so on.
use Rattle.std.proofs.Common.{arith, ◌≡◌, ℕ, List, [], ◌∷◌, ◌++◌, refl}
use Rattle.std.proofs.{lemmas.Grind.common_steps, lemmas.List.append-nil, lemmas.List.map-append, lemmas.List.Concat.flat_map-append}
use Rattle.std.specs.List.{flat_map}
use Rattle.smi_show.specs.name.Beginnings.{beginnings}
use Rattle.smi_tree.specs.Nodes.{last_number}

last_is : (o : List ℕ) (n : ℕ) → last_number (o ++ n ∷ []) ≡ n
last_is [] n = refl
last_is (m ∷ []) n = refl
last_is (m ∷ next ∷ o) n = last_is (next ∷ o) n

-- the beginnings of `o ++ n ∷ []` are the beginnings of `o`, and then `o ++ n ∷ []` itself
beginnings_more : (o : List ℕ) (n : ℕ) → beginnings (o ++ n ∷ []) ≡ beginnings o ++ (o ++ n ∷ []) ∷ []
beginnings_more [] n = refl
beginnings_more (m ∷ o) n = grind (arith, common_steps, beginnings_more o n, map-append)

-- `one` returns a text for a beginning and its last number: if `next` is `here` followed by `n`, then the texts for the beginnings of `here`, followed by
-- `one next n`, are the texts for the beginnings of `next`
pub text_more : (one : List ℕ → ℕ → List ℕ) (here next : List ℕ) (n : ℕ) → next ≡ here ++ n ∷ []
    → flat_map (λ o. one o (last_number o)) (beginnings here) ++ one next n ≡ flat_map (λ o. one o (last_number o)) (beginnings next)
text_more one here next n is = grind (arith, common_steps, flat_map-append, beginnings_more, append-nil, last_is)
