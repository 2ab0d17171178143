-- What the result of a read of at most `limit` octets says of the octets that were left.
use Rattle.std.proofs.Common.{◌≡◌, ◌∙◌, ◌<◌, ◌++◌, ℕ, List, [], Option, Some, None, IfSome, length, min, take, option_map, ap, arith, inl, inr, sym}
use Rattle.std.proofs.{Math.Seq.take-length, lemmas.Bool.cases_lt, lemmas.List.length-take-le, lemmas.List.take_min}

-- if a read of at most `limit` octets got fewer, then it got all that was left
pub all_is_left : (left : Option (List ℕ)) (limit : ℕ) (start got : List ℕ) → start ≡ [] → length got < limit
    → IfSome (option_map (take limit) left) (λ xs. got ≡ start ++ xs) → IfSome left (λ xs. got ≡ xs)
all_is_left None limit start got empty short is = tt
all_is_left (Some xs) limit start got empty short is =
    let prefix : got ≡ take limit xs = is ∙ ap (λ s. s ++ take limit xs) empty in
    let shorter : length xs < limit → min limit (length xs) ≡ length xs = λ below. omega arith in
    elim (cases_lt (length xs) limit) [
      | inl below ↦ prefix ∙ sym (take_min limit xs) ∙ ap (λ n. take n xs) (shorter below) ∙ take-length xs
      | inr reached ↦ let full : length (take limit xs) ≡ limit = length-take-le limit xs reached in absurd (omega (arith, ap length prefix))
    ]
