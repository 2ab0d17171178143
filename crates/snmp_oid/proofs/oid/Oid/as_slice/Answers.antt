use Rattle.std.proofs.Common.{ℕ, ◌<◌, ◌^◌, List, length, get_or, ◌∙◌, subst, arith}
use Rattle.std.proofs.lemmas.List.Elements.{All-from_get_or}
use Rattle.snmp_oid.specs.Identifier.{IsIdentifier}
use Rattle.snmp_oid.proofs.oid.Oid.as_slice.Goals as goal

pub returns-clause-is_identifier : goal.returns-clause-is_identifier
returns-clause-is_identifier c =
    let P : List ℕ → Type 0 = λ o. IsIdentifier o in
    let small : (k : ℕ) → k < length c.as_slice-numbers.result.now → get_or c.as_slice-numbers.result.now k 0 < 2 ^ 32 = λ k low. grind arith in
    subst P (c.as_slice-numbers.ensures.value ∙ c.self.view_is)
    record { short = c.as_slice-numbers.ensures.fits; numbers = All-from_get_or (λ n. n < 2 ^ 32) c.as_slice-numbers.result.now 0 small }
