-- Each step of a search by halves leaves `IsHalvedTo` true (`passes`, `fails`); at its end, both indices are the same (`met`).
use Rattle.std.proofs.{lemmas.Grind.common_steps, lemmas.List.get_or_default}
use Rattle.std.proofs.Common.{◌≡◌, ℕ, ◌+◌, ◌≤◌, ◌<◌, Bool, true, false, List, length, slice_index_or, refl, sym, ap, ◌∙◌, arith}
use Rattle.std.specs.List.Sorted.{IsPartitionedBy}
use Rattle.snmp_agent.specs.private.table.BinarySearch.{IsHalvedTo}

-- if an element passes the test, then so do those before it, and the search continues after it
pub passes : {X : Type 0} (p : X → Bool) (xs : List X) (passed end at : ℕ) (x : X) → IsPartitionedBy p xs → IsHalvedTo p xs passed end → at < end
    → x ≡ slice_index_or xs at x → p x ≡ true → IsHalvedTo p xs (at + 1) end
passes p xs passed end at x parted h low here found = record {
  order = omega (arith, low);
  bound = h.bound;
  prefix = λ k d from below.
      let inside : at < length xs = omega (arith, low, h.bound) in
      let true_there : p (slice_index_or xs at d) ≡ true = ap p (get_or_default xs at d x inside ∙ sym here) ∙ found in
      parted k at d (omega (arith, below)) inside true_there;
  back = h.back;
}

-- if an element doesn't pass the test, then neither do those after it, and the search continues before it
pub fails : {X : Type 0} (p : X → Bool) (xs : List X) (passed end at : ℕ) (x : X) → IsPartitionedBy p xs → IsHalvedTo p xs passed end → at < end
    → passed ≤ at → x ≡ slice_index_or xs at x → p x ≡ false → IsHalvedTo p xs passed at
fails {X} p xs passed end at x parted h low after here found = record {
  order = after;
  bound = omega (arith, low, h.bound);
  prefix = h.prefix;
  back = λ k d from below. by_test k d from below (p (slice_index_or xs k d)) refl;
}
  where
    by_test : (k : ℕ) (d : X) → at ≤ k → k < length xs → (b : Bool) → p (slice_index_or xs k d) ≡ b → p (slice_index_or xs k d) ≡ false
    by_test k d from below false is = is
    by_test k d from below true is =
        let true_there : p (slice_index_or xs at d) ≡ true = parted at k d from below is in
        let false_there : p (slice_index_or xs at d) ≡ false = ap p (get_or_default xs at d x (omega (arith, low, h.bound)) ∙ sym here) ∙ found in
        absurd (cc)

-- if no element is left between the two indices, then they are one index
pub met : {X : Type 0} (p : X → Bool) (xs : List X) (passed end : ℕ) → IsHalvedTo p xs passed end → end ≤ passed → IsHalvedTo p xs passed passed
met p xs passed end h none = grind (arith, common_steps)
