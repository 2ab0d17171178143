-- The result is `child` if its number is at most the last number of the identifier at index `id`, or if this identifier isn't a child or `id` isn't its first
-- index. Otherwise the result is this identifier.
use Rattle.std.proofs.Common.{rules, ◌≡◌, ℕ, List, [], ◌∷◌, ◌++◌, Option, Some, None, IfSome, IsSomeAnd, ◌≤◌, inl, inr, refl, sym, ◌∙◌, arith}
use Rattle.std.proofs.Common.{ap, length, length-append}
use Rattle.std.proofs.lemmas.{List.same_from_push, Grind.common_steps}
use Rattle.std.specs.Cmp.Lexicographic.{bytes_decides}
use Rattle.smi_tree.specs.{branches.FirstIndex.first_index, branches.FirstIndex.oid_at, branches.Children.IsLowerChild}
use Rattle.smi_tree.proofs.FirstIndex.{index_found}
use Rattle.smi_tree.proofs.branches.identifiers.Identifiers.lower_child.Goals as goal
use Rattle.smi_tree.proofs.branches.identifiers.Identifiers.lower_child.Goals.{then-ne-via-then-ne, then-ne-via-else-ne+then-ne-2}
use Rattle.smi_tree.proofs.branches.identifiers.Identifiers.lower_child.Goals.{in_default-child-via-in-Some-child+else-lower-number}
use Rattle.smi_tree.proofs.branches.identifiers.Identifiers.lower_child.Goals.{in_default-child-via-in_default-child}

-- if the number of `child` is at most the number of each child of `o` with the first index `id`, `child` is the lower one
kept : (oids : List (List ℕ)) (o : List ℕ) (child : Option (ℕ × ℕ)) (id : ℕ)
    → ((n : ℕ) → first_index oids (oid_at oids id) ≡ Some id → oid_at oids id ≡ o ++ n ∷ [] → IsSomeAnd child (λ d. d.0 ≤ n))
    → IsLowerChild oids o child id child
kept oids o child id lower = record {
  one = inl refl;
  of_old = by child;
  of_id = λ n e. let at = (index_found oids (o ++ n ∷ []) id e).1 in lower n (rw at e) at;
}
  where
    by : (c : Option (ℕ × ℕ)) → IfSome c (λ d. IsSomeAnd c (λ e. e.0 ≤ d.0))
    by None = tt
    by (Some c) = omega arith

-- an index is the first index of at most one child
same-number : (oids : List (List ℕ)) (o : List ℕ) (id n m : ℕ) → first_index oids (o ++ n ∷ []) ≡ Some id → first_index oids (o ++ m ∷ []) ≡ Some id → n ≡ m
same-number oids o id n m e f = (same_from_push o o n m (sym (index_found oids (o ++ n ∷ []) id e).1 ∙ (index_found oids (o ++ m ∷ []) id f).1)).1

-- if `number` is at most the number of `child`, or `child` is None, the child at index `id` with this number is the lower one
taken : (oids : List (List ℕ)) (o : List ℕ) (child : Option (ℕ × ℕ)) (id number : ℕ) → first_index oids (o ++ number ∷ []) ≡ Some id
    → IfSome child (λ c. number ≤ c.0) → IsLowerChild oids o child id (Some (number, id))
taken oids o child id number e lower = record { one = inr (refl, e); of_old = lower; of_id = λ n f. omega (arith, same-number oids o id number n e f) }

pub returns-in_default : goal.returns-in_default
returns-in_default c =
    let numbers : c.as_slice-numbers.result.now ≡ oid_at c.args.self.now c.args.id = c.as_slice-numbers.ensures.value ∙ c.get.ensures in
    let none : length c.as_slice-numbers.result.now ≡ 0 = search rules in
    kept c.args.self.now c.args.oid.now c.args.child c.args.id (λ n first at.
    absurd (omega (arith, none, ap length at, ap length numbers, length-append c.args.oid.now (n ∷ []))))

pub returns-then-ne : goal.returns-then-ne
returns-then-ne c =
    let numbers : c.as_slice-numbers.result.now ≡ oid_at c.args.self.now c.args.id = c.as_slice-numbers.ensures.value ∙ c.get.ensures in
    let split : c.as_slice-numbers.result.now ≡ c.in-Some.prefix.now ++ c.in-Some.number.now ∷ [] = search rules in
    kept c.args.self.now c.args.oid.now c.args.child c.args.id (λ n first at. elim c.then-ne.branch [
      | then-ne-via-then-ne w ↦ (let same : c.args.oid.now ≡ c.in-Some.prefix.now =
          (same_from_push c.args.oid.now c.in-Some.prefix.now n c.in-Some.number.now (sym at ∙ sym numbers ∙ split)).0 in
          absurd (grind (arith, common_steps, bytes_decides c.in-Some.prefix.now c.args.oid.now, same, c.as_slice.ensures.value, c.ne.ensures, w.if-ne.true)))
      | then-ne-via-else-ne+then-ne-2 w ↦ (let is : w.find_numbers.result ≡ Some c.args.id = w.find_numbers.ensures ∙ rw numbers first in
          absurd (grind (arith, common_steps, rw is at w.ne-else-ne.ensures, w.if-ne-2.true)))
    ])

pub returns-in-Some-child : goal.returns-in-Some-child
returns-in-Some-child c =
    let oids = c.args.self.now in
    let numbers : c.as_slice-numbers.result.now ≡ oid_at c.args.self.now c.args.id = c.as_slice-numbers.ensures.value ∙ c.get.ensures in
    let split : c.as_slice-numbers.result.now ≡ c.in-Some.prefix.now ++ c.in-Some.number.now ∷ [] = search rules in
    let is : c.args.child ≡ Some c.in-Some-child.lower = search rules in
    rw is (kept oids c.args.oid.now (Some c.in-Some-child.lower) c.args.id (λ n first at.
    let last = (same_from_push c.args.oid.now c.in-Some.prefix.now n c.in-Some.number.now (sym at ∙ sym numbers ∙ split)).1 in omega (arith, last)))

pub returns-in_default-child : goal.returns-in_default-child
returns-in_default-child c =
    let numbers : c.as_slice-numbers.result.now ≡ oid_at c.args.self.now c.args.id = c.as_slice-numbers.ensures.value ∙ c.get.ensures in
    let split : c.as_slice-numbers.result.now ≡ c.in-Some.prefix.now ++ c.in-Some.number.now ∷ [] = search rules in
    let same : c.in-Some.prefix.now ≡ c.args.oid.now =
    grind (arith, common_steps, bytes_decides c.in-Some.prefix.now c.args.oid.now, c.as_slice.ensures.value, c.ne.ensures, c.if-ne.false) in
    let found : first_index c.args.self.now c.as_slice-numbers.result.now ≡ Some c.args.id =
    grind (arith, common_steps, c.find_numbers.ensures, c.ne-else-ne.ensures, c.if-ne-2.false) in
    taken c.args.self.now c.args.oid.now c.args.child c.args.id c.in-Some.number.now (rw (← same, ← split) found)
    (elim c.in_default-child.branch [
      | in_default-child-via-in-Some-child+else-lower-number w ↦ (let is : c.args.child ≡ Some w.in-Some-child.lower = search rules in rw is (omega arith))
      | in_default-child-via-in_default-child w ↦ (let is : c.args.child ≡ None = search rules in rw is tt)
    ])
