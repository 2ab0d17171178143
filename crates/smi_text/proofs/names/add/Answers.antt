use Rattle.std.proofs.Common.{arith, ◌≡◌, ℕ, Bool, true, not, ◌||◌, List, Bor, cond, ◌∙◌, ap, rules}
use Rattle.std.proofs.{lemmas.Grind.common_steps, lemmas.Map.Text.is_eq-slice_cmp, lemmas.Slice.Eq.bytes_eq-Decides}
use Rattle.std.specs.Ordering.{is_eq, nat_cmp, ordering_then}
use Rattle.std.specs.{declared.cmp.Ordering.Ordering, BTreeSet.contains_by, Cmp.Lexicographic.slice_cmp}
use Rattle.smi_text.specs.{trees.Mark.same_text, private.Names.has, private.Names.last_eight}
use Rattle.smi_text.proofs.names.add.Goals as goal

cond-or : (b r : Bool) → cond b true r ≡ (b || r)
cond-or b r = grind (arith, common_steps)

-- if equal texts have equal numbers, then numbers and texts together are equal if and only if the texts are
same_then : (first texts : Ordering) → (is_eq texts ≡ true → is_eq first ≡ true) → is_eq (ordering_then first texts) ≡ is_eq texts
same_then first texts agree = grind (arith, common_steps)

nat_cmp-same : (n : ℕ) → is_eq (nat_cmp n n) ≡ true
nat_cmp-same n = search rules

same_key : (x y : List ℕ) → is_eq (ordering_then (nat_cmp (last_eight x) (last_eight y)) (slice_cmp nat_cmp x y)) ≡ same_text x y
same_key x y = grind (arith, common_steps, same_then, bytes_eq-Decides, is_eq-slice_cmp, nat_cmp-same)

pub returns-in-Ok : goal.returns-in-Ok
returns-in-Ok c =
    let name = c.args.name.now in
    let number = c.last_eight.ensures in
    record {
      new = c.in-Ok.ensures.added
          ∙ ap (λ n. not (contains_by (λ k. ordering_then (nat_cmp n k.0) (slice_cmp nat_cmp name k.1.now)) c.args.names.now)) number;
      added = λ x.
          let q : ℕ × Bor (List ℕ) = (last_eight x, record { ref_ptr = (0, 0); now = x }) in
          c.in-Ok.ensures.updates.0 q ∙ cond-or _ (has c.args.names.now x)
          ∙ ap (λ (b : Bool). b || has c.args.names.now x)
          (ap (λ n. is_eq (ordering_then (nat_cmp n (last_eight x)) (slice_cmp nat_cmp name x))) number ∙ same_key name x);
      err = tt;
    }
