use Rattle.std.proofs.Common.{◌≡◌, ◌<◌, ◌+◌, ℕ, true, false, take, drop, map, sym, ◌∙◌, arith, below_more, refl, length}
use Rattle.std.specs.{List.list_any, Ordering.nat_cmp, Ordering.eq_by_cmp, Cmp.Lexicographic.slice_cmp}
use Rattle.std.proofs.lemmas.List.{take-append-drop}
use Rattle.snmp_agent.proofs.RowSearch.{list_any-items, no_beginning}
use Rattle.snmp_agent.proofs.table.has_beginning.Goals as goal

pub returns-then-contains : goal.returns-then-contains
returns-then-contains c =
    let o = c.args.name.now in
    let keys = c.args.objects.now.keys in
    let found : list_any (eq_by_cmp (slice_cmp nat_cmp) (take c.ends.end o)) (map (λ key. key.items) keys) ≡ true =
    sym (list_any-items (take c.ends.end o) keys) ∙ sym c.contains.ensures ∙ c.if-contains.true in
    (λ _. (take c.ends.end o, drop c.ends.end o, found, sym (take-append-drop c.ends.end o)), λ _. refl)

pub ends-preserved : goal.ends-preserved
ends-preserved c =
    let o = c.args.name.now in
    let keys = c.args.objects.now.keys in
    let none : list_any (eq_by_cmp (slice_cmp nat_cmp) (take c.ends.end o)) (map (λ key. key.items) keys) ≡ false =
    sym (list_any-items (take c.ends.end o) keys) ∙ sym c.contains.ensures ∙ c.if-contains.false in
    below_more _ _ c.ends.invariant none

pub returns-else-contains : goal.returns-else-contains
returns-else-contains c =
    let o = c.args.name.now in
    let keys = c.args.objects.now.keys in
    let none : list_any (eq_by_cmp (slice_cmp nat_cmp) (take c.ends.end o)) (map (λ key. key.items) keys) ≡ false =
    sym (list_any-items (take c.ends.end o) keys) ∙ sym c.contains.ensures ∙ c.if-contains.false in
    let all : (k : ℕ) → k < c.ends.end + 1
    → list_any (eq_by_cmp (slice_cmp nat_cmp) (take k o)) (map (λ key. key.items) keys) ≡ false = below_more _ _ c.ends.invariant none in
    let at_end : c.ends.end ≡ length o = omega arith in
    (λ wrong. absurd (cc), λ h. absurd (no_beginning (map (λ key. key.items) keys) o (λ k low. all k (omega arith)) h))
