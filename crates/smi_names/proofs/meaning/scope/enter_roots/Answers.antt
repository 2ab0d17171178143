-- The three roots are entered, one after the other.
use Rattle.std.proofs.{Common.arith, Common.refl, lemmas.Grind.common_steps}
use Rattle.smi_names.proofs.Scopes.{KnowsMore-then}
use Rattle.smi_names.proofs.meaning.scope.enter_roots.Goals as goal

pub returns : goal.returns
returns c =
    let a = c.root_entry.ensures.entry in
    let b = c.root_entry-2.ensures.entry in
    let d = c.root_entry-3.ensures.entry in
    let first = rw (a.0, a.1, a.2, a.3) at c.in_ok-enter.ensures.entered in
    let second = rw (b.0, b.1, b.2, b.3) at c.in_ok-enter-2.ensures.entered in
    let third = rw (d.0, d.1, d.2, d.3) at c.in_ok-enter-3.ensures.entered in
    record {
      entered = KnowsMore-then _ _ _ _ _ _ _ _ _ _ _ (KnowsMore-then _ _ _ _ _ _ _ _ _ _ _ first second (λ x. refl)) third
          (λ x. grind (arith, common_steps));
    }
