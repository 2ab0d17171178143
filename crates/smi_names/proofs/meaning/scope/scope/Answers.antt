-- Definitions decide before imports, and these before roots.
use Rattle.std.proofs.Common.{◌≡◌, None, refl, ◌∙◌}
use Rattle.smi_names.specs.meaning.Scopes.{index_in}
use Rattle.smi_names.proofs.{Scopes.KnowsMore-then, Decisions.decided_all}
use Rattle.smi_names.proofs.meaning.scope.scope.Goals as goal

pub returns-clause-decided : goal.returns-clause-decided
returns-clause-decided c = λ x.
    let empty : index_in c.in_ok-scope.scope x ≡ None = rw c.in_ok-scope.ensures.empty refl in
    let first = c.in_ok-enter_definitions.ensures.entered in
    let clauses = c.import_clauses.ensures in
    let second = rw clauses at c.in_ok-enter_imports.ensures.entered in
    let all = KnowsMore-then _ _ _ _ _ _ _ _ _ _ _ (KnowsMore-then _ _ _ _ _ _ _ _ _ _ _ first second (λ y. refl)) c.in_ok-enter_roots.ensures.entered
    (λ y. refl) in
    all.knows x ∙ rw empty refl

pub returns-clause-grown : goal.returns-clause-grown
returns-clause-grown c =
    let first = c.in_ok-enter_definitions.ensures.entered in
    let second = rw (c.import_clauses.ensures) at c.in_ok-enter_imports.ensures.entered in
    let all = KnowsMore-then _ _ _ _ _ _ _ _ _ _ _ (KnowsMore-then _ _ _ _ _ _ _ _ _ _ _ first second (λ y. refl)) c.in_ok-enter_roots.ensures.entered
    (λ y. refl) in
    (all.added, all.grown, all.of, decided_all _ _ _ _ _ _ _ all (λ x. rw c.in_ok-scope.ensures.empty refl) (λ x. refl))
