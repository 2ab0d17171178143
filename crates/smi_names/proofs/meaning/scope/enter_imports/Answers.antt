-- The invariant of the loop holds after one clause more.
use Rattle.std.proofs.{lemmas.Grind.common_steps, lemmas.List.take_more, lemmas.List.Folds.find-append}
use Rattle.std.proofs.Common.{arith, ◌≡◌, ℕ, ◌+◌, ◌<◌, length, List, [], ◌∷◌, get_or, take}
use Rattle.std.specs.Option.{option_map}
use Rattle.smi_text.specs.{trees.Lookup.first_import, declared.trees.tree.Import.Import}
use Rattle.smi_names.specs.meaning.Meaning.{imported, or_else}
use Rattle.smi_names.proofs.Scopes.{KnowsMore-then}
use Rattle.smi_names.proofs.meaning.scope.enter_imports.Goals as goal

more : (is : List Import) (k : ℕ) (i : Import) (x : List ℕ) → k < length is → i ≡ get_or is k i
    → or_else (option_map imported (first_import x (take k is))) (option_map imported (first_import x (i ∷ [])))
    ≡ option_map imported (first_import x (take (k + 1) is))
more is k i x l e = grind (arith, common_steps, find-append, take_more)

pub imports-preserved : goal.imports-preserved
imports-preserved c =
    KnowsMore-then _ _ _ _ _ _ _ _ _ _ _ c.imports.invariant c.in_ok-enter_symbols.ensures.entered
    (λ x. more c.args.imports.now c.imports.import-index c.import-item.result x c.imports-test.true c.import-item.is)
