-- The invariant of the loop holds after one definition more, and implies what the function ensures.
use Rattle.std.proofs.{lemmas.Grind.common_steps, lemmas.Option.slice_get_read, lemmas.List.Folds.find-append}
use Rattle.std.proofs.Common.{arith, ◌≡◌, ℕ, ◌+◌, ◌<◌, cond, length, List, Some, None, get_or, take}
use Rattle.std.proofs.lemmas.List.{take_more, take_all}
use Rattle.std.specs.Option.{option_map}
use Rattle.smi_text.specs.{trees.Mark.same_text, trees.Lookup.first_definition, declared.trees.tree.Def.Def}
use Rattle.smi_names.specs.meaning.Meaning.{defined, or_else}
use Rattle.smi_names.proofs.Scopes.{KnowsMore-then}
use Rattle.smi_names.proofs.meaning.scope.enter_definitions.Goals as goal

more : (ds : List Def) (k : ℕ) (d : Def) (x : List ℕ) → k < length ds → d ≡ get_or ds k d
    → or_else (option_map defined (first_definition x (take k ds))) (cond (same_text d.label.octets x) (Some (defined d)) None)
    ≡ option_map defined (first_definition x (take (k + 1) ds))
more ds k d x l e = grind (arith, common_steps, find-append, take_more)

pub enter-requires-clause-found : goal.enter-requires-clause-found
enter-requires-clause-found c = grind (arith, common_steps, slice_get_read)

pub defs-preserved : goal.defs-preserved
defs-preserved c =
    let label : c.as_bytes.result.now ≡ c.index-defs-k.result.label.octets = c.as_bytes.ensures.octets in
    let entered = rw label at c.in_ok-enter.ensures.entered in
    KnowsMore-then _ _ _ _ _ _ _ _ _ _ _ c.defs.invariant entered
    (λ x. more c.as_slice-defs.result.now c.defs.k c.index-defs-k.result x c.defs-test.true c.index-defs-k.is)

pub returns : goal.returns
returns c = grind (arith, common_steps, take_all)
