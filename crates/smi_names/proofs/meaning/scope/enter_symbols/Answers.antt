-- The invariant of the loop holds after one symbol more, and implies what the function ensures.
use Rattle.std.proofs.{lemmas.Grind.common_steps, lemmas.List.take_more, lemmas.List.take_all, lemmas.List.Folds.list_any-append}
use Rattle.std.proofs.Common.{arith, ◌≡◌, ℕ, ◌+◌, ◌<◌, cond, length, List, [], ◌∷◌, Some, None, get_or, take}
use Rattle.std.specs.{List.list_any, Option.option_map}
use Rattle.smi_text.specs.{trees.Mark.same_text, declared.trees.tree.Import.Import, declared.trees.tree.TokenText.TokenText}
use Rattle.smi_text.specs.trees.Lookup.{first_import, is_imported_by}
use Rattle.smi_names.specs.meaning.Meaning.{Decision, imported, or_else}
use Rattle.smi_names.proofs.Scopes.{KnowsMore-then}
use Rattle.smi_names.proofs.meaning.scope.enter_symbols.Goals as goal

more : (ts : List TokenText) (k : ℕ) (t : TokenText) (x : List ℕ) (d : Decision) → k < length ts → t ≡ get_or ts k t
    → or_else (cond (list_any (λ s. same_text s.text x) (take k ts)) (Some d) None) (cond (same_text t.text x) (Some d) None)
    ≡ cond (list_any (λ s. same_text s.text x) (take (k + 1) ts)) (Some d) None
more ts k t x d l e = grind (arith, common_steps, list_any-append, take_more)

whole : (i : Import) (x : List ℕ) → cond (is_imported_by x i) (Some (imported i)) None ≡ option_map imported (first_import x (i ∷ []))
whole i x = grind (arith, common_steps)

pub symbols-preserved : goal.symbols-preserved
symbols-preserved c =
    let text : c.as_bytes.result.now ≡ c.symbol-item.result.text = c.as_bytes.ensures in
    let entered = rw text at c.in_ok-enter.ensures.entered in
    KnowsMore-then _ _ _ _ _ _ _ _ _ _ _ c.symbols.invariant entered
    (λ x. more c.as_slice-symbols.result.now c.symbols.symbol-index c.symbol-item.result x (imported c.args.import.now) c.symbols-test.true c.symbol-item.is)

pub returns : goal.returns
returns c = grind (arith, common_steps, take_all, whole)
