use Rattle.std.proofs.Common.{take, cond, Some, None}
use Rattle.std.specs.List.{list_any}
use Rattle.smi_text.specs.trees.Mark.{same_text}
use Rattle.smi_names.specs.{meaning.Meaning.imported, meaning.Scopes.KnowsMore}
use Rattle.smi_names.proofs.meaning.scope.enter_symbols.Given as goal

abbrev pub invariant-symbols : goal.invariant-symbols
invariant-symbols l =
    KnowsMore l.initial.entries.items l.initial.scope l.entries.items l.scope l.module l.index
    (λ x. cond (list_any (λ s. same_text s.text x) (take l.symbol-index l.symbols)) (Some (imported l.import)) None)
