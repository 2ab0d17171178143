use Rattle.std.proofs.Common.{take}
use Rattle.std.specs.Option.{option_map}
use Rattle.smi_text.specs.trees.Lookup.{first_import}
use Rattle.smi_names.specs.{meaning.Meaning.imported, meaning.Scopes.KnowsMore}
use Rattle.smi_names.proofs.meaning.scope.enter_imports.Given as goal

abbrev pub invariant-imports : goal.invariant-imports
invariant-imports l =
    KnowsMore l.initial.entries.items l.initial.scope l.entries.items l.scope l.module l.index
    (λ x. option_map imported (first_import x (take l.import-index l.imports)))
