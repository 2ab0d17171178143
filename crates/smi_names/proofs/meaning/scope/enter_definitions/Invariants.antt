use Rattle.std.proofs.Common.{take}
use Rattle.std.specs.Option.{option_map}
use Rattle.smi_text.specs.trees.Lookup.{first_definition}
use Rattle.smi_names.specs.{meaning.Meaning.defined, meaning.Scopes.KnowsMore}
use Rattle.smi_names.proofs.meaning.scope.enter_definitions.Given as goal

abbrev pub invariant-defs : goal.invariant-defs
invariant-defs l =
    KnowsMore l.initial.entries.items l.initial.scope l.entries.items l.scope l.module l.index
    (λ x. option_map defined (first_definition x (take l.k l.defs)))
