use Rattle.std.proofs.Common.{◌≡◌, ◌++◌, take}
use Rattle.std.specs.List.{flat_map}
use Rattle.smi_names.specs.nodes.Imports.{clause_warnings}
use Rattle.smi_names.proofs.nodes.imports.add_import_warnings.Given as goal

abbrev pub invariant-clauses : goal.invariant-clauses
invariant-clauses l =
    l.warnings.items ≡ l.initial.warnings.items ++ flat_map (clause_warnings l.names.modules l.module.name.octets) (take l.import-index l.clauses)
