use Rattle.std.proofs.Common.{◌≡◌, ◌++◌, take}
use Rattle.std.specs.List.{flat_map}
use Rattle.smi_names.specs.{meaning.Meaning.module_named, nodes.Imports.symbol_warnings}
use Rattle.smi_names.proofs.nodes.imports.add_symbols_warnings.Given as goal

abbrev pub invariant-symbols : goal.invariant-symbols
invariant-symbols l =
    l.warnings.items ≡ l.initial.warnings.items
    ++ flat_map (symbol_warnings (module_named l.names.modules l.import.source.octets) l.module.name.octets l.import.source.octets)
    (take l.symbol-index l.symbols)
