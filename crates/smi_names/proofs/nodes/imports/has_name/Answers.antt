-- If something decides the name's meaning, then the module defines or imports the name if and only if a definition or an import decides it.
use Rattle.std.proofs.Common.{Some, ◌∙◌}
use Rattle.smi_names.specs.{meaning.Meaning.module_named, meaning.Scopes.decision_of}
use Rattle.smi_names.proofs.Imports.{defines_or_imports_by}
use Rattle.smi_names.proofs.nodes.imports.has_name.Goals as goal

pub returns-in-Some : goal.returns-in-Some
returns-in-Some c =
    c.is_stated.ensures ∙ defines_or_imports_by (module_named c.args.names.now.modules c.args.home.now) c.args.name.now (Some (decision_of c.in-Some.decider))
    c.in-Some.ensures
