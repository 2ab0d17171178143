-- The entry at the index of a name has what decides the name's meaning. If the index is past the last entry, nothing decides it.
use Rattle.std.proofs.Common.{rules, ◌≡◌, Some, None, ◌∙◌}
use Rattle.smi_names.specs.meaning.Meaning.{module_named}
use Rattle.smi_names.proofs.Directory.{decided_at}
use Rattle.smi_names.proofs.meaning.names.Names.decider.Goals as goal

pub returns-in_err-entry : goal.returns-in_err-entry
returns-in_err-entry c =
    let none : c.get.result ≡ None = search rules in
    let found = rw (c.entries-entries.ensures, none) at (c.get.ensures.found ∙ c.entry_index.ensures) in
    rw c.from_residual.ensures (decided_at c.args.name.now None (module_named c.args.self.now.modules c.args.home.now) found)

pub returns : goal.returns
returns c =
    let some : c.get.result ≡ Some c.in_ok-entry.entry = search rules in
    let found = rw (c.entries-entries.ensures, some) at (c.get.ensures.found ∙ c.entry_index.ensures) in
    decided_at c.args.name.now _ (module_named c.args.self.now.modules c.args.home.now) found
