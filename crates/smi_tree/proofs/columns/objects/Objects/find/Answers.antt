-- What a name refers to is stored at the index of its entry.
use Rattle.std.proofs.Common.{◌≡◌, ◌∙◌}
use Rattle.smi_names.specs.meaning.Meaning.{QualifiedName}
use Rattle.smi_tree.proofs.Definitions.{is_meant}
use Rattle.smi_tree.proofs.columns.objects.Objects.find.Goals as goal

pub returns : goal.returns
returns c =
    let a : QualifiedName = record { home = c.args.home.now; name = c.args.name.now } in
    let view : c.self.inside.modules.now ≡ c.args.self.now = c.self.view_is in
    let same : c.self.inside.entries.modules ≡ c.args.self.now = c.self.invariant.0 ∙ view in
    rw (← same, c.copy_at.ensures, c.deref.ensures.value) (is_meant c.self.inside.entries.modules a _
    (c.self.invariant.3 c.entry_index.result a c.entry_index.ensures))
