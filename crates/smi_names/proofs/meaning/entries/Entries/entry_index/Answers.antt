-- The entry at the index of a name has what decides the name's meaning.
use Rattle.std.proofs.{Common.◌≡◌, Common.sym, Common.◌∙◌, lemmas.Option.slice_get-map}
use Rattle.smi_names.specs.{meaning.Meaning.QualifiedName, meaning.Directory.index_by, meaning.Scopes.content_of}
use Rattle.smi_names.proofs.Directory.{entry_at}
use Rattle.smi_names.proofs.meaning.entries.Entries.entry_index.Goals as goal

pub returns : goal.returns
returns c =
    let a : QualifiedName = record { home = c.args.home.now; name = c.args.name.now } in
    let d = c.self.inside.directory.now in
    let at : c.entry_index.result ≡ index_by d a = c.entry_index.ensures in
    rw (sym c.self.view_is, at) (slice_get-map content_of d.entries.items (index_by d a) ∙ entry_at c.self.inside.modules.now d c.self.invariant a)
