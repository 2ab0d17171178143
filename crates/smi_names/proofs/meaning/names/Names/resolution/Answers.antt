-- A name resolves to the resolution at the index of its entry.
use Rattle.std.proofs.Common.{◌≡◌, sym}
use Rattle.smi_names.specs.{chains.Resolution.resolutions_at, meaning.Meaning.QualifiedName, meaning.Directory.index_by}
use Rattle.smi_names.proofs.Directory.{resolved}
use Rattle.smi_names.proofs.meaning.names.Names.resolution.Goals as goal

pub returns : goal.returns
returns c =
    let a : QualifiedName = record { home = c.args.home.now; name = c.args.name.now } in
    let d = c.self.inside.directory in
    let rs = resolutions_at c.self.inside.resolutions.list.items c.self.inside.resolutions.indices.items in
    let index : c.entry_index-index.result ≡ index_by d a = c.entry_index-index.ensures in
    let got = rw index at c.get.ensures in
    rw (sym c.self.view_is) (resolved c.self.inside.modules.now d rs c.self.invariant.1 c.self.invariant.2 a c.get.result got)
