-- A name resolves to the resolution at the index of its entry, whether that was guessed or looked up.
use Rattle.std.proofs.Common.{rules, ◌≡◌, true, sym}
use Rattle.std.specs.List.{slice_get}
use Rattle.smi_names.specs.{chains.Resolution.resolutions_at, meaning.Meaning.QualifiedName, meaning.Directory.index_by, meaning.Directory.is_entry_of}
use Rattle.smi_names.proofs.Directory.{resolved, resolved_entry}
use Rattle.smi_names.proofs.meaning.names.Names.resolution_of.Goals as goal

pub returns-then-is_entry : goal.returns-then-is_entry
returns-then-is_entry c =
    let d = c.self.inside.directory in
    let rs = resolutions_at c.self.inside.resolutions.list.items c.self.inside.resolutions.indices.items in
    let m = c.args.module.now in
    let entry : is_entry_of (slice_get d.entries.items c.saturating_add-guess.result) c.args.source.0 c.args.name.now ≡ true = search rules in
    let there = rw (sym c.self.view_is) at c.requires.there in
    let first = rw (sym c.self.view_is) at c.requires.first in
    rw (sym c.self.view_is) (resolved_entry c.self.inside.modules.now d rs c.self.invariant.1 c.self.invariant.2 c.saturating_add-guess.result
    c.args.source.0 m c.args.name.now c.get.result there first entry c.get.ensures)

pub returns : goal.returns
returns c =
    let a : QualifiedName = record { home = c.args.module.now.name.octets; name = c.args.name.now } in
    let d = c.self.inside.directory in
    let rs = resolutions_at c.self.inside.resolutions.list.items c.self.inside.resolutions.indices.items in
    let index : c.entry_index-index.result ≡ index_by d a = rw (sym c.as_bytes.ensures.octets) c.entry_index-index.ensures in
    let got = rw index at c.get-2.ensures in
    rw (sym c.self.view_is) (resolved c.self.inside.modules.now d rs c.self.invariant.1 c.self.invariant.2 a c.get-2.result got)
