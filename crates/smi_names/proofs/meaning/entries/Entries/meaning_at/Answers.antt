-- A name means what its definition means or what the imported name means. It means nothing if it is a root, or if nothing decides its meaning.
use Rattle.std.proofs.Common.{sym, refl}
use Rattle.smi_names.specs.meaning.Scopes.{content_of}
use Rattle.smi_names.proofs.ReferenceChains.{means_none, means_root, means_import, means_defined}
use Rattle.smi_names.proofs.meaning.entries.Entries.meaning_at.Goals as goal

pub returns-in_default : goal.returns-in_default
returns-in_default g c = λ to next led. means_none c.args.self.now g.M.References.refers_to c.args.index g.M.Meaning.means (sym c.in_default.ensures.found)

pub returns-in-Definition : goal.returns-in-Definition
returns-in-Definition g c = λ to next led.
    let e = c.in-Some.entry in
    let d = c.in-Definition.def.now in
    let sourced = c.in-Some.ensures.source e refl in
    rw c.meaning.ensures (means_defined c.args.self.now g.M.References.refers_to c.args.index g.M.Meaning.means (content_of e)
    (sym c.in-Some.ensures.found) to next
    c.args.far led d (rw c.in-Definition.is refl) e.source.0 e.source.1 sourced.0 (sourced.1 d (rw c.in-Definition.is refl)))

pub returns-in-Import : goal.returns-in-Import
returns-in-Import g c = λ to next led.
    means_import c.args.self.now g.M.References.refers_to c.args.index g.M.Meaning.means (content_of c.in-Some.entry) (sym c.in-Some.ensures.found) to next
    c.args.far led c.in-Import.field-0.now (rw c.in-Import.is refl)

pub returns-in-Root : goal.returns-in-Root
returns-in-Root g c = λ to next led.
    means_root c.args.self.now g.M.References.refers_to c.args.index g.M.Meaning.means (content_of c.in-Some.entry) (sym c.in-Some.ensures.found)
    c.in-Root.field-0 (rw c.in-Root.is refl)
