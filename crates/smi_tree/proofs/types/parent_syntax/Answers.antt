-- The syntax that a name means is stored at the index of its entry.
use Rattle.std.proofs.Common.{◌≡◌}
use Rattle.smi_names.specs.meaning.Meaning.{QualifiedName}
use Rattle.smi_tree.proofs.Refinements.{is_meant}
use Rattle.smi_tree.proofs.types.parent_syntax.Goals as goal

pub returns : goal.returns
returns c = λ x is.
    let a : QualifiedName = record { home = c.args.home.now; name = x } in
    let other = c.in_ok-name.ensures in
    let name : c.in_ok-name.name.now.octets ≡ x = cc in
    let index = rw (c.as_bytes.ensures.octets, name) at c.entry_index.ensures in
    rw c.copy_at.ensures (is_meant c.args.entries.now.modules a _ (c.requires.followed c.entry_index.result a index))

pub returns-in_err-name : goal.returns-in_err-name
returns-in_err-name c = λ x is. absurd (let none = c.in_err-name.ensures in cc)
