-- A module of this name is loaded if and only if the map has an index for the name.
use Rattle.std.proofs.Common.{rules, ◌≡◌, is_some, sym, ap, ◌∙◌}
use Rattle.smi_text.specs.trees.Mark.{same_text}
use Rattle.smi_names.specs.meaning.Scopes.{index_in}
use Rattle.smi_names.proofs.Directory.{loaded}
use Rattle.smi_names.proofs.meaning.names.Names.is_loaded.Goals as goal

pub returns : goal.returns
returns c =
    let here : c.is_some.result ≡ is_some (index_in c.self.inside.directory.homes c.args.name.now) = search rules in
    here ∙ ap (λ o. is_some o) (c.self.invariant.1.placed c.args.name.now)
    ∙ rw (sym c.self.view_is) (loaded (λ m. same_text m.name.octets c.args.name.now) 0 c.self.inside.modules.now)
