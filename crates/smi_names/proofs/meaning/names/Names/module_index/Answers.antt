-- The map has for each name the index of the first module of that name.
use Rattle.std.proofs.Common.{sym, ◌∙◌}
use Rattle.smi_names.proofs.meaning.names.Names.module_index.Goals as goal

pub returns : goal.returns
returns c = c.find.ensures ∙ rw (sym c.self.view_is) (c.self.invariant.1.placed c.args.name.now)
