-- If `id` isn't the index of a node, then it has no syntax.
use Rattle.std.proofs.Common.{sym}
use Rattle.smi_tree.proofs.Syntaxes.{kept_none}
use Rattle.smi_tree.proofs.tree.Tree.syntax_of.Goals as goal

pub returns-in_err-source : goal.returns-in_err-source
returns-in_err-source c =
    let i = c.self.inside in
    let past = rw c.deref.ensures.value at c.in_err-source.ensures.lookup.3 in
    rw (c.from_residual.ensures, sym c.self.view_is) (sym (kept_none i.modules.items i.types i.sources.items c.args.id past))
