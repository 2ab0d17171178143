-- An entry refers to the entry of the name that its own name refers to.
use Rattle.std.proofs.{Common.arith, lemmas.Grind.common_steps, lemmas.Result.IfOk-weaker}
use Rattle.smi_names.proofs.ReferenceChains.{are_next, keeps_imports}
use Rattle.smi_names.proofs.meaning.entries.Entries.next_indices.Goals as goal

pub next_indices-requires : goal.next_indices-requires
next_indices-requires g c = keeps_imports c.self.inside.directory.now c.self.invariant.parents

pub returns : goal.returns
returns g c = grind (arith, common_steps, IfOk-weaker, are_next)
