-- The invariant of the loop holds at its start and after one definition more.
use Rattle.std.proofs.Common.{arith, rules, ◌≡◌, ◌+◌, ◌<◌, [], ◌∷◌, ◌++◌, length, take, refl, sym, ◌∙◌}
use Rattle.std.proofs.{lemmas.Grind.common_steps, lemmas.List.take_more, lemmas.Option.slice_get_read}
use Rattle.smi_names.specs.nodes.Nodes.{Gathers, none}
use Rattle.smi_names.proofs.NewNodes.{Adds-none, Gathers-more}
use Rattle.smi_names.proofs.nodes.gather.Gathered.add_definitions.Goals as goal

pub defs-init : goal.defs-init
defs-init c = Adds-none c.args.names.now.modules c.args.self.now (Gathers c.args.names.now.modules c.args.module.now []) c.requires.long none

pub add_definition-requires-clause-defined : goal.add_definition-requires-clause-defined
add_definition-requires-clause-defined c = grind (arith, common_steps, slice_get_read)

pub defs-preserved : goal.defs-preserved
defs-preserved c =
    let ds = c.as_slice-defs.result.now in
    let k = c.defs.k in
    let inside : c.defs.k < length c.as_slice-defs.result.now = search rules in
    let more : take (k + 1) ds ≡ take k ds ++ c.index-defs-k.result ∷ [] = take_more ds k c.index-defs-k.result inside ∙ rw (sym c.index-defs-k.is) refl in
    rw more (Gathers-more c.args.names.now.modules c.args.self.now c.defs.self c.add_definition.new.self c.args.module.now (take k ds) c.index-defs-k.result
    c.defs.invariant c.in_ok-add_definition.ensures.added)
