-- The invariant of the loop holds after one module more.
use Rattle.std.proofs.Common.{rules, ◌≡◌, ◌+◌, ◌<◌, [], ◌∷◌, ◌++◌, length, take, refl, sym, ◌∙◌}
use Rattle.std.proofs.lemmas.List.{take_more}
use Rattle.smi_names.proofs.NewNodes.{AreGathered-more}
use Rattle.smi_names.proofs.nodes.gather.gather_nodes.Goals as goal

pub modules-preserved : goal.modules-preserved
modules-preserved c =
    let ms = c.args.modules.now in
    let i = c.modules.i in
    let inside : c.modules.i < length c.args.modules.now = search rules in
    let more : take (i + 1) ms ≡ take i ms ++ c.index-modules-i.result ∷ [] = take_more ms i c.index-modules-i.result inside
    ∙ rw (sym c.index-modules-i.is) refl in
    let added = rw c.requires at c.in_ok-add_module.ensures.added in
    rw more (AreGathered-more ms c.modules.gathered c.add_module.new.self (take i ms) c.index-modules-i.result c.modules.invariant added)
