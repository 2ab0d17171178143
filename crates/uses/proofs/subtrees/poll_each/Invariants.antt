use Rattle.std.proofs.Common.{◌<◌, ◌^◌, take}
use Rattle.uses.specs.Polled.{ArePolledInTurn}
use Rattle.uses.proofs.subtrees.poll_each.Given as goal

abbrev pub invariant-roots : goal.invariant-roots
invariant-roots g l = ArePolledInTurn g.L.Link l.initial.link (take l.root-index l.roots) l.subtrees.items l.link × (l.id < 2 ^ 31)
