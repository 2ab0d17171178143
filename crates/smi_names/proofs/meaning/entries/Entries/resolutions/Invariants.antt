use Rattle.std.proofs.Common.{◌≡◌, length, take}
use Rattle.smi_names.specs.chains.Resolution.{resolutions_at, AreWithin, HasReasons}
use Rattle.smi_names.specs.declared.chains.shared.Resolution.TheVariants as R
use Rattle.smi_names.proofs.{Order.Fills, Resolutions.ResolvesAt}
use Rattle.smi_names.proofs.meaning.entries.Entries.resolutions.Given as goal

abbrev pub invariant-indices : goal.invariant-indices
invariant-indices l =
    (length l.indices.items ≡ length l.next) × HasReasons l.list.items × AreWithin l.list.items l.indices.items
    × Fills (ResolvesAt l.self) R.Cycle R.Unresolved (take l.index-index l.index-items) (resolutions_at l.list.items l.indices.items)
