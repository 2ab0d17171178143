use Rattle.smi_show.proofs.ModuleCut.{IsModuleAt}
use Rattle.smi_show.proofs.name.cut.cut_later_module.Given as goal

abbrev pub invariant-octets : goal.invariant-octets
invariant-octets l = IsModuleAt l.text l.at l.quote
