use Rattle.smi_names.proofs.NodesSingle.{one_loading}
use Rattle.smi_names.proofs.laws.one_loading.Goals as goal

pub returns : goal.returns
returns c = λ ms before ns ks ws vs a b. one_loading ms (c.one_resolution.ensures ms) before ns ks ws vs a b
