-- The octets of a text.
use Rattle.std.specs.Prelude.{ℕ, List}
use Rattle.smi_text.specs.declared.trees.items.Octets.{Octets}
use Rattle.smi_text.specs.declared.trees.items.Octets.TheVariants.{Few, Many}

abbrev pub octets_of : Octets → List ℕ
octets_of (Few octets) = octets.items
octets_of (Many octets) = octets.items
