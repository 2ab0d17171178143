-- The name isn't the name of a base type.
use Rattle.std.proofs.Common.{arith, ◌≡◌, false, Option, Some, None, is_some, refl}
use Rattle.std.proofs.lemmas.Grind.{common_steps}
use Rattle.smi_text.specs.{declared.trees.tree.Base.Base, declared.trees.names.Name.Name}
use Rattle.smi_text.specs.declared.trees.tree.Base.TheVariants as B
use Rattle.smi_tree.specs.types.Types.{base_in, name_in_base, name_in}
use Rattle.smi_names.specs.declared.meaning.base.TypeBase.{TypeBase}
use Rattle.smi_tree.proofs.syntax.name_of.Goals as goal

named : (b : Base) (x : Name) → b ≡ B.Named x → is_some (base_in b) ≡ false → Some x.octets ≡ name_in b
named b x e h = rw e (by (base_in (B.Named x)) (rw e at h))
  where
    by : (t : Option TypeBase) → is_some t ≡ false → Some x.octets ≡ name_in_base (B.Named x) t
    by None h = refl
    by (Some t) h = absurd (cc)

pub returns-in-Named : goal.returns-in-Named
returns-in-Named c = grind (arith, common_steps, is_some, named)
