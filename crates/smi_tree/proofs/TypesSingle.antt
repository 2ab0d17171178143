-- A type has at most one chain, and so at most one syntax.
use Rattle.std.proofs.{Common.arith, Common.◌≡◌, Common.List, Common.◌∷◌, Common.refl, Common.ap, lemmas.Grind.common_steps}
use Rattle.smi_text.specs.declared.trees.tree.Module.{Module}
use Rattle.smi_names.specs.{meaning.Meaning.QualifiedName, declared.meaning.base.TypeBase.TypeBase}
use Rattle.smi_tree.specs.types.Chain.{Layer, TypeOrigin, TypeChain, at_end, on_type}
use Rattle.smi_tree.specs.types.Types.{Facts, HasSyntax}

module _ {A : Type 0} (origin : A → TypeOrigin A) where
  pub one_chain : {o : TypeOrigin A} {ls : List Layer} {b : TypeBase} → TypeChain origin o ls b
      → {ms : List Layer} {c : TypeBase} → TypeChain origin o ms c → (ls ≡ ms) × (b ≡ c)
  one_chain at_end at_end = (refl, refl)
  one_chain (on_type {l = l} h) (on_type k) = let r = one_chain h k in (ap (λ x. l ∷ x) r.0, r.1)

pub one_syntax : (ms : List Module) (o : TypeOrigin QualifiedName) (f g : Facts) → HasSyntax ms o f → HasSyntax ms o g → f ≡ g
one_syntax ms o f g a b = grind (arith, common_steps, one_chain)
