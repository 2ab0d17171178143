-- Modules that are loaded in one order have at most one list of nodes and one list of warnings, since a name resolves to at most one thing.
use Rattle.std.proofs.{lemmas.Grind.common_steps, lemmas.List.length_push}
use Rattle.std.proofs.Common.{arith, length, ◌≡◌, List, Option, refl, ap}
use Rattle.smi_names.specs.{chains.Resolution.ComesTo, meaning.Meaning.QualifiedName, meaning.Meaning.origin, declared.nodes.warning.Warning.Warning}
use Rattle.smi_names.specs.declared.chains.shared.Resolution.{Resolution}
use Rattle.smi_text.specs.{declared.trees.tree.Module.Module, declared.trees.tree.Def.Def, declared.trees.tree.Part.Part}
use Rattle.smi_names.specs.nodes.Nodes.{Node, GivesNodesBy, Gathers, none, more, Contributes, Loads, none_yet, then_module}

module _ (ms : List Module) (one : (a : QualifiedName) (r s : Resolution) → ComesTo (origin ms) a r → ComesTo (origin ms) a s → r ≡ s) where
  returned_by : (m : Module) (d : Def) (value : Option (List Part)) (ns es : List Node) (ws vs : List Warning) → GivesNodesBy ms m d value ns ws
      → GivesNodesBy ms m d value es vs → (ns ≡ es) × (ws ≡ vs)
  returned_by m d value ns es ws vs a b = grind (arith, common_steps)

  gathered : {m : Module} {ds : List Def} {ns : List Node} {ws : List Warning} → Gathers ms m ds ns ws
      → {es : List Def} {ks : List Node} {vs : List Warning} → Gathers ms m es ks vs → ds ≡ es → (ns ≡ ks) × (ws ≡ vs)
  gathered none none same = (refl, refl)
  gathered none (more es e ks more_ks vs more_vs h g) same = absurd (omega (arith, length_push es e, ap length same))
  gathered (more ds d ns more_ns ws more_ws h g) none same = absurd (omega (arith, length_push ds d, ap length same))
  gathered {m} (more ds d ns more_ns ws more_ws h g) (more es e ks more_ks vs more_vs k f) same = grind (arith, common_steps, gathered h k, returned_by)

  brought : {before : List Module} {m : Module} {ns : List Node} {ws : List Warning} → Contributes ms before m ns ws
      → {ks : List Node} {vs : List Warning} → Contributes ms before m ks vs → (ns ≡ ks) × (ws ≡ vs)
  brought h g = grind (arith, common_steps, gathered)

  loaded_by : {before : List Module} {ns : List Node} {ws : List Warning} → Loads ms before ns ws
      → {after : List Module} {ks : List Node} {vs : List Warning} → Loads ms after ks vs → before ≡ after → (ns ≡ ks) × (ws ≡ vs)
  loaded_by none_yet none_yet same = (refl, refl)
  loaded_by none_yet (then_module after m ks more_ks vs more_vs h b) same = absurd (omega (arith, length_push after m, ap length same))
  loaded_by (then_module before m ns more_ns ws more_ws h b) none_yet same = absurd (omega (arith, length_push before m, ap length same))
  loaded_by (then_module before m ns more_ns ws more_ws h b) (then_module after k ks more_ks vs more_vs l c) same =
      grind (arith, common_steps, loaded_by h l, brought)

  pub one_loading : (before : List Module) (ns ks : List Node) (ws vs : List Warning) → Loads ms before ns ws → Loads ms before ks vs
      → (ns ≡ ks) × (ws ≡ vs)
  one_loading before ns ks ws vs a b = loaded_by a b refl
