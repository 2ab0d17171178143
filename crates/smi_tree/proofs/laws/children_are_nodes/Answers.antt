use Rattle.std.proofs.{lemmas.Grind.common_steps, lemmas.List.length-map, lemmas.List.Elements.All-from_recursion}
use Rattle.std.proofs.Common.{◌≡◌, ℕ, ◌<◌, List, [], ◌∷◌, ◌++◌, Option, Some, arith}
use Rattle.std.specs.List.{AllByRecursion, filter_map}
use Rattle.smi_names.specs.nodes.Nodes.{Node}
use Rattle.smi_tree.specs.Nodes.{oids_of}
use Rattle.smi_tree.proofs.FirstIndex.{index_found}
use Rattle.smi_tree.proofs.laws.children_are_nodes.Goals as goal

each_below : (f : ℕ → Option ℕ) (b : ℕ) → ((n k : ℕ) → f n ≡ Some k → k < b) → (numbers : List ℕ) → AllByRecursion (λ k. k < b) (filter_map f numbers)
each_below f b below [] = tt
each_below f b below (n ∷ numbers) = grind (arith, common_steps, each_below f b below numbers, below n)

pub returns : goal.returns
returns c =
    λ nodes o indices are. rw are.there (All-from_recursion _ _ (each_below _ _
    (λ n k e. omega (arith, (index_found (oids_of nodes) (o ++ n ∷ []) k e).0, length-map nodes (λ (m : Node). m.oid))) are.numbers))
