-- The lists hold the nodes of the three roots, in order, and no warnings.
use Rattle.std.proofs.Common.{rules, ◌≡◌, [], ◌∷◌, ◌++◌, refl}
use Rattle.smi_names.specs.declared.nodes.gather.Source.TheVariants as S
use Rattle.smi_names.specs.nodes.Nodes.{none_yet}
use Rattle.smi_names.proofs.nodes.gather.Gathered.roots.Goals as goal

pub returns : goal.returns
returns c = λ ms.
    let s1 : c.push.new.self.items ≡ [] ++ S.Root 0 ∷ [] = search rules in
    let s2 : c.push-3.new.self.items ≡ c.push.new.self.items ++ S.Root 1 ∷ [] = search rules in
    let s3 : c.push-5.new.self.items ≡ c.push-3.new.self.items ++ S.Root 2 ∷ [] = search rules in
    let o1 : c.push-2.new.self.items ≡ [] ++ c.in_ok-ccitt.ccitt ∷ [] = search rules in
    let o2 : c.push-4.new.self.items ≡ c.push-2.new.self.items ++ c.in_ok-iso.iso ∷ [] = search rules in
    let o3 : c.push-6.new.self.items ≡ c.push-4.new.self.items ++ c.in_ok-joint.joint ∷ [] = search rules in
    let w : c.new.result.items ≡ [] = search rules in
    record {
      ns = [];
      long = rw (s3, s2, s1, o3, o2, o1) refl;
      nodes = rw (s3, s2, s1, o3, o2, o1, c.in_ok-ccitt.ensures, c.in_ok-iso.ensures, c.in_ok-joint.ensures) refl;
      loads = rw w none_yet;
    }
