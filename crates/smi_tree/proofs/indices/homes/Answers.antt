-- The invariant of the loop holds after one module more.
use Rattle.std.proofs.Common.{rules, ◌≡◌, ◌<◌, length, sym, ◌∙◌}
use Rattle.smi_text.specs.{trees.Mark.same_text, declared.trees.tree.Module.Module}
use Rattle.smi_tree.proofs.First.{more}
use Rattle.smi_tree.proofs.indices.homes.Goals as goal

pub modules-preserved : goal.modules-preserved
modules-preserved c = record {
  placed = λ x.
      let inside : c.modules.i < length c.args.modules.now = search rules in
      let name : c.in_ok-new.field-0 ≡ c.index-modules-i.result.name.octets = c.in_ok-new.ensures ∙ c.as_bytes.ensures.octets in
      let step = rw (← c.index-modules-i.is) at
      (more (λ (n : Module). same_text n.name.octets x) c.args.modules.now c.modules.i c.index-modules-i.result inside) in
      c.in_ok-insert_if_absent.ensures.put x ∙ rw (name, c.modules.invariant.placed x) (sym step);
  hashed = c.in_ok-insert_if_absent.ensures.hashed ∙ c.modules.invariant.hashed;
}
