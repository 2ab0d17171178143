-- The invariant of the loop holds after one module more.
use Rattle.std.proofs.Common.{rules, ◌≡◌, ◌<◌, length, ◌∙◌}
use Rattle.smi_names.proofs.FirstPosition.{module_index-more}
use Rattle.smi_names.proofs.meaning.directory.homes.Goals as goal

pub modules-preserved : goal.modules-preserved
modules-preserved c = record {
  placed = λ x.
      let inside : c.modules.i < length c.args.modules.now = search rules in
      let name : c.new.result ≡ c.index-modules-i.result.name.octets = c.new.ensures ∙ c.as_bytes.ensures.octets in
      c.in_ok-insert_if_absent.ensures.put x ∙ rw (name, c.modules.invariant.placed x)
      (module_index-more c.args.modules.now c.modules.i c.index-modules-i.result x inside c.index-modules-i.is);
  hashed = c.in_ok-insert_if_absent.ensures.hashed ∙ c.modules.invariant.hashed;
}
