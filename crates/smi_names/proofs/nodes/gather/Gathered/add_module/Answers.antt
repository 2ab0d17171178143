-- A module with the name of an earlier one adds only a warning.
use Rattle.std.proofs.Common.{rules, ◌≡◌, ◌++◌, ◌∷◌, [], refl, take, true}
use Rattle.smi_names.specs.{declared.nodes.gather.Gathered.Gathered, nodes.Nodes.is_loaded, nodes.Nodes.left_out}
use Rattle.smi_names.specs.declared.nodes.warning.Warning.TheVariants as W
use Rattle.smi_names.proofs.NewNodes.{AddsNodes-warnings}
use Rattle.smi_names.proofs.nodes.gather.Gathered.add_module.Goals as goal

pub returns-then-is_double : goal.returns-then-is_double
returns-then-is_double c =
    let old = c.args.self.now in
    let new : Gathered = record { sources = old.sources; oids = old.oids; warnings = c.push.new.self } in
    let pushed : c.push.new.self.items ≡ old.warnings.items ++ W.DoubleModule c.in_ok-name.name ∷ [] = search rules in
    let name : c.in_ok-name.name ≡ c.as_bytes.result.now = c.in_ok-name.ensures in
    let warned = rw (name, c.as_bytes.ensures.octets) at pushed in
    let double : is_loaded (take c.args.index c.args.names.now.modules) c.args.module.now.name.octets ≡ true = search rules in
    record {
      added = record {
        ns = [];
        ws = W.DoubleModule c.args.module.now.name.octets ∷ [];
        gives = left_out double;
        adds = AddsNodes-warnings c.args.names.now.modules old new (W.DoubleModule c.args.module.now.name.octets ∷ []) c.requires.long refl refl warned;
      };
    }
