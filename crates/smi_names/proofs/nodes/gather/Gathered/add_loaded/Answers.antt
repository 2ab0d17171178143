-- A module adds the warnings about its imports, and then what its definitions add.
use Rattle.std.proofs.{Common.arith, Common.refl, Common.[], Common.◌++◌, lemmas.Grind.common_steps}
use Rattle.smi_names.specs.{nodes.Imports.import_warnings, nodes.Nodes.loaded, declared.nodes.gather.Gathered.Gathered}
use Rattle.smi_names.proofs.NewNodes.{AddsNodes-then, AddsNodes-warnings, named_first}
use Rattle.smi_names.proofs.nodes.gather.Gathered.add_loaded.Goals as goal

pub returns : goal.returns
returns c =
    let ms = c.args.names.now.modules in
    let ws = import_warnings c.args.names.now.modules c.args.module.now in
    let f = c.in_ok-add_definitions.ensures.added in
    let old = c.args.self.now in
    let warned : Gathered = record { sources = old.sources; oids = old.oids; warnings = c.add_import_warnings.new.warnings } in
    record {
      added = record {
        ns = f.ns;
        ws = ws ++ f.ws;
        gives = loaded f.ns f.ws c.requires.first f.gives;
        adds = AddsNodes-then ms old warned c.add_definitions.new.self [] f.ns ws f.ws
            (AddsNodes-warnings ms old warned ws c.requires.long refl refl c.in_ok-add_import_warnings.ensures) f.adds;
      };
    }

-- no earlier module has the name of this module, so it is the first of its name
pub add_definitions-requires-clause-first : goal.add_definitions-requires-clause-first
add_definitions-requires-clause-first c = grind (arith, common_steps, named_first)
