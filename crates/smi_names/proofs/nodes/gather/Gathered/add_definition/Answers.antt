-- A definition without an identifier value adds nothing. Otherwise what its name resolves to decides what is added.
use Rattle.std.proofs.Common.{arith, rules, ◌≡◌, true, false, List, Option, Some, None, is_some, refl, sym}
use Rattle.std.proofs.lemmas.Grind.{common_steps}
use Rattle.smi_names.specs.{chains.Chain.here, chains.Resolution.ComesTo, meaning.Meaning.origin}
use Rattle.smi_names.specs.declared.chains.shared.Resolution.TheVariants as R
use Rattle.smi_text.specs.{declared.trees.tree.Part.Part, trees.Lookup.identifier_value_of}
use Rattle.smi_names.specs.declared.nodes.gather.Source.TheVariants as S
use Rattle.smi_names.specs.nodes.Nodes.{GivesNodes}
use Rattle.smi_names.proofs.NewNodes.{GivesNodes-added, Adds-none}
use Rattle.smi_names.proofs.nodes.gather.Gathered.add_definition.Goals as goal

none_of : (r : Option (List Part)) → is_some r ≡ false → r ≡ None
none_of r e = grind (arith, common_steps)

some_of : (r : Option (List Part)) → is_some r ≡ true → (v : List Part) × (r ≡ Some v)
some_of r e = grind (arith, common_steps)

pub returns-then-is_none : goal.returns-then-is_none
returns-then-is_none c =
    let none : is_some (identifier_value_of c.args.def.now.kind) ≡ false = search rules in
    record {
      added = Adds-none c.args.names.now.modules c.args.self.now (GivesNodes c.args.names.now.modules c.args.module.now c.args.def.now) c.requires.long
          (rw (none_of (identifier_value_of c.args.def.now.kind) none) (refl, refl));
    }

-- if the definition has an identifier value, and its name has a resolution, then the node or the warning for that resolution is added
pub returns-in-Some : goal.returns-in-Some
returns-in-Some c = grind (arith, common_steps, is_some, some_of, GivesNodes-added)

pub returns-in-None : goal.returns-in-None
returns-in-None c =
    let some : is_some (identifier_value_of c.args.def.now.kind) ≡ true = search rules in
    let v = some_of (identifier_value_of c.args.def.now.kind) some in
    let comes : ComesTo (origin c.args.names.now.modules) (record { home = c.args.module.now.name.octets; name = c.args.def.now.label.octets }) R.Unresolved =
    rw (sym c.as_bytes.ensures.octets) (here c.in-None.ensures) in
    record {
      added = GivesNodes-added c.args.names.now.modules c.args.self.now c.add-in-None.new.self (S.Definition c.args.at.0 c.args.at.1)
          c.args.module.now c.args.def.now R.Unresolved v.0 c.add-in-None.result
          c.requires.long (λ o. rw (c.requires.there, c.requires.defined) refl) v.1 comes c.add-in-None.ensures.added;
    }
