-- If a definition, a module or a list of modules adds nodes and warnings to those gathered before, then the old ones stay, and the new ones follow.
use Rattle.std.proofs.{lemmas.Grind.common_steps, lemmas.List.append-nil, lemmas.List.length_push}
use Rattle.std.proofs.Common.{◌≡◌, ℕ, zero, suc, false, is_some, List, [], ◌∷◌, ◌++◌, length, take, Some, refl, sym, ap, ◌∙◌}
use Rattle.std.proofs.Common.{arith, append_assoc, Result, Ok, Err, OnOk}
use Rattle.std.specs.{List.slice_get, declared.alloc.AllocError.AllocError}
use Rattle.smi_names.specs.{chains.Resolution.ComesTo, meaning.Meaning.origin, meaning.Meaning.module_named}
use Rattle.smi_names.specs.{declared.nodes.gather.Source.Source, declared.nodes.gather.Gathered.Gathered, declared.nodes.warning.Warning.Warning}
use Rattle.smi_names.specs.declared.chains.shared.Resolution.{Resolution}
use Rattle.smi_text.specs.declared.trees.tree.Module.{Module}
use Rattle.smi_text.specs.{declared.trees.tree.Def.Def, declared.trees.tree.Part.Part, trees.Lookup.identifier_value_of}
use Rattle.smi_names.proofs.Scopes.{same_itself}
use Rattle.smi_names.specs.nodes.Nodes.{Node, nodes_by, warnings_by, roots, more, is_loaded, then_module, GivesNodes, Gathers, Contributes}
use Rattle.smi_names.specs.nodes.Gathered.{node_from, nodes_of, IsSourceOf, GrowsByDefinition, AddsNodes, Adds, AreGathered}

nodes_of-push : (ms : List Module) (ss : List Source) (os : List (List ℕ)) (s : Source) (o : List ℕ) → length ss ≡ length os
    → nodes_of ms (ss ++ s ∷ []) (os ++ o ∷ []) ≡ nodes_of ms ss os ++ node_from ms s o ∷ []
nodes_of-push ms [] [] s o e = refl
nodes_of-push ms [] (x ∷ os) s o e = absurd (omega arith)
nodes_of-push ms (x ∷ ss) [] s o e = absurd (omega arith)
nodes_of-push ms (x ∷ ss) (y ∷ os) s o e = ap (λ ns. node_from ms x y ∷ ns) (nodes_of-push ms ss os s o (omega arith))

-- if `s` is the source of definition `d`, and `new` is `old` grown by `d`, then the nodes and warnings of `d`, by its resolution `r`, are appended
pub AddsNodes-extended : (ms : List Module) (old new : Gathered) (s : Source) (m : Module) (d : Def) (r : Resolution)
    → length old.sources.items ≡ length old.oids.items
    → IsSourceOf ms s m d → GrowsByDefinition old new s m d r → AddsNodes ms old new (nodes_by m d r) (warnings_by m d r)
AddsNodes-extended ms old new s m d r long is e = grind (arith, common_steps, length_push, append-nil, nodes_of-push)

pub GivesNodes-added : (ms : List Module) (old new : Gathered) (s : Source) (m : Module) (d : Def) (r : Resolution) (v : List Part)
    (out : Result (Unit {0}) AllocError) → length old.sources.items ≡ length old.oids.items → IsSourceOf ms s m d
    → identifier_value_of d.kind ≡ Some v → ComesTo (origin ms) (record { home = m.name.octets; name = d.label.octets }) r
    → OnOk out (GrowsByDefinition old new s m d r) → OnOk out (Adds ms old new (GivesNodes ms m d))
GivesNodes-added ms old new s m d r v (Ok u) long is value comes e = record {
  ns = nodes_by m d r;
  ws = warnings_by m d r;
  gives = rw value (r, comes, refl, refl);
  adds = AddsNodes-extended ms old new s m d r long is e;
}
GivesNodes-added ms old new s m d r v (Err x) long is value comes e = tt

pub Adds-none : (ms : List Module) (g : Gathered) (are_returned : List Node → List Warning → Type 0) → length g.sources.items ≡ length g.oids.items
    → are_returned [] [] → Adds ms g g are_returned
Adds-none ms g are_returned long gives = record {
  ns = [];
  ws = [];
  gives = gives;
  adds = record { long = long; nodes = sym (append-nil (nodes_of ms g.sources.items g.oids.items)); warnings = sym (append-nil g.warnings.items) };
}

pub AddsNodes-then : (ms : List Module) (a b c : Gathered) (ns ms' : List Node) (ws vs : List Warning) → AddsNodes ms a b ns ws → AddsNodes ms b c ms' vs
    → AddsNodes ms a c (ns ++ ms') (ws ++ vs)
AddsNodes-then ms a b c ns ms' ws vs f g = grind (arith, common_steps, append_assoc)

pub Gathers-more : (ms : List Module) (a b c : Gathered) (m : Module) (ds : List Def) (d : Def) → Adds ms a b (Gathers ms m ds)
    → Adds ms b c (GivesNodes ms m d) → Adds ms a c (Gathers ms m (ds ++ d ∷ []))
Gathers-more ms a b c m ds d f g = record {
  ns = f.ns ++ g.ns;
  ws = f.ws ++ g.ws;
  gives = more ds d f.ns g.ns f.ws g.ws f.gives g.gives;
  adds = AddsNodes-then ms a b c f.ns g.ns f.ws g.ws f.adds g.adds;
}

pub AreGathered-more : (ms : List Module) (a b : Gathered) (before : List Module) (m : Module) → AreGathered ms a before
    → Adds ms a b (Contributes ms before m) → AreGathered ms b (before ++ m ∷ [])
AreGathered-more ms a b before m f g = record {
  ns = f.ns ++ g.ns;
  long = g.adds.long;
  nodes = g.adds.nodes ∙ rw f.nodes (append_assoc roots f.ns g.ns);
  loads = rw g.adds.warnings (then_module before m f.ns g.ns a.warnings.items g.ws f.loads g.gives);
}

-- if nodes stay as they are and `ws` is appended to the warnings, then no nodes and the warnings `ws` are added
pub AddsNodes-warnings : (ms : List Module) (old new : Gathered) (ws : List Warning) → length old.sources.items ≡ length old.oids.items
    → new.sources.items ≡ old.sources.items → new.oids.items ≡ old.oids.items → new.warnings.items ≡ old.warnings.items ++ ws
    → AddsNodes ms old new [] ws
AddsNodes-warnings ms old new ws long s o w = grind (arith, common_steps, append-nil)

-- if no module before index `i` has the name of module `m`, which is at index `i`, then `m` is the first module of its name
pub named_first : (ms : List Module) (i : ℕ) (m : Module) → slice_get ms i ≡ Some m → is_loaded (take i ms) m.name.octets ≡ false
    → module_named ms m.name.octets ≡ Some m
named_first [] i m at absent = absurd (cc)
named_first (x ∷ ms) zero m at absent = grind (arith, common_steps, same_itself)
named_first (x ∷ ms) (suc i) m at absent = grind (arith, common_steps, named_first ms i m, is_some)
