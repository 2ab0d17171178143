-- The definition that is stored for a name is the definition that the name refers to; if none is stored, it refers to none (`is_meant`).
use Rattle.std.proofs.Common.{◌≡◌, ℕ, inl, inr, List, MatchOption, Option, Some, None, refl}
use Rattle.smi_names.specs.chains.Chain.{HasEnd, ends, refers_on}
use Rattle.smi_text.specs.{declared.trees.tree.Module.Module, declared.trees.tree.Def.Def, declared.trees.tree.Import.Import}
use Rattle.smi_names.specs.meaning.Meaning.{QualifiedName, defined, imported, decision, module_named}
use Rattle.smi_names.specs.meaning.Along.{decided, next_name, Comes, unknown, of_root, through as by_import, at_end, after, IsMeant, refers_to_nothing}
use Rattle.smi_names.specs.meaning.Along.{source_as_meaning}
use Rattle.smi_tree.specs.columns.Definitions.{IsDefinedBy, own, through}
use Rattle.smi_tree.specs.private.Named.{IsFoundAt, IsUndefined}

-- if an imported name refers to a definition, the same name in the module after FROM refers to this definition too
beyond : (ms : List Module) (home : Module) (i : Import) {a : QualifiedName} {m : Module} {d : Def} → IsDefinedBy ms a m d
    → module_named ms a.home ≡ Some home → decision home a.name ≡ Some (imported i)
    → IsDefinedBy ms (record { home = i.source.octets; name = a.name }) m d
beyond ms home i (own {m = m} {d = d} named by) here decided =
    let same : home ≡ m = cc in
    let is = rw same at decided in
    absurd (cc)
beyond ms home i (through {m = m} {i = j} named by rest) here decided =
    let same : home ≡ m = cc in
    let is = rw same at decided in
    let clause : j ≡ i = cc in
    rw clause at rest

-- if a name refers to a definition, it is decided by a definition or by an import
undecided : (ms : List Module) {a : QualifiedName} {m : Module} {d : Def} → IsDefinedBy ms a m d
    → ((d : Def) → decided ms a ≡ Some (defined d) → ⊥) → ((i : Import) → decided ms a ≡ Some (imported i) → ⊥) → ⊥
undecided ms (own {d = d} named by) f g = f d (rw (named, by) refl)
undecided ms (through {i = i} named by rest) f g = g i (rw (named, by) refl)

module _ (ms : List Module) where
  has_end : {a : QualifiedName} {m : Module} {d : Def} → IsDefinedBy ms a m d → HasEnd (next_name ms refers_to_nothing) a
  has_end (own named by) = ends (rw (named, by) refl)
  has_end (through named by rest) = refers_on (rw (named, by) refl) (has_end rest)

  abbrev pub Found : QualifiedName → Option (ℕ × ℕ) → Type 0
  Found a found = MatchOption found (IsUndefined ms a) (λ at. IsFoundAt ms a at.0 at.1)

  imports : (a : QualifiedName) (m : Module) (i : Import) (found : Option (ℕ × ℕ)) → module_named ms a.home ≡ Some m
      → decision m a.name ≡ Some (imported i) → Found (record { home = i.source.octets; name = a.name }) found → Found a found
  imports a m i None named by none = λ n d refers_to. none n d (beyond ms m i refers_to named by)
  imports a m i (Some at) named by f = record {
    home = f.home;
    at_module = f.at_module;
    definition = f.definition;
    there = f.there;
    named = through named by f.named;
  }

  meant : {a : QualifiedName} {found : Option (ℕ × ℕ)} → Comes ms refers_to_nothing source_as_meaning a found → Found a found
  meant {a} (unknown e) = λ m d refers_to. undecided ms refers_to (λ d is. cc) (λ i is. cc)
  meant {a} (of_root e) = λ m d refers_to. undecided ms refers_to (λ d is. cc) (λ i is. cc)
  meant {a} {found} (by_import {m = m} {i = i} named by c) = imports a m i found named by (meant c)
  meant {a} (at_end {d = d} o e is) =
      rw is (record { home = o.home; at_module = o.at_module; definition = d; there = o.there; named = own o.named o.decides })
  meant (after o e c is) = absurd (cc)

  pub is_meant : (a : QualifiedName) (found : Option (ℕ × ℕ)) → IsMeant ms refers_to_nothing source_as_meaning a found → Found a found
  is_meant a found m = elim m [ inl c ↦ meant c | inr none ↦ rw none.1 (λ m d refers_to. none.0 (has_end refers_to)) ]
