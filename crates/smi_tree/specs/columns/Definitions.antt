-- The definitions that names refer to (RFC 2578, sections 3.1 and 3.2).
use Rattle.std.specs.Prelude.{◌≡◌, ℕ, List, Some}
use Rattle.smi_text.specs.{declared.trees.tree.Module.Module, declared.trees.tree.Def.Def}
use Rattle.smi_text.specs.declared.trees.tree.Import.{Import}
use Rattle.smi_names.specs.meaning.Meaning.{QualifiedName, defined, imported, decision}
use Rattle.smi_names.specs.meaning.Meaning.{module_named}

-- the name `x` in module `m`
abbrev pub qualified_name : Module → List ℕ → QualifiedName
qualified_name m x = record { home = m.name.octets; name = x }

-- the name refers to this definition in this module: the least relation with these two rules
pub data IsDefinedBy (ms : List Module) : QualifiedName → Module → Def → Type 0 where
  own : {p : QualifiedName} {m : Module} {d : Def} → module_named ms p.home ≡ Some m
      → decision m p.name ≡ Some (defined d) → IsDefinedBy ms p m d
  through : {p : QualifiedName} {m n : Module} {i : Import} {d : Def}
      → module_named ms p.home ≡ Some m
      → decision m p.name ≡ Some (imported i)
      → IsDefinedBy ms (record { home = i.source.octets; name = p.name }) n d
      → IsDefinedBy ms p n d
