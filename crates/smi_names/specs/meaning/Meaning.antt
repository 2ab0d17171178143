-- What names mean in modules (RFC 2578, sections 3.1, 3.2 and 7.10).
use Rattle.std.specs.Prelude.{ℕ, ◌==◌, List, [], ◌∷◌, Option, Some, None, option_map, codes}
use Rattle.std.specs.Prelude.{if◌then◌else◌}
use Rattle.std.specs.List.{find}
use Rattle.smi_names.specs.chains.Chain as chain
use Rattle.smi_names.specs.chains.Chain.{Origin, numbers, after, nowhere}
use Rattle.smi_text.specs.{declared.trees.tree.Module.Module, declared.trees.tree.Def.Def}
use Rattle.smi_text.specs.{declared.trees.tree.Part.Part, trees.Mark.same_text}
use Rattle.smi_text.specs.declared.trees.tree.Import.{Import}
use Rattle.smi_text.specs.declared.trees.tree.Part.TheVariants as P
use Rattle.smi_text.specs.trees.Lookup.{definition_of, import_of, identifier_value_of, part_number}

-- a name in the module named `home`
pub record QualifiedName : Type 0 where
  pub home : List ℕ
  pub name : List ℕ

-- the name of the root with a number from 0 to 2; any greater number counts as 2 (RFC 2578, section
-- 3.5)
abbrev pub root_label : ℕ → List ℕ
root_label n = if n == 0 then codes "ccitt" else
    (if n == 1 then codes "iso" else codes "joint-iso-ccitt")

-- the number of the root named `x`, if a root has this name
abbrev pub root_arc : List ℕ → Option ℕ
root_arc x =
    if same_text (root_label 0) x then Some 0 else
    (if same_text (root_label 1) x then Some 1 else
    (if same_text (root_label 2) x then Some 2 else None))

-- what decides what a name means in a module: a definition, an import, or the list of roots
pub data Decision : Type 0 where
  defined : Def → Decision
  imported : Import → Decision
  root : ℕ → Decision

-- the first of the two that isn't `None`; `None` if both are
abbrev pub or_else : {A : Type 0} → Option A → Option A → Option A
or_else None d = d
or_else (Some x) d = Some x

-- what decides the meaning of the name `x` in module `m`, if anything does: the module's own
-- definition, otherwise the first import of the name, otherwise the list of roots
abbrev pub decision : Module → List ℕ → Option Decision
decision m x =
    or_else (or_else (option_map defined (definition_of m x)) (option_map imported (import_of m x)))
    (option_map root (root_arc x))

abbrev pub both : Option ℕ → Option (List ℕ) → Option (List ℕ)
both (Some n) (Some ns) = Some (n ∷ ns)
both _ _ = None

-- the numbers of the parts of an identifier value; `None` if a part has no number
abbrev pub arcs : List Part → Option (List ℕ)
arcs [] = Some []
arcs (p ∷ ps) = both (part_number p) (arcs ps)

abbrev pub by_itself : Option (List ℕ) → Origin QualifiedName
by_itself None = nowhere
by_itself (Some ns) = numbers ns

abbrev pub after_name : QualifiedName → Option (List ℕ) → Origin QualifiedName
after_name a None = nowhere
after_name a (Some ns) = after a ns

-- the origin of an identifier value. If the first part is a name without a number, the identifier
-- is the identifier of that name followed by the numbers of the other parts; otherwise it is the
-- numbers of all parts. If there are no parts, or one of those numbers is missing, the origin is
-- `nowhere`.
abbrev pub origin_of_parts : List ℕ → List Part → Origin QualifiedName
origin_of_parts home [] = nowhere
origin_of_parts home (P.Name x ∷ rest) = after_name (record { home = home; name = x.octets })
    (arcs rest)
origin_of_parts home (P.Number n ∷ rest) = by_itself (arcs (P.Number n ∷ rest))
origin_of_parts home (P.NamedNumber n ∷ rest) = by_itself (arcs (P.NamedNumber n ∷ rest))

abbrev pub origin_of_value : List ℕ → Option (List Part) → Origin QualifiedName
origin_of_value home None = nowhere
origin_of_value home (Some parts) = origin_of_parts home parts

-- the origin of the name `a`, by what decides its meaning: a definition has the origin of its
-- identifier value, an import has the identifier of the same name in the module after FROM, and a
-- root has its number; if nothing decides it, the origin is `nowhere`
abbrev pub origin_by : QualifiedName → Option Decision → Origin QualifiedName
origin_by a None = nowhere
origin_by a (Some (defined d)) = origin_of_value a.home (identifier_value_of d.kind)
origin_by a (Some (imported i)) = after
    (record { home = i.source.octets; name = a.name }) []
origin_by a (Some (root n)) = numbers (n ∷ [])

-- the first of the modules `ms` that is named `x`, if one is
abbrev pub module_named : List Module → List ℕ → Option Module
module_named ms x = find (λ m. same_text m.name.octets x) ms

-- the origin of the name `a` in its module; `nowhere` if that module isn't loaded
abbrev pub origin_in : QualifiedName → Option Module → Origin QualifiedName
origin_in a None = nowhere
origin_in a (Some m) = origin_by a (decision m a.name)

-- the origin of the name `a`, if `ms` are the loaded modules
abbrev pub origin : List Module → QualifiedName → Origin QualifiedName
origin ms a = origin_in a (module_named ms a.home)

-- the name `a` has the identifier `o`, if `ms` are the loaded modules
abbrev pub Means : List Module → QualifiedName → List ℕ → Type 0
Means ms a o = chain.HasIdentifier (origin ms) a o
