-- The index of a name's entry, and the index of the entry that an entry refers to.
use Rattle.std.specs.Prelude.{◌≡◌, ℕ, ◌==◌, ◌&&◌, Bool, false, List, length, ⊤, Option, Some, None}
use Rattle.std.specs.Prelude.{option_map, unwrap_or, All}
use Rattle.indexmap.specs.IndexMap.{hasher_of}
use Rattle.smi_text.specs.{trees.Mark.same_text, declared.trees.tree.Def.Def}
use Rattle.std.specs.{List.slice_get, Option.option_and_then}
use Rattle.smi_text.specs.declared.trees.tree.Import.{Import}
use Rattle.smi_names.specs.meaning.Along.{next_by}
use Rattle.smi_names.specs.meaning.Meaning.{QualifiedName, imported}
use Rattle.smi_names.specs.meaning.Scopes.{content_of, qualified, decision_of, index_in}
use Rattle.smi_names.specs.declared.meaning.entry.Entry.{Entry}
use Rattle.smi_names.specs.declared.meaning.directory.Directory.{Directory}
use Rattle.smi_names.specs.declared.meaning.directory.Found.{Found}

-- the index of the entry of the name `x` in the module at index `at`; the number of entries if no
-- such module exists, or `x` has no meaning in it
abbrev pub index_at : Directory → Option ℕ → List ℕ → ℕ
index_at d at x =
    unwrap_or (option_and_then (λ i. option_and_then (λ scope. index_in scope x)
    (slice_get d.scopes.items i)) at) (length d.entries.items)

abbrev pub index_by : Directory → QualifiedName → ℕ
index_by d p = index_at d (index_in d.homes p.home) p.name

-- the index of the entry that entry `e` refers to; `None` if `e` refers to no name, and the number
-- of entries if it refers to a name without a meaning; a definition refers to what `refers_to`
-- returns
abbrev pub next_index : Directory → (Def → Option (List ℕ)) → Entry → Option ℕ
next_index d refers_to e = option_map (index_by d)
    (next_by refers_to (qualified (content_of e)) (Some (content_of e).decided))

-- all maps of the directory have the same hash key
abbrev pub HaveOneKey : Directory → Type 0
HaveOneKey d = All (λ scope. hasher_of scope ≡ hasher_of d.homes) d.scopes.items

-- ---- for private functions

-- each item that `d.parents` has for an imported name is the index of the entry of the same name in
-- the module after FROM
abbrev pub KeepsImports : Directory → Type 0
KeepsImports d =
    (p : ℕ) (e : Entry) (i : Import) (to : Option ℕ) → slice_get d.entries.items p ≡ Some e
    → decision_of e.decider ≡ imported i → slice_get d.parents.items p ≡ Some to
    → to ≡ Some (index_by d (record { home = i.source.octets; name = e.name.now }))

-- nothing was looked up, or `f.at` is the index of the module named `f.home`, if there is one, and
-- `f.index` is the index of the entry of `f.name` in that module, or the number of entries if there
-- is no such entry
abbrev pub IsFound : Directory → Option Found → Type 0
IsFound d None = ⊤
IsFound d (Some f) = (f.at ≡ index_in d.homes f.home.now)
    × (f.index ≡ index_by d (record { home = f.home.now; name = f.name.now }))

-- whether there is an entry, and it belongs to the name `x` in the module at index `i`
abbrev pub is_entry_of : Option Entry → ℕ → List ℕ → Bool
is_entry_of None i x = false
is_entry_of (Some e) i x = (e.source.0 == i) && same_text e.name.now x
