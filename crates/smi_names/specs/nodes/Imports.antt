-- The warnings about the imports of a module (RFC 2578, section 3.2).
use Rattle.std.specs.Prelude.{ℕ, Bool, true, false, ◌||◌, List, [], ◌∷◌, Option, Some, None}
use Rattle.std.specs.Prelude.{is_some, if◌then◌else◌}
use Rattle.std.specs.List.{flat_map}
use Rattle.smi_text.specs.{trees.Number.is_macro, declared.trees.tree.Module.Module}
use Rattle.smi_text.specs.trees.Lookup.{definition_of, import_of, import_clauses}
use Rattle.smi_text.specs.declared.trees.tree.Import.{Import}
use Rattle.smi_text.specs.declared.trees.tree.TokenText.{TokenText}
use Rattle.smi_names.specs.{meaning.Base.base_named, declared.nodes.warning.Warning.Warning}
use Rattle.smi_names.specs.meaning.Meaning.{Decision, root, module_named}
use Rattle.smi_names.specs.declared.nodes.warning.Warning.TheVariants as W

-- whether there is a module, and it defines or imports the name `x`
abbrev pub defines_or_imports : Option Module → List ℕ → Bool
defines_or_imports None x = false
defines_or_imports (Some m) x = is_some (definition_of m x) || is_some (import_of m x)

-- the warnings about symbol `s`, which module `home` imports from module `from`: none if `s` is the
-- name of a macro or a base type, or if `source` defines or imports it; otherwise one. `source` is
-- the module named `from`, or `None` if it isn't loaded.
abbrev pub symbol_warnings : Option Module → List ℕ → List ℕ → TokenText → List Warning
symbol_warnings source home from s =
    if is_macro s.text || is_some (base_named s.text) || defines_or_imports source s.text then []
    else W.MissingImport home s.text from ∷ []

-- the warnings about the FROM clause `i` of the module named `home`: one if the module after FROM
-- isn't loaded (`None`), otherwise the warnings about the clause's symbols
abbrev pub clause_warnings_by : Option Module → List ℕ → Import → List Warning
clause_warnings_by None home i = W.MissingModule home i.source.octets ∷ []
clause_warnings_by (Some source) home i =
    flat_map (symbol_warnings (Some source) home i.source.octets) i.symbols

abbrev pub clause_warnings : List Module → List ℕ → Import → List Warning
clause_warnings ms home i = clause_warnings_by (module_named ms i.source.octets) home i

-- the warnings about the imports of module `m`, FROM clause by FROM clause
abbrev pub import_warnings : List Module → Module → List Warning
import_warnings ms m = flat_map (clause_warnings ms m.name.octets) (import_clauses m)

-- ---- for private functions

-- whether a decision is a definition or an import, and not the list of roots
abbrev pub is_stated : Decision → Bool
is_stated (root n) = false
is_stated _ = true
