-- The tree without module files: it is loaded (`bare_is_loaded`), and has no syntaxes.
use Rattle.std.proofs.Common.{◌≡◌, refl, sym, subst, ap, ℕ, zero, suc, List, [], ◌∷◌, Option, Some, None}
use Rattle.std.specs.{Prelude.slice_index_or, Prelude.option_map, Option.option_and_then}
use Rattle.smi_names.specs.nodes.Nodes.{roots}
use Rattle.smi_tree.specs.{Bare.bare, LongestPrefix.Longest, LongestPrefix.longest, Tree.IsTree, types.Types.Facts}
use Rattle.smi_tree.specs.Shown.{shown_at, shown_syntax, units_at}
use Rattle.snmp_io.specs.Files.{Holdings, Holds}
use Rattle.snmp_tools.specs.load.Loaded.{AreLoaded}
use Rattle.smi_tree.specs.{Tree.Contents}
use Rattle.smi_tree.specs.Naming.{nearest_syntax}
use Rattle.snmp_tools.proofs.RowLines.{HasNoSyntax}

-- without module files `bare` is loaded, whatever files hold
pub bare_is_loaded : IsTree [] bare [] → (files : Holdings) (paths : List (List ℕ)) → paths ≡ [] → AreLoaded (Holds files) paths bare []
bare_is_loaded loads files paths none =
    subst (λ (ps : List (List ℕ)). AreLoaded (Holds files) ps bare []) (sym none)
    record { modules = []; read = refl; loads = loads }

abbrev none_three : List (Option Facts)
none_three = None ∷ (None ∷ (None ∷ []))

none_at : (id : ℕ) → slice_index_or none_three id None ≡ None
none_at zero = refl
none_at (suc zero) = refl
none_at (suc (suc zero)) = refl
none_at (suc (suc (suc k))) = refl

none_shown : (l : Option Longest) → option_and_then (λ l. shown_at roots none_three l.id) l ≡ None
none_shown None = refl
none_shown (Some l) = ap (option_map (λ f. shown_syntax f (units_at roots l.id))) (none_at l.id)

pub bare_has_no_syntax : HasNoSyntax bare
unfolding nearest_syntax
bare_has_no_syntax o = none_shown (longest roots o)
