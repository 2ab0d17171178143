-- The warnings about loaded modules, as they are reported.
use Rattle.std.specs.{Prelude.ℕ, Prelude.List, Prelude.◌++◌, Prelude.codes, List.flat_map}
use Rattle.smi_names.specs.declared.nodes.warning.Warning.{Warning}
use Rattle.smi_names.specs.declared.nodes.warning.Warning.TheVariants as W

-- a definition, as its module and its label
abbrev pub symbol : (home label : List ℕ) → List ℕ
symbol home label = home ++ codes "::" ++ label

-- the text of a warning
abbrev pub warning_text : Warning → List ℕ
warning_text (W.DoubleModule home) = home ++ codes " is loaded twice"
warning_text (W.MissingModule home from) =
    home ++ codes " imports from " ++ from ++ codes ", which is not loaded"
warning_text (W.MissingImport home name from) =
    home ++ codes " imports " ++ name ++ codes " from " ++ from ++ codes ", which has no " ++ name
warning_text (W.Cycle home label) = symbol home label ++ codes " stands on a cycle"
warning_text (W.Unresolved home label) = symbol home label ++ codes " is unresolved"
warning_text (W.TooLong home label) = symbol home label ++ codes " is too long"

-- the line of a warning on standard error
abbrev pub warning_line : Warning → List ℕ
warning_line warning = codes "snmp: " ++ warning_text warning ++ codes "\n"

-- the lines of warnings, one after the other
abbrev pub warning_lines : List Warning → List ℕ
warning_lines warnings = flat_map warning_line warnings
