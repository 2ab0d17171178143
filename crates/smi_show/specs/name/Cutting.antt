-- Computes what `Cut` defines: for contracts of private functions, and for the law that the
-- computed meaning is the defined one.
use Rattle.std.specs.Prelude.{ℕ, Bool, true, false, ◌&&◌, ◌==◌, if◌then◌else◌, List, []}
use Rattle.std.specs.Prelude.{◌∷◌, ◌++◌, drop, Option, Some, None, option_map}
use Rattle.snmp_io.specs.Quotes.{open_after}

abbrev pub is_unquoted : Option ℕ → Bool
is_unquoted None = true
is_unquoted (Some quote) = false

-- `parts` with the octets `prefix` put before the first part; if there are no parts, `prefix` is
-- the only part
abbrev pub with_prefix : List ℕ → List (List ℕ) → List (List ℕ)
with_prefix prefix [] = prefix ∷ []
with_prefix prefix (part ∷ parts) = (prefix ++ part) ∷ parts

-- the parts of a text, which is cut at each dot outside quotes; `state` is the quote that is open
-- before the text, if any
abbrev pub parts_after : Option ℕ → List ℕ → List (List ℕ)
parts_after state [] = [] ∷ []
parts_after state (octet ∷ more) =
    if is_unquoted state && (octet == 46) then [] ∷ parts_after None more
    else with_prefix (octet ∷ []) (parts_after (open_after state octet) more)

abbrev pub name_parts : List ℕ → List (List ℕ)
name_parts text = parts_after None text

-- whether the text begins with `::`
abbrev pub is_double_colon : List ℕ → Bool
is_double_colon [] = false
is_double_colon (first ∷ []) = false
is_double_colon (first ∷ second ∷ more) = (first == 58) && (second == 58)

abbrev pub longer_module : List ℕ → List ℕ × List ℕ → List ℕ × List ℕ
longer_module prefix (module_name, rest) = (prefix ++ module_name, rest)

-- the text before the first `::` outside quotes and the text after it, if there is one; `state` is
-- the quote that is open before the text, if any
abbrev pub module_after : Option ℕ → List ℕ → Option (List ℕ × List ℕ)
module_after state [] = None
module_after state (octet ∷ more) =
    if is_unquoted state && is_double_colon (octet ∷ more) then Some ([], drop 1 more)
    else option_map (longer_module (octet ∷ [])) (module_after (open_after state octet) more)
