-- What snmptranslate prints of names.
use Rattle.std.specs.Prelude.{◌≡◌, ◌++◌, ℕ, List, [], ◌∷◌, MatchBool, Option, Ok, codes}
use Rattle.smi_show.specs.details.Detail.{IsDetail}
use Rattle.smi_text.specs.declared.trees.tree.Def.{Def}
use Rattle.smi_show.specs.{name.Meant.TextMeans, name.Name.IsName}
use Rattle.smi_tree.specs.{Naming.nearest_definition, Tree.Contents}
use Rattle.snmp_tools.specs.declared.translate.Style.{Style}

-- `text` is what is printed of the identifier `o`: its details, or its name and a newline
abbrev pub IsShown : Contents → Style → (o text : List ℕ) → Type 0
IsShown mib style o text =
    MatchBool style.details
    (IsDetail mib style.letters.names style.letters.numeric_index o text)
    ((name : List ℕ) × IsName mib style.letters.names style.letters.numeric_index o name
    × (text ≡ name ++ codes "\n"))

-- `name` means an identifier, and `text` is what is printed of it
abbrev pub IsTextOf : Contents → Style → (name text : List ℕ) → Type 0
IsTextOf mib style name text =
    (o : List ℕ) × TextMeans mib name (Ok o) × IsShown mib style o text

-- each of `names` means an identifier, and `text` is what is printed of them, one after the other
abbrev pub AreTextsOf : Contents → Style → (names : List (List ℕ)) → (text : List ℕ) → Type 0
AreTextsOf mib style [] text = text ≡ []
AreTextsOf mib style (name ∷ more) text =
    (first : List ℕ) × (rest : List ℕ) × IsTextOf mib style name first
    × AreTextsOf mib style more rest × (text ≡ first ++ rest)
