-- The line of a variable binding: by default its name, ` = `, its value, and a newline.
use Rattle.std.specs.Prelude.{◌≡◌, ℕ, if◌then◌else◌, List, ◌++◌, codes}
use Rattle.smi_value.specs.declared.letters.Letters.{Letters}
use Rattle.smi_value.specs.declared.letters.TypeForm.{TypeForm}
use Rattle.smi_value.specs.declared.letters.TypeForm.TheVariants.{Typed, Untyped, Quick}
use Rattle.snmp_wire.specs.ber.Value.{Datum}
use Rattle.smi_show.specs.{name.Name.IsName, private.name.Shown.name_text}
use Rattle.smi_value.specs.Value.{ShowsValue}
use Rattle.smi_tree.specs.{Naming.nearest_syntax, Tree.Contents}

-- the separator between name and value: a blank with the letter `q` of the option `-O`, otherwise
-- ` = `
abbrev pub separator : TypeForm → List ℕ
separator Typed = codes " = "
separator Untyped = codes " = "
separator Quick = codes " "

-- the text before the value: the name and the separator, or nothing with the letter `v` of the
-- option `-O`
abbrev pub text_before_value : Letters → List ℕ → List ℕ
text_before_value letters name = if letters.value_alone then codes "" else name
    ++ separator letters.types

-- `text` shows `value`, the value of the instance `name`, by `letters` and the syntax of its
-- object. `names` maps each identifier to its name by `letters`.
pub record IsValueText (tree : Contents) (letters : Letters) (name : List ℕ) (value : Datum)
    (text : List ℕ) : Type 0 where
  pub names : List ℕ → List ℕ
  pub are_names : (o : List ℕ) → IsName tree letters.names letters.numeric_index o (names o)
  pub shows : ShowsValue names letters (nearest_syntax tree name) value text

-- `text` is the line of a binding by `letters`: name, separator, value and a newline, but only the
-- value and the newline with the letter `v`
pub record IsLine (tree : Contents) (letters : Letters) (name : List ℕ) (value : Datum)
    (text : List ℕ) : Type 0 where
  pub shown_name : List ℕ
  pub is_name : IsName tree letters.names letters.numeric_index name shown_name
  pub shown : List ℕ
  pub is_value : IsValueText tree letters name value shown
  pub whole : text ≡ text_before_value letters shown_name ++ shown ++ codes "\n"

-- ---- for private functions

abbrev pub names_by : Contents → Letters → List ℕ → List ℕ
names_by tree letters o = name_text tree letters.names letters.numeric_index o
