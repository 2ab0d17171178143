-- The table that a file defines, with its names looked up in the tree of modules, or why it
-- doesn't define one.
use Rattle.std.specs.Prelude.{◌≡◌, ◌⊎◌, ◌↔◌, ℕ, List, Some, Ok}
use Rattle.std.specs.{Result.result_ok, Str.Lines.lines}
use Rattle.snmp_io.specs.Files.{Holdings, MayHold, MayHoldNone}
use Rattle.snmp_agent.specs.table.Format.{Names, names_by, numeric_names}
use Rattle.snmp_agent.specs.{table.Stated.IsFirstFault, table.Stated.IsTableOf, table.Table.MibView}
use Rattle.snmp_agent.specs.declared.table.error.TableError.{TableError}
use Rattle.smi_show.specs.{name.Meaning.meaning, name.Meant.TextMeans}
use Rattle.snmp_tools.specs.FaultText.{Fault, bad_table, unreadable}
use Rattle.smi_tree.specs.{Tree.Contents}

-- The names of a table file in the second format are looked up in `tree`: the look-up of a text
-- finds the identifier `o` if and only if the text means `o` in `tree`.
abbrev pub AreNamesIn : Contents → Names → Type 0
AreNamesIn tree (names_by look_up) =
    (text o : List ℕ) → (look_up text ≡ Some o) ↔ TextMeans tree text (Ok o)
AreNamesIn tree numeric_names = ⊥

-- the file at `path` defines the table `view`, as far as it is known what the file holds
abbrev pub HasTable : Holdings → Contents → (path : List ℕ) → MibView → Type 0
HasTable files tree path view = (names : Names) × AreNamesIn tree names
    × (text : List ℕ) × MayHold files path text × IsTableOf names (lines text) view

-- `why` is that the file at `path` can't be read, that its text doesn't define a table, or that
-- memory ran out while the text was read, as far as it is known what the file holds
abbrev pub TableFails : Holdings → Contents → (path : List ℕ) → Fault → Type 0
TableFails files tree path why =
    (MayHoldNone files path × (why ≡ unreadable path))
    ⊎ ((names : Names) × AreNamesIn tree names
    × (text : List ℕ) × (error : TableError) × MayHold files path text
    × IsFirstFault names (lines text) error × (why ≡ bad_table path error))

-- ---- for private functions

-- the look-up of the names of a table file in `tree`, computed
abbrev pub names_in : Contents → Names
names_in tree = names_by (λ text. result_ok (meaning tree text))
