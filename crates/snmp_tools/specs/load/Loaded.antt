-- The tree of names of module files. A job looks up names in it and shows lines by it.
use Rattle.std.specs.Prelude.{ℕ, List}
use Rattle.smi_text.specs.declared.trees.tree.Module.{Module}
use Rattle.smi_names.specs.declared.nodes.warning.Warning.{Warning}
use Rattle.smi_tree.specs.Tree.{Contents, IsTree}
use Rattle.snmp_io.specs.Output.{Stream, IsWritten}
use Rattle.snmp_words.specs.Words.{AskingWords}
use Rattle.snmp_tools.specs.{load.Files.AreModulesOf, load.Warned.warning_lines}

-- The modules of the files at `paths` have the tree `tree`, with these warnings. `Held path text`
-- says that the file at the path holds the text.
pub record AreLoaded (Held : (path text : List ℕ) → Type 0) (paths : List (List ℕ))
    (tree : Contents) (warnings : List Warning) : Type 0 where
  pub modules : List Module
  pub read : AreModulesOf Held paths modules
  pub loads : IsTree modules tree warnings

-- `mib` is the tree of the module files of --mib, as `AreLoaded` says
abbrev pub IsMibOf : (Held : (path text : List ℕ) → Type 0) → AskingWords → Contents → Type 0
IsMibOf Held words mib = (warnings : List Warning) × AreLoaded Held words.mibs mib warnings

-- The tree was loaded, and an output took the line of each of its warnings, in order, or a prefix
-- of these lines before a write failed.
pub record IsLoaded (Held : (path text : List ℕ) → Type 0) (paths : List (List ℕ))
    (tree : Contents) (before after : Stream) : Type 0 where
  pub warnings : List Warning
  pub loaded : AreLoaded Held paths tree warnings
  pub was_reported : IsWritten before (warning_lines warnings) after

-- A relation between the states of the error output just before and just after a load of the
-- module files at `paths`. Inside this crate, only the contract of a load ensures it. So a job
-- that promises the relation has loaded its modules in that way.
abbrev pub LoadFacts : Type 1
LoadFacts = (paths : List (List ℕ)) → (before after : Stream) → Type 0

-- the relation that always holds; public contracts pass it for the argument `Loads`
abbrev pub any_load : LoadFacts
any_load paths before after = Unit {0}
