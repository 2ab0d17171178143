-- What a job that asks an agent promises over a table file, on one page.
--
-- `IsAsk` says what the arguments ask for. `AskFor` (Question) reads the arguments, with names by
-- the modules of `AreLoaded` (load/Loaded). `IsTableOf` (snmp_agent) reads the table file.
-- `AreRowsOf` (Answer) says which rows are the answer: for a Get by `AreGot`, for a walk by
-- `walk_of` or `rest_of` (all in snmp_walk). `AreLines` (Lines) says what their lines are, by
-- `IsLine` (smi_show). `count_text` is the line of -Cp, if that is asked for.
use Rattle.std.specs.Prelude.{◌≡◌, ◌⊎◌, ◌++◌, ℕ, List, length, codes}
use Rattle.std.specs.Str.Lines.{lines}
use Rattle.snmp_tools.specs.{load.Warned.warning_lines, serve.TableFile.AreNamesIn}
use Rattle.snmp_tools.specs.{Lines.AreLines, Lines.count_text, load.Loaded.AreLoaded}
use Rattle.smi_names.specs.declared.nodes.warning.Warning.{Warning}
use Rattle.snmp_agent.specs.{table.Format.Names, table.Stated.IsTableOf, table.Table.MibView}
use Rattle.snmp_wire.specs.Message.{VarBind}
use Rattle.snmp_io.specs.{Count.HasIncreased, Files.Holdings, Files.Holds}
use Rattle.snmp_io.specs.Output.{IsWritten, Stream, TakesPrefix, stream_after}
use Rattle.snmp_net.specs.Address.{table}
use Rattle.snmp_tools.specs.Answer.{AreRowsOf, IsFeasible}
use Rattle.snmp_tools.specs.Question.{AskFor, AskWords, Plan, counts_in}
use Rattle.smi_tree.specs.{Tree.Contents}

-- the arguments ask for `plan` over a table file whose text is known, and `rows` is the answer
pub record IsAsk (words : AskWords) (files : Holdings) (rows : List VarBind) : Type 0 where
  pub mib : Contents
  pub warnings : List Warning
  pub known : AreLoaded (Holds files) words.asking.mibs mib warnings
  pub plan : Plan
  pub asked : AskFor words mib plan
  pub path : List ℕ
  pub over : plan.agent ≡ table path
  pub text : List ℕ
  pub held : Holds files path text
  pub view : MibView
  pub names : Names
  pub named : AreNamesIn mib names
  pub table : IsTableOf names (lines text) view
  pub are_rows : AreRowsOf plan.question view rows

-- `text` is the lines of the rows and, with -Cp, the line that says how many rows there are
abbrev pub IsWholeText : Contents → Plan → (rows : List VarBind) → List ℕ → Type 0
IsWholeText mib plan rows text = (shown : List ℕ) × AreLines mib plan.letters rows shown
    × (text ≡ shown ++ count_text (counts_in plan.question) (length rows))

-- what was written is a prefix of the lines of `first`, the rows that `rows` begins with (none,
-- some or all of them), or a prefix of the whole text (`IsWholeText`)
abbrev pub IsPrefixWritten : Contents → Plan → (rows : List VarBind) → (before after : Stream)
    → Type 0
IsPrefixWritten mib plan rows before after =
    (first : List VarBind) × (rest : List VarBind) × (text : List ℕ) × (rows ≡ first ++ rest)
    × (AreLines mib plan.letters first text ⊎ IsWholeText mib plan rows text)
    × TakesPrefix before text after

-- the whole text was written
abbrev pub IsWholeWritten : Contents → Plan → (rows : List VarBind) → (before after : Stream)
    → Type 0
IsWholeWritten mib plan rows before after =
    (text : List ℕ) × IsWholeText mib plan rows text × (after ≡ stream_after before text)

-- The status is 1, and the output failed or memory ran out. The latter is reported, after the
-- warnings about the modules if these were loaded before. If standard error fails, it takes a
-- prefix of each.
abbrev pub IsMishap : List Warning → (before after err_before err_after : Stream) → ℕ → Type 0
IsMishap warnings before after err_before err_after status = (status ≡ 1)
    × (HasIncreased before.faults after.faults
    ⊎ ((warned : Stream) × IsWritten warned (codes "Out of memory.\n") err_after
    × ((warned ≡ err_before) ⊎ IsWritten err_before (warning_lines warnings) warned)))

-- what is written of the rows that the arguments ask for, and the status
pub record WritesRows (words : AskWords) (files : Holdings) (rows : List VarBind)
    (ask : IsAsk words files rows) (before after err_before err_after : Stream) (status : ℕ)
    : Type 0 where
  -- Whatever fails, a prefix of the lines of the first rows is written, or of the whole text, and
  -- nothing else.
  pub prefix_written : IsPrefixWritten ask.mib ask.plan rows before after
  -- At status 0 the whole text is written.
  pub all_written_at_status_0 : status ≡ 0 → IsWholeWritten ask.mib ask.plan rows before after
  -- If the plan is feasible, the status is 0, unless the output fails or memory runs out.
  pub ends_at_status_0 : IsFeasible ask.plan ask.view
      → (status ≡ 0) ⊎ IsMishap ask.warnings before after err_before err_after status

-- `WritesRows` holds of any rows that the arguments ask for over a table file
abbrev pub WritesRowsOf : AskWords → Holdings → (before after err_before err_after : Stream) → ℕ
    → Type 0
WritesRowsOf words files before after err_before err_after status =
    (rows : List VarBind) (ask : IsAsk words files rows)
    → WritesRows words files rows ask before after err_before err_after status
