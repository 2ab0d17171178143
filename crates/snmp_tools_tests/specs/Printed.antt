-- What a command line that asks an agent prints of the table that snmpd serves.
use Rattle.std.specs.Prelude.{◌≡◌, ℕ, List, false, true}
use Rattle.std.specs.{List.flat_map}
use Rattle.smi_tree.specs.{Tree.Contents}
use Rattle.snmp_io.specs.Output.{Stream, TakesPrefix, stream_after}
use Rattle.snmp_wire.specs.Message.{VarBind}
use Rattle.snmp_words.specs.Words.{Stated, snmpbulkwalk, snmpd, snmpget, snmptranslate, snmpwalk}
use Rattle.snmp_tools.specs.Headline.{IsPrefixWritten, IsWholeWritten}
use Rattle.snmp_tools.specs.{RowText.row_line, TableWalk.AreWalked}
use Rattle.snmp_tools.specs.Question.{AskWords, Plan, of_get, of_walk}

-- the job asks an agent, and `ask` is what its arguments say
abbrev pub Asks : Stated → AskWords → Type 0
Asks (snmpget words) ask = ask ≡ of_get words
Asks (snmpwalk words) ask = ask ≡ of_walk false words
Asks (snmpbulkwalk words) ask = ask ≡ of_walk true words
Asks (snmptranslate words) ask = ⊥
Asks (snmpd words) ask = ⊥

-- A prefix of the lines of the first rows is written, or of the whole text: the lines of all rows
-- and, with -Cp, the line of their number. Nothing else is written. At status 0 the whole text is
-- written.
pub record PrintsRowsOf (mib : Contents) (plan : Plan) (rows : List VarBind)
    (before after : Stream) (status : ℕ) : Type 0 where
  pub prefix_written : IsPrefixWritten mib plan rows before after
  pub all_written_at_status_0 : status ≡ 0 → IsWholeWritten mib plan rows before after

-- The rows of the table of `lines` that are below the root or, if there are none, what a Get of the
-- root returns: a prefix of their lines is written, in order, and at status 0 all of them.
pub record PrintsWalk (lines : List (List ℕ)) (root : List ℕ) (before after : Stream) (status : ℕ)
    : Type 0 where
  pub rows : List VarBind
  pub are_walked : AreWalked lines root rows
  pub prefix : TakesPrefix before (flat_map row_line rows) after
  pub all : status ≡ 0 → after ≡ stream_after before (flat_map row_line rows)
