-- A job writes a prefix of the lines of the answer, and all of them if no fault is reported (`finished`). At status 0 no fault is reported (`no_fault_at_0`).
use Rattle.std.proofs.Common.{arith, ◌≡◌, ◌⊎◌, inl, inr, ◌++◌, ℕ, Bool, true, false, length, List, [], Option, Some, None, refl, sym, ◌∙◌, subst}
use Rattle.std.proofs.Common.{append_assoc, append-nil}
use Rattle.std.proofs.lemmas.Grind.{common_steps}
use Rattle.smi_value.specs.declared.letters.Letters.{Letters}
use Rattle.snmp_wire.specs.Message.{VarBind}
use Rattle.snmp_walk.specs.{Facts.IsDone, declared.end.WalkEnd.WalkEnd}
use Rattle.snmp_walk.specs.declared.end.SinkFault.TheVariants as sink
use Rattle.snmp_walk.specs.declared.end.WalkEnd.TheVariants as ending
use Rattle.snmp_io.specs.{Output.Stream, Output.TakesPrefix, Output.stream_after, Streams.prefix_after, Streams.whole_taken}
use Rattle.snmp_tools.specs.Lines.{AreLines, IsPrintedUpTo, count_line, count_text}
use Rattle.snmp_tools.specs.{FaultText.Fault, FaultText.ended, FaultText.status_of, Answer.Counts, AskResult.IsFinished, AskResult.IsReported}
use Rattle.smi_tree.specs.{Tree.Contents}
use Rattle.snmp_tools.proofs.Printed.{lines_of_both}

-- a prefix of the lines of the first rows was written
abbrev pub IsPrefixOfTexts : Contents → Letters → List VarBind → (before after : Stream) → Type 0
IsPrefixOfTexts mib letters rows before after =
    (first : List VarBind) × (rest : List VarBind) × (text : List ℕ) × (rows ≡ first ++ rest) × AreLines mib letters first text × TakesPrefix before text after

all_prefix : (mib : Contents) (letters : Letters) (before after : Stream) (rows turned : List VarBind)
    → ((text : List ℕ) × AreLines mib letters rows text × (after ≡ stream_after before text)) → IsPrefixOfTexts mib letters (rows ++ turned) before after
all_prefix mib letters before after rows turned h = (rows, turned, h.0, refl, h.1, whole_taken before after h.0 h.2)

-- what was written is a prefix of the lines of `rows` and then of `turned`, the refused row, if there is one
pub printed_prefix : (mib : Contents) (letters : Letters) (before after : Stream) (rows turned : List VarBind) (end : WalkEnd)
    → IsPrintedUpTo mib letters before rows turned end after → IsPrefixOfTexts mib letters (rows ++ turned) before after
printed_prefix mib letters before after rows turned (ending.Sink sink.Output) h = (
  rows ++ turned,
  [],
  h.0 ++ h.1,
  sym (append-nil (rows ++ turned)),
  lines_of_both mib letters rows turned h.0 h.1 h.2 h.3,
  prefix_after before (stream_after before h.0) after h.0 h.1 refl h.4.begun,
)
printed_prefix mib letters before after rows turned end h = all_prefix mib letters before after rows turned h

-- `text` is the lines of the rows and, if `counts` is true, the line of -Cp with the number of rows
abbrev pub IsWhole : Contents → Letters → (counts : Bool) → List VarBind → List ℕ → Type 0
IsWhole mib letters counts rows text =
    (shown : List ℕ) × AreLines mib letters rows shown × (text ≡ shown ++ count_text counts (length rows))

-- a prefix of the lines of the first rows, or of the whole text, was written
abbrev pub IsPrefixOfLines : Contents → Letters → (counts : Bool) → List VarBind → (before after : Stream) → Type 0
IsPrefixOfLines mib letters counts rows before after =
    (first : List VarBind) × (rest : List VarBind) × (text : List ℕ) × (rows ≡ first ++ rest)
    × (AreLines mib letters first text ⊎ IsWhole mib letters counts rows text) × TakesPrefix before text after

module _ (mib : Contents) (letters : Letters) (agent : List ℕ) (before : Stream) (rows : List VarBind) where
  abbrev Lines : List VarBind → Stream → Type 0
  Lines given between = (text : List ℕ) × AreLines mib letters given text × (between ≡ stream_after before text)

  whole_of : (given : List VarBind) (count : ℕ) (text : List ℕ) → given ≡ rows → count ≡ length given → AreLines mib letters given text
      → IsWhole mib letters true rows (text ++ count_line count)
  whole_of given count text whole counted lines = grind (arith, common_steps)

  whole_written : (count : ℕ) (text : List ℕ) (between after : Stream) → between ≡ stream_after before text
      → after ≡ stream_after between (count_line count) → after ≡ stream_after before (text ++ count_line count)
  whole_written count text between after printed finish = grind (arith, common_steps)

  abbrev Whole : Bool → Stream → Type 0
  Whole counts after = (text : List ℕ) × IsWhole mib letters counts rows text × (after ≡ stream_after before text)

  -- a prefix of the lines of the first rows, or of the whole text, was written; if no fault is reported, the whole text was written
  abbrev Finished : Bool → Stream → Option Fault → Type 0
  Finished counts after fault = IsPrefixOfLines mib letters counts rows before after × (fault ≡ None → Whole counts after)

  prefix_of_all : (counts : Bool) (after : Stream) (text : List ℕ) → AreLines mib letters rows text ⊎ IsWhole mib letters counts rows text
      → TakesPrefix before text after → IsPrefixOfLines mib letters counts rows before after
  prefix_of_all counts after text are taken = (rows, [], text, sym (append-nil rows), are, taken)

  all_finished : (counts : Bool) (after : Stream) (fault : Option Fault) → Whole counts after → Finished counts after fault
  all_finished counts after fault (text, whole, taken) =
      (prefix_of_all counts after text (inr whole) (whole_taken before after text taken), λ none. (text, whole, taken))

  -- if the run is done and passed on all rows, and its count, if that is asked for, is their number, then what was written is as `Finished` says: all of the
  -- text if no fault is reported
  done_finished : (counts : Bool) (given : List VarBind) (count : ℕ) (between after : Stream) (fault : Option Fault) → given ≡ rows
      → (counts ≡ true → count ≡ length given) → Lines given between → IsFinished agent (ending.Done count) counts between after fault
      → Finished counts after fault
  done_finished true given count between after fault whole counted (text, lines, printed) (inl finish) =
      all_finished true after fault
      (text ++ count_line count, whole_of given count text whole (counted refl) lines, whole_written count text between after printed finish.0)
  done_finished true given count between after fault whole counted (text, lines, printed) (inr (inl finish)) = (
    prefix_of_all true after text (inl (subst (λ (ps : List VarBind). AreLines mib letters ps text) whole lines))
        (whole_taken before after text (finish.0 ∙ printed)),
    λ none. let e = finish.1 in let no : ⊥ = cc in absurd no,
  )
  done_finished true given count between after fault whole counted (text, lines, printed) (inr (inr finish)) = (
    prefix_of_all true after (text ++ count_line count) (inr (whole_of given count text whole (counted refl) lines))
        (prefix_after before between after text (count_line count) printed finish.0.begun),
    λ none. let e = finish.1 in let no : ⊥ = cc in absurd no,
  )
  done_finished false given count between after fault whole counted (text, lines, printed) finish =
      all_finished false after fault
      (text, (text, subst (λ (ps : List VarBind). AreLines mib letters ps text) whole lines, sym (append-nil text)), finish.0 ∙ printed)

  -- if the rows `given` and `turned` that a run printed are a prefix of `rows`, and nothing was printed after the run, then a prefix of the lines of the first
  -- of `rows` was printed
  end_prefix : (counts : Bool) (given turned : List VarBind) (end : WalkEnd) (between after : Stream)
      → IsPrintedUpTo mib letters before given turned end between
      → after ≡ between → ((more : List VarBind) × (rows ≡ (given ++ turned) ++ more)) → IsPrefixOfLines mib letters counts rows before after
  end_prefix counts given turned end between after printed same left = grind (arith, common_steps, printed_prefix, append_assoc)

  pub finished : (counts : Bool) (given turned : List VarBind) (end : WalkEnd) (between after : Stream) (fault : Option Fault)
      → IsPrintedUpTo mib letters before given turned end between → IsFinished agent end counts between after fault
      → (counts ≡ true → Counts end (length given)) → (IsDone end → given ≡ rows)
      → ((more : List VarBind) × (rows ≡ (given ++ turned) ++ more)) → Finished counts after fault
  finished counts given turned (ending.Done count) between after fault printed finish counted whole left =
      done_finished counts given count between after fault (whole tt) counted printed finish
  finished counts given turned end between after fault printed finish counted whole left =
      (end_prefix counts given turned end between after printed finish.0 left, λ none. let e = finish.1 in let no : ⊥ = cc in absurd no)

-- a fault's status isn't 0
no_status : (why : Fault) → status_of why ≡ 0 → ⊥
no_status (ended agent (ending.Fault status index)) e = cc
no_status _ e = cc

pub no_fault_at_0 : (fault : Option Fault) (before after : Stream) (status : ℕ) → IsReported fault before after status → status ≡ 0 → fault ≡ None
no_fault_at_0 None before after status h e = refl
no_fault_at_0 (Some why) before after status h e = absurd (no_status why (sym h.0 ∙ e))
