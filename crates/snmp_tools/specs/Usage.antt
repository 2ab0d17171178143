-- Arguments without a fault, and what is done with others.
use Rattle.std.specs.Prelude.{◌≡◌, ◌⊎◌, ℕ, List, [], false, true, codes, string_bytes}
use Rattle.snmp_io.specs.Output.{FailsWithin, IsWritten, Stream, stream_after}
use Rattle.snmp_words.specs.{Command.faults_of, Command.is_taken, Words.HasFaultOf}
use Rattle.snmp_words.specs.{Words.IsForUser, declared.UsageError.UsageError}
use Rattle.snmp_words.specs.declared.UsageError.TheVariants.{Memory, Parse}

-- the command accepts the arguments, or finds no fault in them
abbrev pub AreFaultless : List (List ℕ) → Type 0
AreFaultless words = (is_taken words ≡ true) ⊎ (faults_of words ≡ [])

-- `text`, help or the version, was printed, nothing was reported, and the status is 0; or the
-- output failed, this was reported unless the error output failed too, and the status is 1
abbrev pub PrintsHelp : List ℕ → (before after err_before err_after : Stream) → ℕ → Type 0
PrintsHelp text before after err_before err_after status =
    ((after ≡ stream_after before text) × (err_after ≡ err_before) × (status ≡ 0))
    ⊎ (FailsWithin before text after × IsWritten err_before (codes "The output failed.\n") err_after
    × (status ≡ 1))

-- nothing was printed, `text` was reported unless the error output failed, and the status is 1
abbrev pub ReportsOnly : List ℕ → (before after err_before err_after : Stream) → ℕ → Type 0
ReportsOnly text before after err_before err_after status =
    (after ≡ before) × IsWritten err_before text err_after × (status ≡ 1)

-- The error's own text is shown: help or the version is printed, and the text of a mistake is
-- reported. If memory ran out, that is reported.
abbrev pub ShowsError : UsageError → (before after err_before err_after : Stream) → ℕ → Type 0
ShowsError Memory before after err_before err_after status =
    ReportsOnly (codes "Out of memory.\n") before after err_before err_after status
ShowsError (Parse text true) before after err_before err_after status =
    PrintsHelp (string_bytes text) before after err_before err_after status
ShowsError (Parse text false) before after err_before err_after status =
    ReportsOnly (string_bytes text) before after err_before err_after status

-- an error is shown that the arguments can have: one of their faults, or that memory ran out
abbrev pub IsHelpOrMistake : List (List ℕ) → (before after err_before err_after : Stream) → ℕ
    → Type 0
IsHelpOrMistake words before after err_before err_after status =
    (error : UsageError) × HasFaultOf error (faults_of words) × IsForUser error
    × ShowsError error before after err_before err_after status
