-- Why a job wasn't done, and the line on standard error that says so.
use Rattle.std.specs.Prelude.{ℕ, ℤ, pos, negsuc, List, [], ◌∷◌, ◌++◌, codes, decimal, Err, Ok, None}
use Rattle.std.specs.Prelude.{Option, Result, Some, slice_index_or}
use Rattle.std.specs.Fmt.{signed_decimal}
use Rattle.snmp_oid.specs.Numeric.{numeric_text}
use Rattle.snmp_tools.specs.load.Files as files
use Rattle.snmp_tools.specs.{load.Files.Refusal, declared.failure.Failure.Failure}
use Rattle.snmp_tools.specs.load.FaultText.{refusal_of, refusal_text}
use Rattle.smi_show.specs.declared.name.error.NameError.{NameError}
use Rattle.smi_show.specs.declared.name.error.NameError.TheVariants as name
use Rattle.snmp_agent.specs.declared.table.error.TableError.{TableError}
use Rattle.snmp_agent.specs.declared.table.error.TableError.TheVariants as table
use Rattle.snmp_walk.specs.declared.end.WalkEnd.{WalkEnd}
use Rattle.snmp_walk.specs.declared.end.WalkEnd.TheVariants as walk_end
use Rattle.snmp_walk.specs.declared.end.SinkFault.TheVariants as sink
use Rattle.snmp_tools.specs.declared.failure.Failure.TheVariants as failure

-- why a job wasn't done, with the arguments that its message repeats
pub data Fault : Type 0 where
  bad_version : List ℕ → Fault
  bad_letter : ℕ → Fault
  long_community : Fault
  bad_agent : List ℕ → Fault
  bad_name : NameError → List ℕ → Fault
  bad_modules : Refusal → Fault
  unreadable : List ℕ → Fault
  bad_table : List ℕ → TableError → Fault
  unsendable : List ℕ → Fault
  outside_root : List ℕ → Fault
  ended : List ℕ → WalkEnd → Fault
  no_output : Fault
  out_of_memory : Fault

-- the fault of a failure, which is the error that the code returns
abbrev pub fault_of : Failure → Fault
fault_of (failure.Version word) = bad_version word.now
fault_of (failure.Letter letter) = bad_letter letter
fault_of failure.Community = long_community
fault_of (failure.Agent word) = bad_agent word.now
fault_of (failure.Name text error) = bad_name error text.now
fault_of (failure.Modules why) = bad_modules (refusal_of why)
fault_of (failure.Unreadable path) = unreadable path.now
fault_of (failure.Table path error) = bad_table path.now error
fault_of (failure.NotWire text) = unsendable text.now
fault_of (failure.AfterOutsideRoot text) = outside_root text.now
fault_of (failure.Ended agent why) = ended agent.now why
fault_of failure.Output = no_output
fault_of failure.Memory = out_of_memory

-- the fault of a job whose module files can't be loaded
abbrev pub modules_fault : Refusal → Fault
modules_fault files.no_memory = out_of_memory
modules_fault why = bad_modules why

-- the exit status: 2 if the agent replied with an error status, otherwise 1
abbrev pub status_of : Fault → ℕ
status_of (ended agent (walk_end.Fault status index)) = 2
status_of _ = 1

-- the name of an error status (RFC 3416, section 3), or `unknown`
abbrev pub status_name : ℤ → List ℕ
status_name (pos n) = slice_index_or (
    codes "noError" ∷ codes "tooBig" ∷ codes "noSuchName" ∷ codes "badValue" ∷ codes "readOnly"
    ∷ codes "genErr" ∷ codes "noAccess" ∷ codes "wrongType" ∷ codes "wrongLength"
    ∷ codes "wrongEncoding" ∷ codes "wrongValue" ∷ codes "noCreation" ∷ codes "inconsistentValue"
    ∷ codes "resourceUnavailable" ∷ codes "commitFailed" ∷ codes "undoFailed"
    ∷ codes "authorizationError" ∷ codes "notWritable" ∷ codes "inconsistentName" ∷ [])
    n (codes "unknown")
status_name (negsuc n) = codes "unknown"

-- the start of the message about a name: what is wrong with it
abbrev pub name_fault : NameError → List ℕ
name_fault name.Unknown = codes "Unknown name: "
name_fault name.BadIndex = codes "Bad index: "
name_fault name.BadNumber = codes "Bad number: "
name_fault name.TooLong = codes "Name too long: "

-- the message about a fault in the table file at a path, or that memory ran out
abbrev pub table_message : List ℕ → TableError → List ℕ
table_message path (table.BadLine line) = path ++ codes ":" ++ decimal line ++ codes ": bad line"
table_message path (table.BadName line) = path ++ codes ":" ++ decimal line ++ codes ": bad name"
table_message path (table.BadValue line) = path ++ codes ":" ++ decimal line ++ codes ": bad value"
table_message path (table.Double line) = path ++ codes ":" ++ decimal line ++ codes ": double name"
table_message path table.Memory = codes "Out of memory."

-- the message about an error status and error index
abbrev pub error_status_text : ℤ → ℤ → List ℕ
error_status_text status index = codes "Error in packet: " ++ status_name status ++ codes " ("
    ++ signed_decimal status ++ codes "), index " ++ signed_decimal index

-- the message about the end of a walk or a Get; empty if it is complete
abbrev pub end_message : List ℕ → WalkEnd → List ℕ
end_message agent (walk_end.Done count) = []
end_message agent (walk_end.Fault status index) = error_status_text status index
end_message agent (walk_end.NoProgress asked) = codes "No progress after " ++ numeric_text asked
end_message agent walk_end.BadReply = codes "Bad reply from " ++ agent ++ codes "."
end_message agent (walk_end.NotIncreasing last got) =
    codes "Error: OID not increasing: " ++ numeric_text last ++ codes " >= " ++ numeric_text got
end_message agent walk_end.TooManyRequests = codes "Too many requests."
end_message agent walk_end.RequestTooLong = codes "Request too long."
end_message agent walk_end.NoResponse = codes "Timeout: No Response from " ++ agent ++ codes "."
end_message agent walk_end.Link = codes "The link failed."
end_message agent (walk_end.Sink sink.Output) = codes "The output failed."
end_message agent (walk_end.Sink sink.Memory) = codes "Out of memory."

-- the message about a fault, without its newline
abbrev pub fault_message : Fault → List ℕ
fault_message (bad_version word) = codes "Unknown version: " ++ word
fault_message (bad_letter letter) = codes "Unknown letter: " ++ letter ∷ []
fault_message long_community = codes "Community too long."
fault_message (bad_agent word) = codes "Bad agent address: " ++ word
fault_message (bad_name error text) = name_fault error ++ text
fault_message (bad_modules why) = refusal_text why
fault_message (unreadable path) = path ++ codes ": cannot be read"
fault_message (bad_table path error) = table_message path error
fault_message (unsendable text) = codes "Name cannot be sent: " ++ text
fault_message (outside_root text) = codes "Not below the root: " ++ text
fault_message (ended agent why) = end_message agent why
fault_message no_output = codes "The output failed."
fault_message out_of_memory = codes "Out of memory."

-- ---- for private functions

-- the fault of a result, if it is an error
abbrev pub outcome_of : {T : Type 0} → Result T Failure → Option Fault
outcome_of (Ok _) = None
outcome_of (Err failure) = Some (fault_of failure)
