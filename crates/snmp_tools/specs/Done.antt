-- What is promised of a job that the arguments ask for.
use Rattle.std.specs.Prelude.{◌≡◌, ℕ, true, false, List, Option}
use Rattle.snmp_io.specs.{Files.Holdings, Output.Stream}
use Rattle.snmp_walk.specs.declared.link.Link.{Ghosts as LinkFacts}
use Rattle.snmp_net.specs.declared.links.Links.{Ghosts as Network}
use Rattle.snmp_words.specs.Words.{ServeWords, StateJob, Stated, TranslateWords, snmpbulkwalk}
use Rattle.snmp_words.specs.Words.{snmpd, snmpget, snmptranslate, snmpwalk}
use Rattle.snmp_tools.specs.{load.Loaded.LoadFacts, load.Loaded.any_load, Headline.WritesRowsOf}
use Rattle.snmp_tools.specs.{FaultText.Fault, Usage.AreFaultless}
use Rattle.snmp_tools.specs.{AskResult.IsOutcome, AskResult.IsReported, AskResult.IsRun, Seen.Seen}
use Rattle.snmp_tools.specs.{serve.ServeResult.IsServeOutcome}
use Rattle.snmp_tools.specs.{translate.TranslateResult.IsTranslateOutcome}
use Rattle.snmp_tools.specs.Question.{AskWords, of_get, of_walk}
use Rattle.snmp_tools.specs.translate.Headline.{PrintsAll, PrintsPrefix}

-- what is promised of a job that asks an agent, between the states `before` and `after` of the
-- world outside
pub record IsAskDone {N V D : Type 0} (net : Network N V D) (wire : LinkFacts V)
    (Loads : LoadFacts) (words : AskWords) (before after : Seen N) (status : ℕ) : Type 0 where
  pub outcome_reported : IsRun net wire Loads words before after status
  pub rows_written : WritesRowsOf words before.files before.out after.out before.err after.err
      status

-- what snmptranslate prints, and what it reports after the warnings about its modules
pub record IsTranslated (Loads : LoadFacts) (words : TranslateWords) (files : Holdings)
    (out_before out_after err_before err_after : Stream) (status : ℕ) : Type 0 where
  pub fault : Option Fault
  pub warned : Stream
  pub outcome : IsTranslateOutcome Loads words files out_before out_after err_before warned fault
  pub is_reported : IsReported fault warned err_after status
  -- at status 0, if the letters have a meaning and it is known which modules the files hold, the
  -- texts of all names are printed, and nothing else
  pub all_at_status_0 : status ≡ 0 → PrintsAll words files out_before out_after
  -- whatever fails, if the letters have a meaning and it is known which modules the files hold,
  -- nothing is printed, or a prefix of the texts of the first names
  pub prefix : PrintsPrefix words files out_before out_after

-- how snmpd ended, and what it reports after the warnings about its modules
pub record IsServeRun {N V D : Type 0} (net : Network N V D) (Loads : LoadFacts)
    (words : ServeWords) (before after : Seen N) (status : ℕ) : Type 0 where
  pub fault : Option Fault
  pub warned : Stream
  pub outcome : IsServeOutcome net Loads words before (record after { err = warned }) fault
  pub reported : IsReported fault warned after.err status

-- What is promised of a job that ended with this exit status, between the states `before` and
-- `after` of the world outside. `net` is what is known of the network, `wire` of its links, and
-- `Loads` of loads of module files. snmptranslate leaves the network as it was.
abbrev pub IsJobDone : {N V D : Type 0} → Network N V D → LinkFacts V → LoadFacts → Stated
    → (before after : Seen N) → (status : ℕ) → Type 0
IsJobDone {N} {V} {D} net wire Loads (snmptranslate words) before after status =
    (after.links ≡ before.links)
    × IsTranslated Loads words before.files before.out after.out before.err after.err status
IsJobDone {N} {V} {D} net wire Loads (snmpget words) before after status =
    IsAskDone net wire Loads (of_get words) before after status
IsJobDone {N} {V} {D} net wire Loads (snmpwalk words) before after status =
    IsAskDone net wire Loads (of_walk false words) before after status
IsJobDone {N} {V} {D} net wire Loads (snmpbulkwalk words) before after status =
    IsAskDone net wire Loads (of_walk true words) before after status
IsJobDone {N} {V} {D} net wire Loads (snmpd words) before after status =
    IsServeRun net Loads words before after status

-- If the arguments `words` have no fault, then the job that they ask for ended with `status`, and
-- took the world outside from `before` to `after`, as `IsJobDone` says.
abbrev pub AreWordsDone : {N V D : Type 0} → Network N V D → LinkFacts V → (words : List (List ℕ))
    → (before after : Seen N) → (status : ℕ) → Type 0
AreWordsDone {N} {V} {D} net wire words before after status = (job : Stated) → AreFaultless words
    → StateJob words job → IsJobDone net wire any_load job before after status

-- ---- for private functions

-- What a job did before its fault is reported. `fault` is why not all of the job was done, or None
-- if all of it was.
abbrev pub IsJobOutcome : {N V D : Type 0} → Network N V D → LinkFacts V → LoadFacts → Stated
    → (before after : Seen N) → Option Fault → Type 0
IsJobOutcome {N} {V} {D} net wire Loads (snmptranslate words) before after fault =
    (after.links ≡ before.links)
    × IsTranslateOutcome Loads words before.files before.out after.out before.err after.err fault
IsJobOutcome {N} {V} {D} net wire Loads (snmpget words) before after fault =
    IsOutcome net wire Loads (of_get words) before after fault
IsJobOutcome {N} {V} {D} net wire Loads (snmpwalk words) before after fault =
    IsOutcome net wire Loads (of_walk false words) before after fault
IsJobOutcome {N} {V} {D} net wire Loads (snmpbulkwalk words) before after fault =
    IsOutcome net wire Loads (of_walk true words) before after fault
IsJobOutcome {N} {V} {D} net wire Loads (snmpd words) before after fault =
    IsServeOutcome net Loads words before after fault
