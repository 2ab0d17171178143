-- If the outcome of a job was reported, then what is promised of the job holds (`job_done`). It also holds if memory ran out before the job did anything
-- (`undone`). If arguments were read, and the job was done or the error shown, then what is promised of their command line holds (`job_is_done`,
-- `fault_is_reported`).
use Rattle.std.proofs.Common.{arith, ◌≡◌, ◌≢◌, ℕ, Bool, true, false, List, [], Option, Some, Result, Ok, Err, IfOk, IfErr, OnOk, refl, sym}
use Rattle.std.proofs.Common.{subst, inl, inr, codes}
use Rattle.std.proofs.lemmas.Grind.{common_steps}
use Rattle.std.specs.{Prelude.String, declared.alloc.Global.Global}
use Rattle.snmp_agent.specs.declared.table.error.TableError.{TableError}
use Rattle.snmp_agent.specs.declared.table.error.TableError.TheVariants as table_error
use Rattle.snmp_agent.specs.{table.Format.Names, table.Stated.IsTableOf, table.Stated.IsFirstFault, table.Table.MibView}
use Rattle.snmp_io.specs.{Files.Holdings, Output.IsWritten, Output.Stream}
use Rattle.snmp_net.specs.declared.links.Links.{Ghosts as Network}
use Rattle.snmp_walk.specs.declared.link.Link.{Ghosts as LinkFacts}
use Rattle.snmp_words.specs.{Command.faults_of, Command.is_taken, declared.job.Job.Job, declared.UsageError.UsageError}
use Rattle.snmp_words.specs.declared.UsageError.TheVariants.{Memory, Parse}
use Rattle.snmp_words.specs.Words.{HasFaultOf, IsForUser, StateJob, Stated, job_words, snmpbulkwalk, snmpd, snmpget, snmptranslate, snmpwalk}
use Rattle.snmp_tools.specs.Usage.{AreFaultless, IsHelpOrMistake, ShowsError}
use Rattle.snmp_tools.specs.serve.ServeResult as serve
use Rattle.snmp_tools.specs.{load.Loaded.LoadFacts, Done.IsAskDone, Done.IsJobDone, Done.IsJobOutcome, FaultText.Fault, FaultText.out_of_memory}
use Rattle.snmp_tools.specs.{Question.AskWords, Question.of_get, Question.of_walk, Seen.Seen, Seen.seen}
use Rattle.snmp_tools.specs.translate.TranslateResult as translated
use Rattle.snmp_tools.specs.AskResult.{IsOutcome, IsReported, not_loaded}
use Rattle.snmp_tools.proofs.{Headlines.asked_done, Headlines.not_asked, Outcomes.no_fault_at_0, Plans.OneList, Plans.OneTree, Plans.plain_want}
use Rattle.snmp_tools.proofs.{TableNames.OneMeaning, TranslationHeadlines.all_printed, TranslationHeadlines.prefix_printed}

-- If an error with a text (a mistake, help or the version) has one of the faults of `words`, and arguments that the command accepts can have only the error
-- `Memory`, then `words` aren't faultless (`AreFaultless`).
no_error : (words : List (List ℕ)) (text : String Global) (help : Bool) → (is_taken words ≡ true → Parse text help ≡ Memory)
    → HasFaultOf (Parse text help) (faults_of words) → AreFaultless words → ⊥
no_error words text help taken refused (inl takes) = let memory = taken takes in let no : ⊥ = cc in no
no_error words text help taken refused (inr none) = grind (arith, common_steps)

-- arguments ask for at most one job
abbrev pub OneJob : Type 0
OneJob = (words : List (List ℕ)) (job other : Stated) → StateJob words job → StateJob words other → job ≡ other

module _ {N V D : Type 0} (net : Network N V D) (wire : LinkFacts V) (Loads : LoadFacts) where
  pub of_words : (before after : Seen N) (status : ℕ) → OneJob → (words : List (List ℕ)) (read stated : Stated) → StateJob words read → StateJob words stated
      → IsJobDone net wire Loads read before after status → IsJobDone net wire Loads stated before after status
  of_words before after status one words read stated h k done =
      subst (λ (s : Stated). IsJobDone net wire Loads s before after status) (one words read stated h k) done

  -- if two jobs are equal, then the outcome of one is an outcome of the other
  module _ (before after : Seen N) (fault : Option Fault) where
    pub of_job : (job other : Job) → job ≡ other → IsJobOutcome net wire Loads (job_words other) before after fault
        → IsJobOutcome net wire Loads (job_words job) before after fault
    of_job job other is outcome = subst (λ (j : Job). IsJobOutcome net wire Loads (job_words j) before after fault) (sym is) outcome

    pub of_ask : (read words : AskWords) → read ≡ words → IsOutcome net wire Loads read before after fault → IsOutcome net wire Loads words before after fault
    of_ask read words is outcome = subst (λ (w : AskWords). IsOutcome net wire Loads w before after fault) is outcome

  -- if the outcome of a job was reported, then what is promised of the job holds
  module _ (one_table : (names : Names) (ls : List (List ℕ)) (v w : MibView) → IsTableOf names ls v → IsTableOf names ls w → v ≡ w)
      (no_fault : (names : Names) (ls : List (List ℕ)) (view : MibView) (fault : TableError) → IsTableOf names ls view → IsFirstFault names ls fault
      → fault ≡ table_error.Memory)
      (one_list : OneList) (one_tree : OneTree) (one : OneMeaning) (before after : Seen N) (warned : Stream) (fault : Option Fault) (status : ℕ)
      (was_reported : IsReported fault warned after.err status) where
    ask_done : (words : AskWords) → IsOutcome net wire Loads words before (record after { err = warned }) fault
        → IsAskDone net wire Loads words before after status
    ask_done words outcome =
        asked_done one_table no_fault one_list one_tree one net wire Loads words before after status
        record { fault = fault; warned = warned; outcome = outcome; reported = was_reported }

    pub job_done : (job : Stated) → IsJobOutcome net wire Loads job before (record after { err = warned }) fault
        → IsJobDone net wire Loads job before after status
    job_done (snmptranslate words) (links, outcome) = (
      links,
      record {
        fault = fault;
        warned = warned;
        outcome = outcome;
        is_reported = was_reported;
        all_at_status_0 = λ zero.
            all_printed one_list Loads words before.files before.out after.out before.err warned fault
            (no_fault_at_0 fault warned after.err status was_reported zero)
            outcome;
        prefix = prefix_printed one_list Loads words before.files before.out after.out before.err warned fault outcome;
      },
    )
    job_done (snmpget words) outcome = ask_done (of_get words) outcome
    job_done (snmpwalk words) outcome = ask_done (of_walk false words) outcome
    job_done (snmpbulkwalk words) outcome = ask_done (of_walk true words) outcome
    job_done (snmpd words) outcome = record { fault = fault; warned = warned; outcome = outcome; reported = was_reported }

  -- if memory ran out before anything was done, and only that was reported, then what is promised of any job holds
  module _ (files : Holdings) (links : N) (out err err_after : Stream) (was_reported : IsWritten err (codes "Out of memory.\n") err_after) where
    abbrev Before : Seen N
    Before = seen files links out err

    abbrev After : Seen N
    After = seen files links out err_after

    unasked : (words : AskWords) → IsAskDone net wire Loads words Before After 1
    unasked words = record {
      outcome_reported = record {
        fault = Some out_of_memory;
        warned = err;
        outcome = not_loaded out_of_memory (inl refl) refl refl;
        reported = (refl, inr was_reported);
      };
      rows_written = λ rows ask. not_asked words files rows ask out out err err err_after (Some out_of_memory) 1 out_of_memory refl refl (
        refl,
        inr was_reported,
      )
          (λ can. plain_want refl) (inl refl);
    }

    pub undone : (job : Stated) → IsJobDone net wire Loads job Before After 1
    undone (snmptranslate words) = (
      refl,
      record {
        fault = Some out_of_memory;
        warned = err;
        outcome = translated.refused out_of_memory (inl refl) refl refl refl;
        is_reported = (refl, inr was_reported);
        all_at_status_0 = λ zero. let no : ⊥ = cc in absurd no;
        prefix = λ style modules asked. inl refl;
      },
    )
    undone (snmpget words) = unasked (of_get words)
    undone (snmpwalk words) = unasked (of_walk false words)
    undone (snmpbulkwalk words) = unasked (of_walk true words)
    undone (snmpd words) = record {
      fault = Some out_of_memory;
      warned = err;
      outcome = serve.not_loaded out_of_memory (inl refl) refl refl;
      reported = (refl, inr was_reported);
    }

  -- if the arguments were read as a job, which was done, or there was an error, which was shown, then what is promised of the command line holds
  module _ (one : OneJob) (words : List (List ℕ)) (before : Seen N) (links : N) (out err : Stream) (status : ℕ) (read : Result Job UsageError)
      (states : IfOk read (λ job. StateJob words (job_words job))) (faultless : OnOk read (faults_of words ≡ []))
      (taken : IfErr read (λ e. is_taken words ≡ true → e ≡ Memory)) (refused : IfErr read (λ e. HasFaultOf e (faults_of words)))
      (text : IfErr read IsForUser) (done : IfOk read (λ job. IsJobDone net wire Loads (job_words job) before (seen before.files links out err) status))
      (was_reported : IfErr read (λ e. (links ≡ before.links) × ShowsError e before.out out before.err err status)) where
    pub job_is_done : (job : Stated) → AreFaultless words → StateJob words job → IsJobDone net wire Loads job before (seen before.files links out err) status
    job_is_done job without stated = by_reading read states taken refused done was_reported
      where
        by_reading : (r : Result Job UsageError) → IfOk r (λ j. StateJob words (job_words j)) → IfErr r (λ e. is_taken words ≡ true → e ≡ Memory)
            → IfErr r (λ e. HasFaultOf e (faults_of words))
            → IfOk r (λ j. IsJobDone net wire Loads (job_words j) before (seen before.files links out err) status)
            → IfErr r (λ e. (links ≡ before.links) × ShowsError e before.out out before.err err status)
            → IsJobDone net wire Loads job before (seen before.files links out err) status
        by_reading (Ok j) s t f d e = of_words before (seen before.files links out err) status one words (job_words j) job s stated d
        by_reading (Err Memory) s t f d (same_links, (same_out, written, one_status)) =
            let P : N → Type 0 = λ n. IsJobDone net wire Loads job before (seen before.files n out err) status in
            let Q : Stream → Type 0 = λ o. IsJobDone net wire Loads job before (seen before.files before.links o err) status in
            let R : ℕ → Type 0 = λ k. IsJobDone net wire Loads job before (seen before.files before.links before.out err) k in
            subst P (sym same_links) (subst Q (sym same_out) (subst R (sym one_status)
            (undone before.files before.links before.out before.err err written job)))
        by_reading (Err (Parse text help)) s t f d e = absurd (no_error words text help t f without)

    pub fault_is_reported : faults_of words ≢ [] → (links ≡ before.links) × IsHelpOrMistake words before.out out before.err err status
    fault_is_reported faulty = by_reading read faultless refused text was_reported
      where
        by_reading : (r : Result Job UsageError) → OnOk r (faults_of words ≡ []) → IfErr r (λ e. HasFaultOf e (faults_of words)) → IfErr r IsForUser
            → IfErr r (λ e. (links ≡ before.links) × ShowsError e before.out out before.err err status)
            → (links ≡ before.links) × IsHelpOrMistake words before.out out before.err err status
        by_reading (Ok j) none f t e = absurd (faulty none)
        by_reading (Err error) none f t e = (e.0, (error, f, t, e.1))
