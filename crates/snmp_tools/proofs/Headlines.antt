-- `WritesRows` of `Headline` holds of a job that asks an agent (`asked_done`), also if the job was refused (`not_asked`).
use Rattle.std.proofs.Common.{arith, ◌≡◌, ◌⊎◌, inl, inr, ◌++◌, ℕ, Bool, true, false, List, [], Option, Some, None, refl, sym, ◌∙◌, ap, subst, codes}
use Rattle.std.proofs.lemmas.Grind.{common_steps}
use Rattle.std.specs.Str.Lines.{lines}
use Rattle.snmp_wire.specs.Message.{VarBind}
use Rattle.snmp_agent.specs.{table.Table.MibView, table.Format.Names, table.Stated.IsTableOf, table.Stated.IsFirstFault}
use Rattle.snmp_agent.specs.declared.table.error.TableError.{TableError}
use Rattle.snmp_agent.specs.declared.table.error.TableError.TheVariants as table_error
use Rattle.snmp_walk.specs.declared.end.SinkFault.TheVariants as sink
use Rattle.snmp_walk.specs.{declared.end.WalkEnd.WalkEnd, declared.link.Link.Ghosts as LinkFacts}
use Rattle.snmp_walk.specs.declared.end.WalkEnd.TheVariants as ending
use Rattle.snmp_io.specs.{Count.HasIncreased, Files.Holdings, Files.MayHold, Output.IsWritten, Output.Stream, Output.stream_after, Streams.nothing_taken}
use Rattle.snmp_net.specs.{Address.table, Address.udp, declared.links.Links.Ghosts as Network}
use Rattle.smi_names.specs.declared.nodes.warning.Warning.{Warning}
use Rattle.smi_value.specs.declared.letters.Letters.{Letters}
use Rattle.snmp_tools.specs.{serve.TableFile.AreNamesIn, serve.TableFile.HasTable, load.Loaded.LoadFacts, load.Warned.warning_lines}
use Rattle.snmp_tools.specs.{Answer.AreRowsOf, Answer.IsFeasible, Answer.IsOwnEnd, Done.IsAskDone, Headline.IsAsk, Headline.IsMishap}
use Rattle.snmp_tools.specs.{Headline.IsWholeText, Headline.WritesRows, Lines.IsPrintedUpTo, load.Loaded.AreLoaded, Seen.Seen}
use Rattle.snmp_tools.specs.FaultText.{Fault, bad_table, fault_message, out_of_memory, status_of}
use Rattle.snmp_tools.specs.AskResult.{IsFinished, IsOutcome, IsOutcomeBy, IsReported, IsRun, asked, asked_over, loaded, not_begun, not_linked}
use Rattle.snmp_tools.specs.AskResult.{not_loaded, refused}
use Rattle.snmp_tools.specs.Question.{AskFor, AskWords, IsLastRefusal, IsLateRefusal, IsPlanFor, Plan, counts_in}
use Rattle.snmp_tools.proofs.{Asked.counted, TableNames.OneMeaning, TableNames.one_look_up}
use Rattle.snmp_tools.proofs.Outcomes.{IsPrefixOfLines, finished, no_fault_at_0}
use Rattle.snmp_tools.proofs.Plans.{IsWant, OneList, OneTree, held_is, one_load, one_path, one_plan, plain_want, table_want, wants_early, wants_last}
use Rattle.smi_tree.specs.{Tree.Contents}
use Rattle.snmp_tools.proofs.Plans.{wants_late}

-- the status is 1; and the output failed, or standard error, which was `warned` before, took the line `Out of memory.` or failed after a prefix of it
abbrev Stops : (before after warned err_after : Stream) → ℕ → Type 0
Stops before after warned err_after status = (status ≡ 1) × (HasIncreased before.faults after.faults ⊎ IsWritten warned (codes "Out of memory.\n") err_after)

mishap : (warnings : List Warning) (before after err_before warned err_after : Stream) (status : ℕ)
    → (warned ≡ err_before) ⊎ IsWritten err_before (warning_lines warnings) warned
    → (status ≡ 0) ⊎ Stops before after warned err_after status → (status ≡ 0) ⊎ IsMishap warnings before after err_before err_after status
mishap warnings before after err_before warned err_after status lines (inl zero_status) = inl zero_status
mishap warnings before after err_before warned err_after status lines (inr (one, inl risen)) = inr (one, inl risen)
mishap warnings before after err_before warned err_after status lines (inr (one, inr was_reported)) = inr (one, inr (warned, was_reported, lines))

line_reported : (why : Fault) (before after err_before err_after : Stream) (status : ℕ) → status_of why ≡ 1 → fault_message why ≡ codes "Out of memory."
    → IsReported (Some why) err_before err_after status → Stops before after err_before err_after status
line_reported why before after err_before err_after status one text (s, inl h) =
    (s ∙ one, inr (subst (λ (t : List ℕ). IsWritten err_before t err_after) (ap (λ (t : List ℕ). t ++ codes "\n") text) h))
line_reported why before after err_before err_after status one text (s, inr h) = (s ∙ one, inr h)

want_reported : (why : Fault) (before after err_before err_after : Stream) (status : ℕ) → IsWant why → IsReported (Some why) err_before err_after status
    → Stops before after err_before err_after status
want_reported why before after err_before err_after status (plain_want e) was_reported =
    line_reported out_of_memory before after err_before err_after status refl refl (subst (λ (w : Fault). IsReported
    (Some w) err_before err_after status) e was_reported)
want_reported why before after err_before err_after status (table_want path e) was_reported =
    line_reported (bad_table path table_error.Memory) before after err_before err_after status refl refl (subst (λ (w : Fault). IsReported
    (Some w) err_before err_after status) e was_reported)

-- if a run is done, or ended because the output failed or memory ran out, then the status is 0, or `Stops` holds
module _ (mib : Contents) (letters : Letters) (agent : List ℕ) (given turned : List VarBind) (before between after err_before err_after : Stream)
    (fault : Option Fault) (status : ℕ) (was_reported : IsReported fault err_before err_after status) where
  reported_of : (other : Option Fault) → fault ≡ other → IsReported other err_before err_after status
  reported_of other same = subst (λ (f : Option Fault). IsReported f err_before err_after status) same was_reported

  own_reported : (counts : Bool) (end : WalkEnd) → IsOwnEnd end → IsPrintedUpTo mib letters before given turned end between
      → IsFinished agent end counts between after fault → (status ≡ 0) ⊎ Stops before after err_before err_after status
  own_reported true (ending.Done n) own printed (inl finish) = inl (reported_of None finish.1).0
  own_reported true (ending.Done n) own printed (inr (inl finish)) = grind (arith, common_steps, want_reported, plain_want, reported_of)
  own_reported true (ending.Done n) own printed (inr (inr finish)) = grind (arith, common_steps, counted, reported_of)
  own_reported false (ending.Done n) own printed finish = inl (reported_of None finish.1).0
  own_reported counts (ending.Sink sink.Memory) own printed finish = grind (arith, common_steps, line_reported, reported_of)
  own_reported counts (ending.Sink sink.Output) own printed finish = grind (arith, common_steps, reported_of, counted)
  own_reported counts end own printed finish = absurd own

-- A job printed nothing because of the fault `why`. If its plan is feasible, `why` is that memory ran out. Before the report, standard error took nothing, or
-- the lines of the warnings (`IsWritten`). Then `WritesRows` holds.
pub not_asked : (words : AskWords) (files : Holdings) (rows : List VarBind) (ask : IsAsk words files rows) (before after err_before warned err_after : Stream)
    (fault : Option Fault) (status : ℕ) (why : Fault) → after ≡ before → fault ≡ Some why → IsReported fault warned err_after status
    → (IsFeasible ask.plan ask.view → IsWant why) → (warned ≡ err_before) ⊎ IsWritten err_before (warning_lines ask.warnings) warned
    → WritesRows words files rows ask before after err_before err_after status
not_asked words files rows ask before after err_before warned err_after fault status why same is was_reported want so_far = record {
  prefix_written = ([], rows, [], refl, inl refl, nothing_taken before after [] same);
  all_written_at_status_0 = λ zero_status.
      let none = no_fault_at_0 fault warned err_after status was_reported zero_status in let no : ⊥ = cc in absurd no;
  ends_at_status_0 = λ can.
      mishap ask.warnings before after err_before warned err_after status so_far
      (inr (want_reported why before after warned err_after status (want can) (subst (λ
      (f : Option Fault). IsReported f warned err_after status) is was_reported)));
}

module _ (one_table : (names : Names) (ls : List (List ℕ)) (v w : MibView) → IsTableOf names ls v → IsTableOf names ls w → v ≡ w)
    (no_fault : (names : Names) (ls : List (List ℕ)) (view : MibView) (fault : TableError) → IsTableOf names ls view → IsFirstFault names ls fault
    → fault ≡ table_error.Memory)
    (one_list : OneList) (one_tree : OneTree) (one : OneMeaning) {N V D : Type 0} (net : Network N V D) (wire : LinkFacts V)
    (Loads : LoadFacts) (words : AskWords) (before after : Seen N) (status : ℕ) (run : IsRun net wire Loads words before after status) where
  module _ (rows : List VarBind) (ask : IsAsk words before.files rows) where
    abbrev Reported : Type 0
    Reported = WritesRows words before.files rows ask before.out after.out before.err after.err status

    abbrev End : Seen N
    End = record after { err = run.warned }

    unasked : (why : Fault) → after.out ≡ before.out → run.fault ≡ Some why → (IsFeasible ask.plan ask.view → IsWant why)
        → (run.warned ≡ before.err) ⊎ IsWritten before.err (warning_lines ask.warnings) run.warned → Reported
    unasked why same is =
        not_asked words before.files rows ask before.out after.out before.err run.warned after.err run.fault status why same is run.reported

    module _ (mib : Contents) (warnings : List Warning) (loading : AreLoaded (MayHold before.files) words.asking.mibs mib warnings)
        (written : IsWritten before.err (warning_lines warnings) run.warned) where
      both_are : (ask.mib ≡ mib) × (ask.warnings ≡ warnings)
      both_are = one_load one_list one_tree before.files words.asking.mibs ask.mib mib ask.warnings warnings ask.known loading

      mib_is : ask.mib ≡ mib
      mib_is = both_are.0

      so_far_is : (run.warned ≡ before.err) ⊎ IsWritten before.err (warning_lines ask.warnings) run.warned
      so_far_is = inr (subst (λ (ws : List Warning). IsWritten before.err (warning_lines ws) run.warned) (sym both_are.1) written)

      module _ (plan : Plan) (for : IsPlanFor words before.files mib plan) where
        plan_is : ask.plan ≡ plan
        plan_is = one_plan one words mib ask.plan plan (subst (λ (m : Contents). AskFor words m ask.plan) mib_is ask.asked) for.asked for.only

        over_same : (P : Contents → Plan → Type 0) → P mib plan → P ask.mib ask.plan
        over_same P p = subst (λ (m : Contents). P m ask.plan) (sym mib_is) (subst (P mib) (sym plan_is) p)

        agent_is : plan.agent ≡ table ask.path
        agent_is = sym (ap (λ (p : Plan). p.agent) plan_is) ∙ ask.over

        view_is : (path : List ℕ) (view : MibView) → plan.agent ≡ table path → HasTable before.files mib path view → ask.view ≡ view
        view_is path view over states =
            let same : ask.path ≡ path = one_path ask.path path (sym agent_is ∙ over) in
            let text : states.2 ≡ ask.text = held_is (before.files path) states.2 ask.text states.3 (ap before.files (sym same) ∙ ask.held) in
            let names : states.0 ≡ ask.names = one_look_up mib states.0 ask.names states.1
            (subst (λ (m : Contents). AreNamesIn m ask.names) mib_is ask.named) in
            one_table ask.names (lines ask.text) ask.view view ask.table
            (subst (λ (n : Names). IsTableOf n (lines ask.text) view) names (subst (λ (t : List ℕ). IsTableOf states.0 (lines t) view) text states.4))

        -- if the plan asks the table file at `path`, and the file defines `view`, then what holds of the plan and the table of `ask` holds of `plan` and
        -- `view`
        over_table : (P : Plan → MibView → Type 0) (path : List ℕ) (view : MibView) → plan.agent ≡ table path
            → HasTable before.files mib path view → P ask.plan ask.view → P plan view
        over_table P path view over states p = subst (P plan) (view_is path view over states) (subst (λ (q : Plan). P q ask.view) plan_is p)

        -- the agent isn't reached over the network
        no_net : (host : List ℕ) (port : ℕ) → plan.agent ≡ udp host port → ⊥
        no_net host port over = let agents : table ask.path ≡ udp host port = sym agent_is ∙ over in cc

      reported_by : IsOutcomeBy net wire words mib (record before { err = run.warned }) End run.fault → Reported
      reported_by (refused why refusal same is) =
          let late = subst (λ (m : Contents). IsLateRefusal words before.files m why) (sym mib_is) refusal in
          unasked why (ap (λ (s : Seen N). s.out) same) is (λ can. wants_late one no_fault words before.files rows ask why late) so_far_is
      reported_by (not_begun why last plan for (inl (path, over, same)) is) =
          let refusal = subst (λ (m : Contents). IsLastRefusal words before.files m why) (sym mib_is) last in
          unasked why (ap (λ (s : Seen N). s.out) same) is (λ can. wants_last one no_fault words before.files rows ask why can.sendable refusal) so_far_is
      reported_by (not_begun why last plan for (inr (host, port, over, opened)) is) = absurd (no_net plan for host port over)
      reported_by (asked plan path view for over states sent printed same) =
          let are = over_table plan for (λ p v. AreRowsOf p.question v rows) path view over states ask.are_rows in
          let count = counted plan.question plan view printed.given printed.end printed.facts.reason in
          let both = over_same plan for (λ m p. IsPrefixOfLines m p.letters (counts_in p.question) rows before.out after.out
          × (run.fault ≡ None → (text : List ℕ) × IsWholeText m p rows text × (after.out ≡ stream_after before.out text)))
          (finished mib plan.letters words.asking.agent before.out rows (counts_in plan.question) printed.given printed.refused printed.end printed.between
          after.out run.fault printed.lines printed.finish count (printed.facts.whole rows are) (printed.facts.prefix rows are)) in
          record {
            prefix_written = both.0;
            all_written_at_status_0 = λ zero_status.
                both.1 (no_fault_at_0 run.fault run.warned after.err status run.reported zero_status);
            ends_at_status_0 = λ can.
                mishap ask.warnings before.out after.out before.err run.warned after.err status so_far_is
                (own_reported mib plan.letters words.asking.agent printed.given printed.refused before.out printed.between after.out run.warned after.err
                run.fault status run.reported (counts_in plan.question) printed.end
                (printed.facts.complete (over_table plan for (λ p v. IsFeasible p v) path view over states can).room) printed.lines printed.finish);
          }
      reported_by (not_linked plan host port for over fails risen same is) = absurd (no_net plan for host port over)
      reported_by (asked_over plan host port for over sent printed same) = absurd (no_net plan for host port over)

    reported_of_all : IsOutcome net wire Loads words before End run.fault → Reported
    reported_of_all (not_loaded why early same is) =
        unasked why (ap (λ (s : Seen N). s.out) same) is (λ can. wants_early one no_fault words before.files rows ask why early)
        (inl (ap (λ (s : Seen N). s.err) same))
    reported_of_all (loaded mib warnings loading made written by) = reported_by mib warnings loading written by

  pub asked_done : IsAskDone net wire Loads words before after status
  asked_done = record { outcome_reported = run; rows_written = λ rows ask. reported_of_all rows ask run.outcome }
