use Rattle.std.proofs.Common.{◌≡◌, ◌+◌, ◌∙◌, [], List, ℕ, Some, ap, refl, subst, sym, take}
use Rattle.std.proofs.{Common.arith, lemmas.Grind.common_steps, lemmas.List.take_all}
use Rattle.snmp_io.specs.{Output.stream_after, Streams.stream_after-nil}
use Rattle.snmp_words.specs.Words.{texts_at}
use Rattle.smi_tree.specs.Tree.{Contents}
use Rattle.snmp_tools.specs.translate.TranslateResult.{IsPrinting}
use Rattle.snmp_tools.proofs.PrintedNames.{IsTakenOrWaits, all_written, fails_within, more_waits, stops_at, waiting_taken}
use Rattle.snmp_tools.proofs.Wholes.{outcome_err}
use Rattle.snmp_tools.proofs.translate.print_names.Goals as goal
use Rattle.snmp_tools.proofs.translate.print_names.Goals.{then-len-ge-ENOUGH_WAITING+in_ok-write_waiting-2, else-len-ge-ENOUGH_WAITING}

pub names-init : goal.names-init
names-init g c = ([], c.new-lines.ensures.items, sym (stream_after-nil (g.O.Output.stream c.args.out.now)))

pub names-preserved : goal.names-preserved
names-preserved g c =
    let mib : Contents = c.args.tree.now in
    let before = g.O.Output.stream c.args.out.now in
    let now = g.O.Output.stream c.names.out in
    let more = more_waits mib c.args.style before now c.args.names.now c.names.name-index _ c.names.lines.items c.append_name.new.lines.items
    c.names-test.true c.names.invariant c.in_default.ensures.appended in
    elim c.if-len-ge-ENOUGH_WAITING.branch [
      | then-len-ge-ENOUGH_WAITING+in_ok-write_waiting-2 w ↦
          let written = w.in_ok-write_waiting-2.ensures.written in
          rw (w.out-is, w.lines-is, written.1)
          (waiting_taken mib c.args.style before now (texts_at (take (c.names.name-index + 1) c.args.names.now))
          _ c.append_name.new.lines.items more written.0)
      | else-len-ge-ENOUGH_WAITING w ↦ rw (w.out-is, w.lines-is) more
    ]

pub returns-in_err-write_waiting : goal.returns-in_err-write_waiting
returns-in_err-write_waiting g c =
    let mib : Contents = c.args.tree.now in
    let before = g.O.Output.stream c.args.out.now in
    let now = g.O.Output.stream c.names.out in
    let refused = c.in_err-write_waiting.ensures.refused in
    let waits = subst (IsTakenOrWaits mib c.args.style (texts_at (take c.names.name-index c.args.names.now)) before now)
    (sym c.in-Err.ensures.unchanged_on_error) c.names.invariant in
    subst (IsPrinting mib c.args.style (texts_at c.args.names.now) before (g.O.Output.stream c.write_waiting.new.out))
    (sym (outcome_err _ _ c.from_residual.ensures.1 ∙ ap Some refused.0))
    (fails_within mib c.args.style c.args.names.now c.names.name-index before now _ _ waits refused.1 refused.2)

pub returns-in-Err : goal.returns-in-Err
returns-in-Err g c =
    let mib : Contents = c.args.tree.now in
    let before = g.O.Output.stream c.args.out.now in
    let now = g.O.Output.stream c.names.out in
    let waits = waiting_taken mib c.args.style before now (texts_at (take c.names.name-index c.args.names.now)) _ c.names.lines.items c.names.invariant
    (c.in_ok-write_waiting.ensures.written.0 ∙ ap (stream_after now) c.in-Err.ensures.unchanged_on_error) in
    stops_at mib c.args.style before (g.O.Output.stream c.write_waiting.new.out) c.args.names.now c.names.name-index _ _ c.names-test.true waits
    c.in-Err.ensures.refused

pub returns-in_err-write_waiting-2 : goal.returns-in_err-write_waiting-2
returns-in_err-write_waiting-2 g c =
    let mib : Contents = c.args.tree.now in
    let before = g.O.Output.stream c.args.out.now in
    let now = g.O.Output.stream c.names.out in
    let refused = c.in_err-write_waiting-2.ensures.refused in
    let more = more_waits mib c.args.style before now c.args.names.now c.names.name-index _ c.names.lines.items c.append_name.new.lines.items
    c.names-test.true c.names.invariant c.in_default.ensures.appended in
    subst (IsPrinting mib c.args.style (texts_at c.args.names.now) before (g.O.Output.stream c.write_waiting-then-len-ge-ENOUGH_WAITING.new.out))
    (sym (outcome_err _ _ c.from_residual-in_err-write_waiting-2.ensures.1 ∙ ap Some refused.0))
    (fails_within mib c.args.style c.args.names.now (c.names.name-index + 1) before now _ _ more refused.1 refused.2)

pub returns : goal.returns
returns g c =
    let mib : Contents = c.args.tree.now in
    all_written mib c.args.style c.args.names.now c.names.name-index (g.O.Output.stream c.args.out.now) (g.O.Output.stream c.names.out)
    (g.O.Output.stream c.write_waiting-2.new.out) c.names.lines.items c.write_waiting-2.new.lines.items c.write_waiting-2.result
    (grind (arith, common_steps, take_all)) c.names.invariant c.write_waiting-2.ensures.written c.write_waiting-2.ensures.refused
