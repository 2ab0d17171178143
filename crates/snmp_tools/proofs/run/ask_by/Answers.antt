use Rattle.std.proofs.Common.{◌+◌, ◌∙◌, ap, arith, inl, inr, refl, subst}
use Rattle.snmp_io.specs.Output.{Stream}
use Rattle.snmp_net.specs.Address.{address_of, table, udp}
use Rattle.snmp_walk.specs.{Traffic.Traffic, declared.end.WalkEnd.WalkEnd}
use Rattle.snmp_tools.specs.{Answer.end_in_memory, FaultText.fault_of, FaultText.outcome_of, Question.counts_in, Seen.seen, private.Planned.plan_of}
use Rattle.snmp_tools.specs.AskResult.{IsFinished, asked, asked_over, not_begun, not_linked, refused}
use Rattle.snmp_tools.proofs.{Asked.is_asked, Asked.printed_in, Steps.names_refused, Steps.unreached, Steps.unsent, Wholes.outcome_err}
use Rattle.snmp_tools.proofs.run.ask_by.Goals as goal

pub returns-in_err-plan : goal.returns-in_err-plan
returns-in_err-plan g c = λ err.
    let why = fault_of c.in_err-plan.field-0.0 in
    refused why (names_refused _ _ why c.args.orders c.requires.orders _ c.requires.known c.in_err-plan.ensures.refused) refl
    (outcome_err _ _ c.from_residual.ensures.1)

pub returns-in_err-table-in-Table : goal.returns-in_err-table-in-Table
returns-in_err-table-in-Table g c = λ err.
    let why = fault_of c.in_err-table-in-Table.field-0.0 in
    refused why (unreached _ _ why c.args.orders c.requires.orders _ c.requires.known c.in_ok-plan.plan c.in_ok-plan.ensures.asked c.in_ok-plan.ensures.only
    (table c.in-Table.path.now) (ap address_of c.in-Table.is) c.in_err-table-in-Table.ensures.err) refl
    (outcome_err _ _ c.from_residual-in_err-table-in-Table.ensures.1)

pub returns-in_err-end-in-Table : goal.returns-in_err-end-in-Table
returns-in_err-end-in-Table g c = λ err.
    let over = ap address_of c.in-Table.is in
    let why = fault_of c.in_err-end-in-Table.field-0.0 in
    not_begun why (unsent _ _ why c.args.orders c.requires.orders _ c.requires.known c.in_ok-plan.plan c.in_ok-plan.ensures.asked c.in_ok-plan.ensures.only
    (table c.in-Table.path.now) over c.in_ok-plan.ensures.texts (_, c.in_ok-table-in-Table.ensures.table) c.in_err-end-in-Table.ensures.refused.0) _
    record { known = c.requires.known; asked = c.in_ok-plan.ensures.asked; only = c.in_ok-plan.ensures.only }
    (inl (
      c.in-Table.path.now,
      over,
      ap (λ (s : Stream). seen (g.F.Files.text_at c.args.files.now) c.args.links.now s err)
          c.in_err-end-in-Table.ensures.refused.1,
    ))
    (outcome_err _ _ c.from_residual-in_err-end-in-Table.ensures.1)

pub returns-in-Table : goal.returns-in-Table
returns-in-Table g c = λ err.
    let printed = c.in_ok-end-in-Table.ensures.printed in
    let traffic = c.new-link.ensures.traffic in
    let end = c.in_ok-end-in-Table.end in
    let between = g.O.Output.stream c.print_lines.new.out in
    asked _ c.in-Table.path.now _ record { known = c.requires.known; asked = c.in_ok-plan.ensures.asked; only = c.in_ok-plan.ensures.only }
    (ap address_of c.in-Table.is) c.in_ok-table-in-Table.ensures.table c.in_ok-end-in-Table.ensures.sendable record {
      given = printed.rows;
      refused = printed.refused;
      end = end_in_memory end;
      between = between;
      facts = is_asked c.instances_below.ensures.below c.instances_below.ensures.left c.one_answer.ensures.get c.in_ok-table-in-Table.table
          c.is_mib_view.ensures _ c.new-link.result c.print_lines.new.link (c.args.job.asking.now.retries + 1) (omega arith) (plan_of c.in_ok-plan.plan)
          (c.new-link.ensures.honest, ap (λ (t : Traffic). t.sent) traffic) c.new-link.ensures.agents (ap (λ (t : Traffic). t.ahead) traffic) printed.rows
          printed.refused end _ printed.facts;
      lines = printed_in _ _ _ _ printed.rows printed.refused end printed.lines;
      finish = subst (λ (w : WalkEnd). IsFinished c.args.job.asking.now.agent.now w (counts_in (plan_of c.in_ok-plan.plan).question) between
          (g.O.Output.stream c.finish.new.out) (outcome_of c.finish.result)) c.end_in_memory.ensures c.finish.ensures;
    } refl

pub returns-in_err-end-in-Udp : goal.returns-in_err-end-in-Udp
returns-in_err-end-in-Udp g c = λ err.
    let over = ap address_of c.in-Udp.is in
    let why = fault_of c.in_err-end-in-Udp.field-0.0 in
    not_begun why (unsent _ _ why c.args.orders c.requires.orders _ c.requires.known c.in_ok-plan.plan c.in_ok-plan.ensures.asked c.in_ok-plan.ensures.only
    (udp c.in-Udp.at.host.now c.in-Udp.at.port) over c.in_ok-plan.ensures.texts tt c.in_err-end-in-Udp.ensures.refused.0) _
    record { known = c.requires.known; asked = c.in_ok-plan.ensures.asked; only = c.in_ok-plan.ensures.only }
    (inr (
      c.in-Udp.at.host.now,
      c.in-Udp.at.port,
      over,
      record {
        link = c.in-Ok.link;
        unused = record {
          between = c.open.new.self;
          opened = c.in-Ok.ensures.opened;
          closed = subst (λ link. g.L.Links.closes c.open.new.self link c.close.new.self) c.in_err-end-in-Udp.ensures.link_unchanged_on_error
              c.close.ensures.closed;
        };
        count = c.close.ensures.count ∙ c.in-Ok.ensures.count;
        unchanged = ap (λ (s : Stream). seen (g.F.Files.text_at c.args.files.now) c.close.new.self s err) c.in_err-end-in-Udp.ensures.refused.1;
      },
    )) (outcome_err _ _ c.from_residual-in_err-end-in-Udp.ensures.1)

pub returns-in-Err : goal.returns-in-Err
returns-in-Err g c = λ err.
    not_linked _ c.in-Udp.at.host.now c.in-Udp.at.port
    record { known = c.requires.known; asked = c.in_ok-plan.ensures.asked; only = c.in_ok-plan.ensures.only }
    (ap address_of c.in-Udp.is) c.in-Err.ensures.failed c.in-Err.ensures.fault refl refl

pub returns : goal.returns
returns g c = λ err.
    let printed = c.in_ok-end-in-Udp.ensures.printed in
    asked_over _ c.in-Udp.at.host.now c.in-Udp.at.port
    record { known = c.requires.known; asked = c.in_ok-plan.ensures.asked; only = c.in_ok-plan.ensures.only }
    (ap address_of c.in-Udp.is) c.in_ok-end-in-Udp.ensures.sendable record {
      given = printed.rows;
      refused = printed.refused;
      end = c.in_ok-end-in-Udp.end;
      between = g.O.Output.stream c.print_lines-printed.new.out;
      facts = record {
        link = c.in-Ok.link;
        after = c.print_lines-printed.new.link;
        linked = record { between = c.open.new.self; opened = c.in-Ok.ensures.opened; closed = c.close.ensures.closed };
        fresh = c.in-Ok.ensures.fresh;
        run = printed.facts;
      };
      lines = printed.lines;
      finish = c.finish-in-Udp.ensures;
    } (c.close.ensures.count ∙ c.in-Ok.ensures.count)
