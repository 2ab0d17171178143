use Rattle.std.proofs.Common.{◌+◌, rules}
use Rattle.snmp_tools.specs.{Answer.IsAskedOver, private.Planned.plan_of, private.Planned.question_of}
use Rattle.snmp_tools.proofs.Printed.{are_printed, same_name}
use Rattle.snmp_tools.proofs.run.lines.print_lines.Goals as goal

pub returns-clause-printed : goal.returns-clause-printed
returns-clause-printed g c =
    let same = same_name (λ s. s.writer) (λ s. s.letters) (λ s. s.out.ghost_name) (λ s. g.O.Output.stream s.out.now) _
    c.run_plan-done.new.sink _ _ c.in_ok-end.ensures.run in
    let printed = are_printed (λ s. s.writer) (λ s. s.letters) (λ s. s.out.ghost_name) (λ s. g.O.Output.stream s.out.now) _
    c.run_plan-done.new.sink c.in_ok-end.end
    (λ given refused. IsAskedOver g.L.Link c.args.link.now c.run_plan-done.new.link (c.args.retries + 1) (plan_of c.args.plan.now)
    (question_of c.args.plan.now.question) given refused c.in_ok-end.end) c.in_ok-end.ensures.run in
    search rules
