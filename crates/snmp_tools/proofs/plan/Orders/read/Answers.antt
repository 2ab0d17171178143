use Rattle.std.proofs.Common.{refl}
use Rattle.snmp_tools.specs.{private.Planned.chosen, private.Planned.ask_words}
use Rattle.snmp_tools.proofs.{Steps.at_agent, Steps.at_choices, Steps.at_showing, Wholes.if_err}
use Rattle.snmp_tools.proofs.plan.Orders.read.Goals as goal

pub returns-in_err-letters-clause-refused : goal.returns-in_err-letters-clause-refused
returns-in_err-letters-clause-refused c = λ files.
    if_err _ c.from_residual.result _ c.from_residual.ensures.1 (at_showing (ask_words c.args.job) files _ c.in_err-letters.ensures.err)

pub returns-in-Err-clause-refused : goal.returns-in-Err-clause-refused
returns-in-Err-clause-refused c = λ files.
    at_choices (ask_words c.args.job) files _ c.in_ok-letters.ensures.version (_, c.in_ok-letters.ensures.letters)
    (c.in-Err.letter, c.in-Err.ensures, refl)

pub returns-in_err-agent-clause-refused : goal.returns-in_err-agent-clause-refused
returns-in_err-agent-clause-refused c = λ files.
    if_err _ c.from_residual-in_err-agent.result _ c.from_residual-in_err-agent.ensures.1
    (at_agent (ask_words c.args.job) files _ c.in_ok-letters.ensures.version (_, c.in_ok-letters.ensures.letters)
    (chosen c.in-Ok.choices, c.in-Ok.ensures) c.in_err-agent.ensures.err)
