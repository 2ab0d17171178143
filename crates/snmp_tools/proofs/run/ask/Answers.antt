use Rattle.std.proofs.{Common.arith, Common.ap, Common.refl, lemmas.Grind.common_steps}
use Rattle.snmp_tools.specs.{load.FaultText.refusal_of, AskResult.loaded, AskResult.not_loaded, private.Planned.ask_words, Seen.seen}
use Rattle.snmp_tools.specs.FaultText.{fault_of, modules_fault}
use Rattle.snmp_tools.proofs.Steps.{at_mibs}
use Rattle.snmp_tools.proofs.Wholes.{loads_from, loads_of, mibs_fail, outcome_as, outcome_err}
use Rattle.snmp_tools.proofs.run.ask.Goals as goal

pub returns-in_err-orders : goal.returns-in_err-orders
returns-in_err-orders g c =
    not_loaded (fault_of c.in_err-orders.field-0.0) (c.in_err-orders.ensures.refused (g.F.Files.text_at c.args.files.now)) refl
    (outcome_err _ _ c.from_residual.ensures.1)

pub returns-in_err-tree : goal.returns-in_err-tree
returns-in_err-tree g c =
    let files = g.F.Files.text_at c.args.files.now in
    let why = refusal_of c.in_err-tree.field-0.0 in
    not_loaded (modules_fault why)
    (at_mibs (ask_words c.args.job) files (modules_fault why) c.in_ok-orders.orders c.in_ok-orders.ensures.orders
    (mibs_fail files _ _ c.deref.ensures.value why c.in_err-tree.ensures.refused c.in_err-tree.ensures.only))
    (ap (seen files c.args.links.now (g.O.Output.stream c.args.out.now)) c.in_err-tree.ensures.untold)
    (outcome_as _ _ c.from_residual-in_err-tree.ensures.1)

pub ask_by-done-requires-clause-known : goal.ask_by-done-requires-clause-known
ask_by-done-requires-clause-known g c = grind (arith, common_steps, loads_from)

pub returns : goal.returns
returns g c =
    let files = g.F.Files.text_at c.args.files.now in
    let is = loads_from files _ _ _ _ _ c.deref.ensures.value c.in_ok-tree.ensures.loaded in
    loaded _ is.warnings is.loaded
    (loads_of (g.F.ModuleLoader.loads c.args.files.now) _ _ _ _ c.deref.ensures.value c.in_ok-tree.ensures.loads) is.was_reported (c.ask_by-done.ensures _)
