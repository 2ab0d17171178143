use Rattle.std.proofs.Common.{ap, inr, refl}
use Rattle.snmp_words.specs.Words.{serve_words}
use Rattle.snmp_tools.specs.serve.ServeResult.{loaded, not_loaded}
use Rattle.snmp_tools.specs.{load.FaultText.refusal_of, FaultText.fault_of, FaultText.modules_fault, Seen.seen}
use Rattle.snmp_tools.proofs.ServeRefusals.{modules_fail}
use Rattle.snmp_tools.proofs.Wholes.{loads_from, loads_of, mibs_fail, outcome_as, outcome_err}
use Rattle.snmp_tools.proofs.serve.serve_table.Goals as goal

pub returns-in_err-address : goal.returns-in_err-address
returns-in_err-address g c =
    not_loaded (fault_of c.in_err-address.field-0.0) (inr (c.in_err-address.ensures.refused (g.F.Files.text_at c.args.files.now))) refl
    (outcome_err _ _ c.from_residual.ensures.1)

pub returns-in_err-tree : goal.returns-in_err-tree
returns-in_err-tree g c =
    let files = g.F.Files.text_at c.args.files.now in
    let why = refusal_of c.in_err-tree.field-0.0 in
    not_loaded (modules_fault why)
    (modules_fail (serve_words c.args.job.now) files _ _ _ c.in_ok-address.ensures.short_community c.in_ok-address.ensures.address
    (mibs_fail files _ _ c.deref.ensures.value why c.in_err-tree.ensures.refused c.in_err-tree.ensures.only))
    (ap (seen files c.args.links.now (g.O.Output.stream c.args.out.now)) c.in_err-tree.ensures.untold)
    (outcome_as _ _ c.from_residual-in_err-tree.ensures.1)

pub returns : goal.returns
returns g c =
    let files = g.F.Files.text_at c.args.files.now in
    let is = loads_from files _ _ _ _ _ c.deref.ensures.value c.in_ok-tree.ensures.loaded in
    loaded (record {
      short_community = c.in_ok-address.ensures.short_community;
      host = c.in_ok-address.address.host.now;
      port = c.in_ok-address.address.port;
      address = c.in_ok-address.ensures.address;
    }) c.in_ok-tree.tree is (loads_of (g.F.ModuleLoader.loads c.args.files.now) _ _ _ _ c.deref.ensures.value c.in_ok-tree.ensures.loads)
    (c.serve_by.ensures _)
