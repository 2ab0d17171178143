use Rattle.std.proofs.Common.{◌≡◌, ℕ, List, Bor, inr, refl, subst}
use Rattle.snmp_tools.specs.{load.FaultText.refusal_of, FaultText.fault_of, FaultText.modules_fault, FaultText.outcome_of}
use Rattle.snmp_words.specs.Words.{texts_at, translate_words}
use Rattle.snmp_tools.specs.translate.TranslateResult.{IsPrinting, ran, refused}
use Rattle.snmp_tools.proofs.{Refusals.modules_fail, Wholes.loads_from, Wholes.loads_of, Wholes.mibs_fail, Wholes.outcome_as, Wholes.outcome_err}
use Rattle.snmp_tools.proofs.translate.translate.Goals as goal

pub returns-in_err-style : goal.returns-in_err-style
returns-in_err-style g c =
    refused (fault_of c.in_err-style.field-0.0) (inr (c.in_err-style.ensures.refused (g.F.Files.text_at c.args.files.now))) refl refl
    (outcome_err _ _ c.from_residual.ensures.1)

pub returns-in_err-tree : goal.returns-in_err-tree
returns-in_err-tree g c =
    let files = g.F.Files.text_at c.args.files.now in
    let why = refusal_of c.in_err-tree.field-0.0 in
    refused (modules_fault why)
    (modules_fail (translate_words c.args.job.now) files _ _ c.in_ok-style.ensures.style
    (mibs_fail files _ _ c.deref.ensures.value why c.in_err-tree.ensures.refused c.in_err-tree.ensures.only)) refl c.in_err-tree.ensures.untold
    (outcome_as _ _ c.from_residual-in_err-tree.ensures.1)

pub returns : goal.returns
returns g c =
    let names : c.deref-2.result.now ≡ c.args.job.now.names.items = c.deref-2.ensures.value in
    let is = loads_from (g.F.Files.text_at c.args.files.now) _ _ _ _ _ c.deref.ensures.value c.in_ok-tree.ensures.loaded in
    ran c.in_ok-style.style c.in_ok-tree.tree c.in_ok-style.ensures.style is
    (loads_of (g.F.ModuleLoader.loads c.args.files.now) _ _ _ _ c.deref.ensures.value c.in_ok-tree.ensures.loads)
    (subst (λ (ns : List (Bor (List ℕ))). IsPrinting c.in_ok-tree.tree c.in_ok-style.style (texts_at ns) (g.O.Output.stream c.args.out.now)
    (g.O.Output.stream c.print_names-done.new.out) (outcome_of c.print_names-done.result)) names c.print_names-done.ensures)
