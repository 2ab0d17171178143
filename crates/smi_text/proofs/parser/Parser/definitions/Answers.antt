use Rattle.std.proofs.{Common.arith, lemmas.Grind.common_steps, lemmas.Result.err_from_is_err_and}
use Rattle.smi_text.proofs.FileSteps.{has_read-start, has_read-done, has_read-shorter, has_read-next, definitions-fault}
use Rattle.smi_text.proofs.parser.Parser.definitions.Goals as goal

pub each-init : goal.each-init
each-init c = has_read-start _ _ _ c.name_set-names.ensures c.list-defs.ensures

pub each-smaller : goal.each-smaller
each-smaller c =
    has_read-shorter _ _ _ c.each.self c.each.invariant _ _ _ c.in-Some.ensures.0 c.in-Some.ensures.1 c.in_ok-new_definition.ensures.read.read

pub each-preserved : goal.each-preserved
each-preserved c =
    let more = c.in_ok-new_definition.ensures.read in
    rw (more.appended)
    (has_read-next _ _ _ c.each.self c.each.invariant c.in-Some.label.now _ _ c.in-Some.ensures.0 c.in-Some.ensures.1 more.read _
    c.in_ok-new_definition.ensures.new c.in_ok-new_definition.ensures.added)

pub returns-clause-ok : goal.returns-clause-ok
returns-clause-ok c = rw (c.new.ensures) (has_read-done _ _ _ c.each.self c.each.invariant c.in_default.ensures)

pub returns-in_err-new_definition-clause-fault : goal.returns-in_err-new_definition-clause-fault
returns-in_err-new_definition-clause-fault c = grind (arith, common_steps, err_from_is_err_and, definitions-fault)
