use Rattle.std.proofs.Common.{◌∙◌, refl}
use Rattle.snmp_tools.specs.{serve.ServeResult.bound, serve.ServeResult.not_bound, serve.ServeResult.refused, FaultText.fault_of}
use Rattle.snmp_tools.proofs.Wholes.{outcome_err}
use Rattle.snmp_tools.proofs.serve.serve_by.Goals as goal

pub returns-in_err-table : goal.returns-in_err-table
returns-in_err-table g c = λ err.
    refused (fault_of c.in_err-table.field-0.0) c.in_err-table.ensures.err refl (outcome_err _ _ c.from_residual.ensures.1)

pub returns-in-Err : goal.returns-in-Err
returns-in-Err g c = λ err. not_bound _ c.in_ok-table.ensures.table c.in-Err.ensures.failed c.in-Err.ensures.fault refl refl

pub returns : goal.returns
returns g c = λ err.
    bound _ c.in-Ok.door c.bind.new.self c.in_ok-table.ensures.table c.in-Ok.ensures.bound (c.serve_at.ensures.count ∙ c.in-Ok.ensures.count)
    c.serve_at.ensures.served
