use Rattle.std.proofs.Common.{◌∙◌, ap, refl}
use Rattle.snmp_walk.specs.{private.Course.step_of, Read.rows_in, Read.all_taken, Read.is_refused}
use Rattle.snmp_walk.proofs.tries.deliver.Goals as goal

pub returns-in-Stray : goal.returns-in-Stray
returns-in-Stray g c = rw c.in-Stray.is (all_taken refl refl)

pub returns-in-Ok : goal.returns-in-Ok
returns-in-Ok g c = rw c.in-GoesOn.is (all_taken refl c.in-Ok.ensures.ok)

pub returns-in-Err : goal.returns-in-Err
returns-in-Err g c =
    let r = c.in-Err.ensures.err in
    is_refused c.in-Err.fault r.0 r.1 r.2 r.4 (ap (λ j. rows_in (step_of j c.args.end.now)) c.in-GoesOn.is ∙ r.3) refl r.5 r.6

pub returns-in-Ok-rows : goal.returns-in-Ok-rows
returns-in-Ok-rows g c = rw c.in-Ends.is (all_taken refl c.in-Ok-rows.ensures.ok)

pub returns-in-Err-rows : goal.returns-in-Err-rows
returns-in-Err-rows g c =
    let r = c.in-Err-rows.ensures.err in
    is_refused c.in-Err-rows.fault r.0 r.1 r.2 r.4 (ap (λ j. rows_in (step_of j c.args.end.now)) c.in-Ends.is ∙ r.3) refl r.5 r.6
