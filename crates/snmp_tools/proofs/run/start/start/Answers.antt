use Rattle.std.proofs.Common.{inl, inr, refl, ap, Err}
use Rattle.snmp_tools.proofs.run.start.start.Goals as goal

-- if the error is `AfterOutsideRoot`, then the root can be sent, and the name to continue after is neither the root nor below it
pub returns-in-Err-AfterOutsideRoot-clause-err : goal.returns-in-Err-AfterOutsideRoot-clause-err
returns-in-Err-AfterOutsideRoot-clause-err c =
    let f = rw (c.copy-root.ensures) at (c.in-Err-AfterOutsideRoot.ensures.outside (ap Err c.in-Err-AfterOutsideRoot.field-0-is)) in
    inr (f.0, (c.in-Some.after, c.in-Some.is, inl (f.1, refl)))
