use Rattle.snmp_oid.proofs.numeric.parse_numeric.Goals as goal

pub returns-in-Err-clause-bad_number : goal.returns-in-Err-clause-bad_number
returns-in-Err-clause-bad_number c = λ at.
    let h = c.in-Err.ensures.bad_number at in (λ same. h.0 (cc), λ bad. let e = h.1 bad in cc)
