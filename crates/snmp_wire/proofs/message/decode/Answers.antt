use Rattle.std.proofs.Common.{◌≡◌, ℕ, ◌<◌, List, get_or, Result, Ok, Err, IfOk, IfErr, sym, subst, ◌∙◌, arith}
use Rattle.std.proofs.lemmas.List.{get_or_default}
use Rattle.snmp_wire.specs.declared.ber.error.BerError.{BerError}
use Rattle.snmp_wire.specs.{Message.Message, ber.Number.AreOctets, Fault.IsFault, Spelling.Spells, ber.Decode.AgreesBy, Decode.message_of}
use Rattle.snmp_wire.proofs.{MessageLaws.message_again, Faults.message_faults, Faults.message_takes}
use Rattle.snmp_wire.proofs.message.decode.Goals as goal

are_octets : (octets : List ℕ) → ((i : ℕ) → get_or octets i 0 < 256) → AreOctets octets
are_octets octets small k d lt = subst (λ n. n < 256) (get_or_default octets k 0 d lt) (small k)

-- the clauses of `decode` hold of a result that agrees with `message_of`
decoded : (octets : List ℕ) (result : Result Message BerError) → AreOctets octets → AgreesBy (λ m. m) result (message_of octets)
    → IfOk result (λ message. Spells message octets) × ((message : Message) → Spells message octets → result ≡ Ok message)
    × IfErr result (λ e. IsFault e octets)
decoded octets (Ok read) small e = (message_takes octets read small e, λ message h. sym e ∙ message_again octets message h, tt)
decoded octets (Err fault) small e = (tt, λ message h. sym e ∙ message_again octets message h, message_faults octets fault e)

pub returns : goal.returns
returns c =
    let d = decoded c.args.datagram.now c.message_of.result (are_octets c.args.datagram.now (λ i. omega (arith, c.type_inv.datagram i)))
    c.message_of.ensures in
    record { found = d.0; only = d.1; fault = d.2 }
