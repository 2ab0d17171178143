use Rattle.std.proofs.Common.{◌≡◌, Option, Some, None, subst}
use Rattle.std.specs.Option.{IfNone}
use Rattle.snmp_wire.specs.Message.{Message}
use Rattle.uses.specs.Traps.{IsTrapMessage}
use Rattle.uses.proofs.traps.trap_oid.Goals as goal

weaker : {X : Type 0} (o : Option X) (P Q : Type 0) → (P → Q) → IfNone o P → IfNone o Q
weaker None P Q f h = f h
weaker (Some x) P Q f h = tt

-- the message that was read is the only one that the datagram encodes
pub returns-in-Ok-clause-none : goal.returns-in-Ok-clause-none
returns-in-Ok-clause-none c = weaker c.trap_oid_of.result _ _
    (λ none oid is.
    let read = c.decode.ensures.only is.0 is.1 in
    let was = c.in-Ok.is in
    let same : is.0 ≡ c.in-Ok.message = cc in
    none oid (subst (λ (m : Message). IsTrapMessage m oid) same is.2))
    c.trap_oid_of.ensures.none

pub returns-in-Err-clause-none : goal.returns-in-Err-clause-none
returns-in-Err-clause-none c oid is = let read = c.decode.ensures.only is.0 is.1 in cc
