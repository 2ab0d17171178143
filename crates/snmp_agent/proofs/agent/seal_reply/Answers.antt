use Rattle.std.proofs.Common.{◌≡◌, ◌↔◌, ◌≤◌, IsSome, length, take, arith, ◌∙◌}
use Rattle.std.proofs.lemmas.List.{length-take-le, take-take}
use Rattle.snmp_wire.specs.Parts.{parts_message}
use Rattle.snmp_agent.specs.private.Answering.{whole_size}
use Rattle.snmp_agent.proofs.{Lengths.some_head, Requests.is_written, agent.seal_reply.Goals.After-seal}
use Rattle.snmp_agent.proofs.agent.seal_reply.Goals as goal

-- the part of the output that a message may take has `max_size` octets
long : (c : After-seal) → length (take c.args.config.now.max_size c.args.out.now) ≡ c.args.config.now.max_size
long c = length-take-le c.args.config.now.max_size c.args.out.now (omega (arith, c.args.config.now.datagram))

fits : (c : After-seal) → IsSome c.seal.result ↔ (whole_size (parts_message c.args.parts.now) c.args.total ≤ c.args.config.now.max_size)
fits c = (λ is. omega (arith, long c, c.seal.ensures.variant.0 is), λ low. c.seal.ensures.variant.1 (omega (arith, long c, low)))

pub returns-clause-written : goal.returns-clause-written
returns-clause-written c = λ r parts octets.
    let limit = c.args.config.now.max_size in
    let k = (goal.at.returns-clause-written c).After-seal in
    let prefix = take-take c.args.total limit c.args.out.now c.requires.within in
    is_written c.message_sizes.ensures c.pieces.ensures limit c.args.total (parts_message c.args.parts.now) r (take limit c.args.out.now) c.seal.new.out _
    parts (prefix ∙ octets) (length-take-le c.args.total (take limit c.args.out.now) (omega (arith, long k, c.requires.within)))
    (omega (arith, long k, c.seal.auto.out)) c.seal.result (fits k) c.seal.ensures.some

pub returns-clause-room : goal.returns-clause-room
returns-clause-room c = λ is.
    omega (arith, (fits (goal.at.returns-clause-room c).After-seal).0 is, some_head (parts_message c.args.parts.now) c.args.total)
