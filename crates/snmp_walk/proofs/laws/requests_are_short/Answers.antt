use Rattle.snmp_wire.specs.Canon.{canon}
use Rattle.snmp_walk.specs.Request.{request_of}
use Rattle.snmp_walk.proofs.{OwnReply.request_in_range, RequestParts.request_short}
use Rattle.snmp_walk.proofs.laws.requests_are_short.Goals as goal

pub returns-clause-short : goal.returns-clause-short
returns-clause-short c = λ w good. request_short w good.community good.identifier.short

pub returns-clause-read : goal.returns-clause-read
returns-clause-read c = λ w good.
    let codec = c.codec.ensures in codec.read (request_of w) (canon (request_of w)) (codec.strict (request_of w) (request_in_range w good))
