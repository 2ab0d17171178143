use Rattle.std.proofs.Common.{◌≡◌, List, ℕ, [], ◌∷◌, take, Ok, Some, inl, inr, refl, arith}
use Rattle.snmp_agent.specs.Event.{came, receive_failed, sent, send_failed}
use Rattle.snmp_agent.proofs.server.serve_once.Goals as goal
use Rattle.snmp_agent.proofs.server.serve_once.{Given.Over, Goals.In-Ok-Some}

it_came : (g : Over) (c : In-Ok-Some g)
    → g.E.Endpoint.happens c.args.endpoint.now (came c.in-Ok-Some.peer (take c.in-Ok-Some.size c.receive.new.buffer)) c.receive.new.self
it_came g c =
    let received : c.receive.result ≡ Ok (Some (c.in-Ok-Some.size, c.in-Ok-Some.peer)) = cc in
    rw received at (c.receive.ensures.happens (omega arith))

pub returns-in-Ok-clause-turn : goal.returns-in-Ok-clause-turn
returns-in-Ok-clause-turn g c =
    let peer = c.in-Ok-Some.peer in
    let datagram : List ℕ = take c.in-Ok-Some.size c.receive.new.buffer in
    let reply : List ℕ = take c.in-Reply.length c.answer_near.new.out in
    let was_sent = rw c.in-Ok.is at c.reply.ensures.happens in (
      came peer datagram ∷ sent peer reply ∷ [],
      (peer, datagram, reply, c.answer_near.ensures.reply c.in-Reply.length c.in-Reply.is, refl),
      (c.receive.new.self, it_came g (goal.at.returns-in-Ok-clause-turn g c).In-Ok-Some, (c.reply.new.self, was_sent, refl)),
    )

pub returns-in-Err-reply-clause-turn : goal.returns-in-Err-reply-clause-turn
returns-in-Err-reply-clause-turn g c =
    let peer = c.in-Ok-Some.peer in
    let datagram : List ℕ = take c.in-Ok-Some.size c.receive.new.buffer in
    let reply : List ℕ = take c.in-Reply.length c.answer_near.new.out in
    let it_failed = rw c.in-Err-reply.is at c.reply.ensures.happens in (
      came peer datagram ∷ send_failed peer reply ∷ [],
      inr (peer, datagram, reply, c.answer_near.ensures.reply c.in-Reply.length c.in-Reply.is, refl),
      (c.receive.new.self, it_came g (goal.at.returns-in-Err-reply-clause-turn g c).In-Ok-Some, (c.reply.new.self, it_failed, refl)),
    )

pub returns-in-Dropped-clause-turn : goal.returns-in-Dropped-clause-turn
returns-in-Dropped-clause-turn g c =
    let peer = c.in-Ok-Some.peer in
    let datagram : List ℕ = take c.in-Ok-Some.size c.receive.new.buffer in (
      came peer datagram ∷ [],
      (peer, datagram, c.in-Dropped.field-0, c.answer_near.ensures.dropped c.in-Dropped.field-0 c.in-Dropped.is, refl),
      (c.receive.new.self, it_came g (goal.at.returns-in-Dropped-clause-turn g c).In-Ok-Some, refl),
    )

pub returns-in-Err-clause-turn : goal.returns-in-Err-clause-turn
returns-in-Err-clause-turn g c =
    let it_failed = rw c.in-Err.is at (c.receive.ensures.happens (omega arith)) in
    (receive_failed ∷ [], inl refl, (c.receive.new.self, it_failed, refl))
