use Rattle.std.proofs.Common.{◌≡◌, ◌∙◌, ◌∷◌, [], List, ℕ, length, take, arith, ap, refl, subst}
use Rattle.std.specs.Prelude.{IfSome}
use Rattle.snmp_agent.specs.Reply.{Agent, IsDropped}
use Rattle.snmp_agent.specs.declared.config.DropReason.{DropReason}
use Rattle.snmp_walk.specs.Loose.{IsDroppedBy, IsSentIn, UsesWay, agent_at, last_sent}
use Rattle.snmp_walk.proofs.{LooseLinks.if_none, LooseLinks.sent_back, MemoryLinks.within_more, Moves.ok_fine}
use Rattle.snmp_walk.proofs.loose.LooseLinkLink.receive.Goals.{After-answer}
use Rattle.snmp_walk.proofs.loose.LooseLinkLink.receive.Goals as goal

-- the receive uses the way that `next_way` returned
uses : (c : After-answer) → UsesWay c.args.self.now c.next_way-way.result c.next_way-way.new.self
uses c = record { agent = c.next_way-way.ensures.agent; last = c.next_way-way.ensures.last; next = c.next_way-way.ensures.next }

-- the datagram passed to the agent is the one that was sent last
asked : (c : After-answer) → c.as_slice.result.now ≡ last_sent c.args.self.now
asked c = c.as_slice.ensures.value ∙ c.next_way-way.ensures.last

pub returns-clause-length : goal.returns-clause-length
returns-clause-length c = within_more c.answer.result (length c.args.buffer.now) c.answer.ensures.length (c.in-Some.ensures.variant.0 refl)

pub returns-clause-delivers : goal.returns-clause-delivers
returns-clause-delivers c =
    let at = (goal.at.returns-clause-delivers c).After-answer in
    let self = c.args.self.now in
    let out = c.answer.new.out in
    let how = c.next_way-way.result in
    sent_back c.answer.result out _ how (λ way. UsesWay self way _) (λ way octets. IsSentIn (agent_at self) way (last_sent self) octets)
    c.answer.ensures.length c.answer.ensures.room (uses at)
    (subst (λ (a : Agent). IfSome c.answer.result (λ n. IsSentIn a how (last_sent self) (take n out))) c.next_way-way.ensures.agent
    (subst (λ (q : List ℕ). IfSome c.answer.result (λ n. IsSentIn (agent_at c.next_way-way.new.self) how q (take n out))) (asked at) c.answer.ensures.sent))

pub returns-clause-silent : goal.returns-clause-silent
returns-clause-silent c =
    let at = (goal.at.returns-clause-silent c).After-answer in
    let self = c.args.self.now in
    if_none c.answer.result ((why : DropReason) × IsDropped (agent_at c.next_way-way.new.self) c.as_slice.result.now why)
    (IsDroppedBy self c.next_way-way.new.self)
    (λ h. (
      c.next_way-way.result,
      uses at,
      h.0,
      subst (λ (a : Agent). IsDropped a (last_sent self) h.0) c.next_way-way.ensures.agent
          (subst (λ (q : List ℕ). IsDropped (agent_at c.next_way-way.new.self) q h.0) (asked at) h.1),
    )) c.answer.ensures.dropped

pub returns-clause-moves : goal.returns-clause-moves
returns-clause-moves c = record {
  keeps = λ k. k;
  honest = λ h. h;
  agents = ap (λ (a : Agent). record { tables = a.view ∷ []; community = a.community; max_size = a.max_size }) c.next_way-way.ensures.agent;
  sent = λ k. absurd k;
  used = λ h. absurd h;
  count = λ fine. c.next_way-way.ensures.count;
  fault = λ f. absurd (ok_fine f);
  ready = λ s o r. (ok_fine, (r.0, omega (arith, r.1)));
}
