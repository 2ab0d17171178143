use Rattle.std.proofs.Common.{◌≡◌, ◌∙◌, [], ℕ, List, inl, refl, sym, ap, append-nil, arith, rules}
use Rattle.snmp_agent.specs.Reply.{agent_of}
use Rattle.snmp_walk.specs.{Link.AreLawful, Moves.AreSent, Traffic.latest}
use Rattle.snmp_walk.specs.{Network.RepliesTo, Network.event_of_got, Served.IsServedBy, Served.agents_at}
use Rattle.snmp_walk.proofs.Networks.{by_none, by_some, chain_of, gives_of, got_none, same_sent, still_so}
use Rattle.snmp_walk.proofs.network.NetworkLinkLink.receive.Given.{Over}
use Rattle.snmp_walk.proofs.network.NetworkLinkLink.receive.Goals as goal
use Rattle.snmp_walk.proofs.network.NetworkLinkLink.receive.Goals.{After-receive_reply}

-- the agent had its turns, and then the walk's receive returned what `receive_reply` did
came_so : (g : Over) (c : After-receive_reply g) → IsServedBy g.N.Network.carries g.N.Network.turn_count c.args.self.now
    (event_of_got c.receive_reply.result c.receive_reply.new.buffer) (record c.args.self.now { network = c.receive_reply.new.self })
came_so g c =
    let t = c.serve_at.ensures.turns in (
      refl,
      _,
      t.0,
      rw c.turns-turns.ensures at t.1,
      chain_of g.N.Endpoint.happens g.N.Network.carries g.met.N.Network.at_end t.0 _ c.args.self.now.network
          c.serve_at.new.endpoint c.receive_reply.new.self t.2 c.receive_reply.ensures.carries,
    )

pub returns-in-Ok-clause-delivers : goal.returns-in-Ok-clause-delivers
returns-in-Ok-clause-delivers g c =
    by_some c.in-Ok.got c.receive_reply.new.buffer
    (λ e. IsServedBy g.N.Network.carries g.N.Network.turn_count c.args.self.now e (record c.args.self.now { network = c.receive_reply.new.self }))
    (rw c.in-Ok.is at (came_so g (goal.at.returns-in-Ok-clause-delivers g c).After-receive_reply))

pub returns-in-Ok-clause-silent : goal.returns-in-Ok-clause-silent
returns-in-Ok-clause-silent g c =
    by_none c.in-Ok.got c.receive_reply.new.buffer
    (λ e. IsServedBy g.N.Network.carries g.N.Network.turn_count c.args.self.now e (record c.args.self.now { network = c.receive_reply.new.self }))
    (rw c.in-Ok.is at (came_so g (goal.at.returns-in-Ok-clause-silent g c).After-receive_reply))

pub returns-in-Err-clause-receive_fails : goal.returns-in-Err-clause-receive_fails
returns-in-Err-clause-receive_fails g c = rw c.in-Err.is at (came_so g (goal.at.returns-in-Err-clause-receive_fails g c).After-receive_reply)

module _ (g : Over) (c : After-receive_reply g) where
  -- the walk sent nothing meanwhile
  same_traffic : g.N.Network.sent c.receive_reply.new.self ≡ g.N.Network.sent c.args.self.now.network
  same_traffic =
      let h = came_so g c in
      same_sent g.N.Network.carries g.N.Network.sent g.met.N.Network.sending h.2 _ c.args.self.now.network c.receive_reply.new.self
      (got_none g.row.N-Peer.Denot c.receive_reply.result c.receive_reply.new.buffer) h.4

  still_prompt : g.N.Network.is_prompt c.args.self.now.network → g.N.Network.is_prompt c.receive_reply.new.self
  still_prompt it =
      let h = came_so g c in
      still_so g.N.Network.carries g.N.Network.is_prompt g.met.N.Network.still_prompt _ c.args.self.now.network c.receive_reply.new.self it h.4

  -- over a prompt network, the walk's receive returned the agent's reply to the latest datagram, or nothing if there is none, or failed
  replied : g.N.Network.is_prompt c.args.self.now.network
      → RepliesTo (agent_of c.args.self.now.table.now c.args.self.now.config) (latest (g.N.Network.sent c.args.self.now.network))
      (event_of_got c.receive_reply.result c.receive_reply.new.buffer)
  replied it =
      let h = came_so g c in
      g.met.N.Network.replying c.args.self.now.network c.receive_reply.new.self _ h.1 h.2 _ it h.3 h.4

  still_honest : g.N.Network.is_prompt c.args.self.now.network × AreLawful (agents_at c.args.self.now)
      → g.N.Network.is_prompt c.receive_reply.new.self × AreLawful (agents_at c.args.self.now)
  still_honest h = (still_prompt h.0, h.1)

  none_sent : (failed : Type 0) → AreSent [] failed (g.N.Network.sent c.args.self.now.network) (g.N.Network.sent c.receive_reply.new.self)
  none_sent failed = record {
    prefix = [];
    left = [];
    parts = refl;
    sent = same_traffic ∙ sym (append-nil (g.N.Network.sent c.args.self.now.network));
    all = λ no. refl;
    but_one = omega arith;
  }

pub returns-in-Ok-clause-reply : goal.returns-in-Ok-clause-reply
returns-in-Ok-clause-reply g c =
    let link = c.args.self.now in
    λ honest long. (
      refl,
      gives_of (agents_at link) link.table.now (inl refl) (agent_of link.table.now link.config) refl
          (latest (g.N.Network.sent link.network)) c.in-Ok.got c.receive_reply.new.buffer
          (rw c.in-Ok.is at (replied g (goal.at.returns-in-Ok-clause-reply g c).After-receive_reply honest.0)),
    )

pub returns-in-Ok-clause-moves : goal.returns-in-Ok-clause-moves
returns-in-Ok-clause-moves g c =
    let at = (goal.at.returns-in-Ok-clause-moves g c).After-receive_reply in
    record {
      keeps = λ k. k;
      honest = still_honest g at;
      agents = refl;
      sent = λ k. none_sent g at _;
      used = λ h. ([], refl, omega arith);
      count = λ fine. refl;
      fault = λ failed. let no : ⊥ = cc in absurd no;
      ready = λ sends octets no. absurd no.1;
    }

pub returns-in-Err-clause-unchanged : goal.returns-in-Err-clause-unchanged
returns-in-Err-clause-unchanged g c =
    ap (λ (sent : List (List ℕ)). record { sent = sent; ahead = [] }) (same_traffic g (goal.at.returns-in-Err-clause-unchanged g c).After-receive_reply)

pub returns-in-Err-clause-moves : goal.returns-in-Err-clause-moves
returns-in-Err-clause-moves g c =
    let at = (goal.at.returns-in-Err-clause-moves g c).After-receive_reply in
    record {
      keeps = λ k. k;
      honest = still_honest g at;
      agents = refl;
      sent = λ k. none_sent g at _;
      used = λ h. ([], refl, omega arith);
      count = λ fine. absurd (fine refl);
      fault = λ failed. search rules;
      ready = λ sends octets no. absurd no.1;
    }
