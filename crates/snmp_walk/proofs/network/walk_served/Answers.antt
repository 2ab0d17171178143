use Rattle.std.proofs.Common.{ℕ, List, inl, refl, subst}
use Rattle.snmp_agent.specs.Reply.{agent_of}
use Rattle.snmp_walk.specs.{Link.AreLawful, Link.OneOf, Network.AreReplies, Served.agents_at}
use Rattle.snmp_walk.proofs.{Networks.replies_over, Networks.all_of}
use Rattle.snmp_walk.proofs.network.walk_served.Goals as goal

pub returns : goal.returns
returns g c =
    let r = c.run_walk.ensures.ran in
    let link = c.args.link.now in
    let after = c.run_walk.new.link in
    let agents = agents_at link in
    let lawful : AreLawful agents = record { views = (c.is_mib_view.ensures, tt); size = link.config.datagram } in
    let w = all_of r.facts (λ l. l.network) (λ l. agent_of l.table.now l.config) g.N.Network.carries g.N.Network.turn_count (λ old new d h. h)
    (λ old new d h. h) (λ old new d h. (h.0, (h.1, h.2, h.3, h.4))) (λ old new h. (h.0, (h.1, h.2, h.3, h.4)))
    (λ old new h. (h.0, (h.1, h.2, h.3, h.4))) agents link.table.now (inl refl) refl in
    record {
      ran = record {
        rows = r.rows;
        refused = r.refused;
        took = r.took;
        facts = record {
          walked = r.facts;
          served = r.facts.happened.replied agents lawful
              (subst (AreReplies agents) w.seen
              (replies_over agents (g.N.Network.walker link.network) w.run
              (g.met.N.Network.faithful link.network after.network w.run c.requires.new w.chain) w.served));
          done_if_prompt = λ prompt k counts rooms ids.
              let none = g.met.N.Network.starts link.network c.requires.new in
              (r.facts.judged ((prompt, lawful), λ d one. absurd (subst (λ (ds : List (List ℕ)). OneOf ds d) none one))).done_unless_stopped k counts rooms ids
              refl;
        };
      };
    }
