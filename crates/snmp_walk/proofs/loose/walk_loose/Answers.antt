use Rattle.snmp_walk.specs.{Link.AreLawful, Loose.agents_at}
use Rattle.snmp_walk.proofs.loose.walk_loose.Goals as goal

pub returns : goal.returns
returns g c =
    let r = c.run_walk.ensures.ran in
    let happened = r.facts.happened in
    let link = c.args.link.now in
    let after = c.run_walk.new.link in
    let laws = c.loose_replies.ensures in
    let lawful : AreLawful (agents_at link) = record { views = (c.is_mib_view.ensures, tt); size = link.config.datagram } in
    record {
      rows = r.rows;
      refused = r.refused;
      took = r.took;
      facts = (
        r.facts,
        happened.replied_or_failed (agents_at link) lawful
            (laws.errors link after happened.events c.is_mib_view.ensures c.requires.nothing_sent happened.in_turn),
        λ no_error. happened.replied (agents_at link) lawful
            (laws.replies link after happened.events c.is_mib_view.ensures c.requires.nothing_sent no_error happened.in_turn),
      );
    }
