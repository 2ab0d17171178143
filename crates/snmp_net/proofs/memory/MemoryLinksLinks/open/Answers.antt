use Rattle.std.proofs.Common.{◌∙◌, refl, sym}
use Rattle.snmp_net.proofs.memory.MemoryLinksLinks.open.Goals as goal

pub returns-in-Some-clause-opened : goal.returns-in-Some-clause-opened
returns-in-Some-clause-opened c = (
  (
    c.in-Some.agent,
    sym c.agent_at.ensures ∙ c.in-Some.is,
    record {
      agents = c.new.ensures.agents;
      traffic = c.new.ensures.traffic;
      no_fault = c.new.ensures.no_fault;
      honest = c.new.ensures.honest;
    },
  ),
  refl,
)
