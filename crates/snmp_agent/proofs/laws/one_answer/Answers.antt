use Rattle.snmp_agent.proofs.Each.{one_get, one_next, one_next_after}
use Rattle.snmp_agent.proofs.laws.one_answer.Goals as goal

pub returns : goal.returns
returns c = record {
  get = one_get;
  get_next = one_next c.order.ensures.less;
  get_bulk = one_next_after c.order.ensures.less;
}
