use Rattle.snmp_agent.specs.table.Stated.{IsFirstFaultIn, IsTableIn}
use Rattle.snmp_agent.proofs.Unique.{without_mark}
use Rattle.snmp_agent.proofs.laws.unmarked_table.Goals as goal

pub returns : goal.returns
returns c = record {
  table = λ names lines view. without_mark names lines (λ f. IsTableIn f lines view);
  fault = λ names lines fault. without_mark names lines (λ f. IsFirstFaultIn f lines fault);
}
