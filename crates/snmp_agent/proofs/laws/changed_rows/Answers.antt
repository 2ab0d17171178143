use Rattle.snmp_agent.proofs.RowChanges.{got_elsewhere, got_put, none_left, put_and_removed, still_got, two_names}
use Rattle.snmp_agent.proofs.laws.changed_rows.Goals as goal

pub returns : goal.returns
returns c = record {
  put = got_put;
  put_elsewhere = got_elsewhere;
  removed = none_left;
  removed_elsewhere = still_got;
  put_and_removed = put_and_removed;
  two_names = two_names;
}
