use Rattle.snmp_agent.proofs.Formats.{match_weaker, no_end_first}
use Rattle.snmp_agent.proofs.table.format.FirstFormatLineFormat.split_name.Goals as goal

pub returns : goal.returns
returns c = match_weaker c.split_once.result _ _ (no_end_first c.args.line.now) (λ parts h. h) c.split_once.ensures
