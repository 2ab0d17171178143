use Rattle.snmp_tools.proofs.TableNames as table_names
use Rattle.snmp_tools.proofs.table_names.names_are_meant.Goals as goal

pub returns : goal.returns
returns c = table_names.names_are_meant c.meanings_are_computed.ensures c.one_meaning.ensures.only
