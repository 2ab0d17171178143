use Rattle.snmp_tools.specs.serve.TableFile.{names_in}
use Rattle.smi_tree.specs.Bare.{bare}
use Rattle.snmp_tools.proofs.TableWalks.{asked_in_numbers}
use Rattle.snmp_tools.proofs.laws.served_walks_in_numbers.Goals as goal

pub returns : goal.returns
returns c = record {
  asked =
      asked_in_numbers c.bare_tree.ensures c.numbers_are_read.ensures (c.names_are_meant.ensures bare) c.instances_below.ensures.below
      c.instances_below.ensures.ordered c.one_answer.ensures.get (c.table_of_lines.ensures (names_in bare))
      (c.unmarked_table.ensures.table (names_in bare));
}
