use Rattle.snmp_tools.specs.load.Loaded.{any_load}
use Rattle.snmp_tools.proofs.BothEnds.{prints_served}
use Rattle.snmp_tools.proofs.laws.served_tables.Goals as goal

pub returns : goal.returns
returns g c = record {
  printed = λ endpoint_at words before after status serving server_before server_after server_status rows ask serves done served.
      prints_served c.instances_below.ensures.below c.instances_below.ensures.left c.one_answer.ensures.get c.one_table.ensures c.table_of_lines.ensures
      c.one_list_of_modules.ensures c.one_tree.ensures c.one_meaning.ensures.only g.L.Links g.L.Wire.Link any_load g.M.Links endpoint_at
      g.D.Endpoint.happens any_load c.honest_networks.ensures.replies serves words before after status serving server_before
      server_after server_status rows ask done.outcome_reported served;
}
