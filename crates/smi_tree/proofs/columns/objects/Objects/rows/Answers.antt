-- The invariant of the loop holds at its start and after one node more, and implies what the function ensures.
use Rattle.std.proofs.{lemmas.Grind.common_steps, Common.rules, Common.arith}
use Rattle.smi_names.specs.nodes.Gathered.{nodes_of}
use Rattle.smi_tree.proofs.{Lists.get_within, Sources.length_nodes, Pairwise.first_none, Pairwise.first_more, Pairwise.first_all}
use Rattle.smi_tree.proofs.columns.objects.Objects.rows.Goals as goal

pub indices-init : goal.indices-init
indices-init c = record { rows = rw c.in_ok-rows.ensures.items (first_none _ _); last = tt }

pub indices-preserved : goal.indices-preserved
indices-preserved c =
    let nodes = nodes_of c.args.self.now c.args.sources.now c.args.identifiers.now in
    let long = length_nodes c.args.self.now c.args.sources.now c.args.identifiers.now c.requires in
    let node = get_within nodes c.indices.id (omega (arith, long, c.indices-test.true)) in
    record {
      rows = first_more _ _ c.indices.id c.indices.rows.items c.push.new.self.items node.0 c.row.result c.indices.invariant.rows (search rules) node.1
          (c.row.ensures.row node.0 node.1);
      last = c.row.ensures.last;
    }

pub returns : goal.returns
returns c = grind (arith, common_steps, length_nodes, first_all)
