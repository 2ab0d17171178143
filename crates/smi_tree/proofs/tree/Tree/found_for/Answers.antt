-- All identifiers below `below` have the same node and the same syntax.
use Rattle.std.proofs.Common.{refl, ◌∙◌}
use Rattle.smi_tree.specs.Nodes.{oids_of}
use Rattle.smi_tree.proofs.{LongestPrefix.longest-some, Leaves.holds_below}
use Rattle.smi_tree.specs.Naming.{nearest_node, nearest_syntax}
use Rattle.smi_tree.proofs.tree.Tree.found_for.Goals as goal

pub returns-in-Some-clause-below : goal.returns-in-Some-clause-below
unfolding nearest_node nearest_syntax
returns-in-Some-clause-below c =
    let d = c.in-Some.deepest in
    let oids = oids_of c.args.self.now.nodes in
    holds_below (λ o. o.now) c.last_on_way.result oids c.args.oid.now d.id d.depth c.in-Some.ensures.deepest
    c.last_on_way.ensures.at c.last_on_way.ensures.last _
    (λ p at. let longest = longest-some oids p d.id d.depth at in (c.seen.ensures ∙ rw longest refl, c.value_syntax.ensures ∙ rw longest refl))
