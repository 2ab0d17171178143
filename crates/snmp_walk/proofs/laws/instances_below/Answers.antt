use Rattle.snmp_walk.proofs.Ordered.{is_row_below, has_row_below, is_row_left, has_row_left, below_ordered, left_ordered}
use Rattle.snmp_walk.proofs.{Variables.variables_are, OneTable.rest_from_wire}
use Rattle.snmp_agent.specs.table.Listing.{variables}
use Rattle.snmp_walk.proofs.laws.instances_below.Goals as goal

pub returns-clause-below : goal.returns-clause-below
returns-clause-below c = λ view root p good. (is_row_below view good root p, has_row_below view good root p)

pub returns-clause-ordered : goal.returns-clause-ordered
returns-clause-ordered c = λ view root good. below_ordered view good root (λ o p. (c.order.ensures.less o p).0)

pub returns-clause-left : goal.returns-clause-left
returns-clause-left c = λ view root o p good.
    (is_row_left view good root (λ a b. (c.order.ensures.less a b).0) o p, has_row_left view good root (λ a b. (c.order.ensures.less a b).0) o p)

pub returns-clause-left_ordered : goal.returns-clause-left_ordered
returns-clause-left_ordered c = λ view root o good. left_ordered view good root (λ a b. (c.order.ensures.less a b).0) o

pub returns-clause-from_root : goal.returns-clause-from_root
returns-clause-from_root c = λ view root good. rest_from_wire root (variables view) (variables_are view good)
