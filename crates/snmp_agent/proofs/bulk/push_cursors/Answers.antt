use Rattle.std.proofs.{Common.arith, Common.List, Common.◌++◌, Common.ap, Common.append_assoc, lemmas.Grind.common_steps}
use Rattle.snmp_agent.specs.private.Cursor.{CursorView, cursors_of}
use Rattle.snmp_agent.proofs.bulk.push_cursors.Goals as goal

pub names-init : goal.names-init
names-init c = ap (λ (ps : List CursorView). ps ++ cursors_of c.args.table.now 0 c.args.bindings.now) c.requires

pub names-preserved : goal.names-preserved
names-preserved c = grind (arith, common_steps, append_assoc)

pub returns-in_default : goal.returns-in_default
returns-in_default c = grind (arith, common_steps)
