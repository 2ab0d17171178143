use Rattle.std.proofs.Common.{take}
use Rattle.snmp_walk.specs.Link.{AreViews}
use Rattle.snmp_walk.proofs.memory.MemoryLink.changing.Given as goal

abbrev pub invariant-tables : goal.invariant-tables
invariant-tables l = AreViews (take l.table-index l.tables)
