use Rattle.std.proofs.Common.{◌≡◌, ◌++◌, List, length}
use Rattle.snmp_wire.specs.Message.{VarBind}
use Rattle.snmp_walk.specs.Sink.{TakesAll}
use Rattle.snmp_walk.proofs.sink.Sink.rows.Given as goal

abbrev pub invariant-rows : goal.invariant-rows
invariant-rows g l = (prefix : List VarBind) × (l.fn.rows ≡ prefix ++ l.rows) × TakesAll g.Self.Sink.takes l.fn.self prefix l.self

abbrev pub decreases-rows : goal.decreases-rows
decreases-rows g l = length l.rows
