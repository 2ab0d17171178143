use Rattle.std.proofs.Common.{arith, ◌≡◌, ◌+◌, refl}
use Rattle.snmp_wire.specs.Message.{var_bind}
use Rattle.uses.specs.Columns.{count_of}
use Rattle.uses.proofs.CountedRows.{counted_row, other_row}
use Rattle.uses.proofs.columns.ColumnCountsSink.row.Goals as goal

pub returns-in_default : goal.returns-in_default
returns-in_default c = other_row c.names_below.ensures c.args.self.now (var_bind c.args.binding.now) c.in_default.ensures.none

pub returns-in-Ok : goal.returns-in-Ok
returns-in-Ok c =
    let before = c.count.ensures in
    let after = c.in-Some-checked_add.ensures in
    let more : c.in-Some-checked_add.count ≡ count_of c.args.self.now c.in-Some.number + 1 = omega (arith, before, after) in
    let updates = c.in-Ok.ensures.updates in
    counted_row c.names_below.ensures c.args.self.now (record { entry = c.args.self.now.entry; counts = c.insert.new.self }) (var_bind c.args.binding.now)
    c.in-Some.number c.in-Some-checked_add.count refl c.in-Some.ensures.some more updates.1 updates.2
