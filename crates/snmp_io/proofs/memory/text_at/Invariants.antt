use Rattle.std.proofs.Common.{◌≡◌, drop}
use Rattle.snmp_io.specs.Memory.{held_at}
use Rattle.snmp_io.proofs.memory.text_at.Given as goal

abbrev pub invariant-files : goal.invariant-files
invariant-files l = held_at (drop l.held-index l.files) l.path ≡ held_at l.files l.path
