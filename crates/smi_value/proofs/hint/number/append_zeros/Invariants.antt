use Rattle.std.proofs.Common.{replicate}
use Rattle.snmp_io.specs.Draft.{Grows}
use Rattle.smi_value.proofs.hint.number.append_zeros.Given as goal

abbrev pub invariant-zeros : goal.invariant-zeros
invariant-zeros l = Grows l.initial.draft (replicate l.index 48) l.draft
