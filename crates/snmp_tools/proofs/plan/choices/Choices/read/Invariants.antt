use Rattle.std.proofs.Common.{◌≤◌, ◌-◌, length}
use Rattle.snmp_tools.specs.private.Planned.{chosen}
use Rattle.snmp_tools.proofs.ChosenLetters.{AreReadTo}
use Rattle.snmp_tools.proofs.plan.choices.Choices.read.Given as goal

abbrev pub invariant-parts : goal.invariant-parts
invariant-parts l = record { within : l.at ≤ length l.letters; read : AreReadTo l.bulk l.letters l.at (chosen l.choices) }

abbrev pub decreases-parts : goal.decreases-parts
decreases-parts l = length l.letters - l.at
