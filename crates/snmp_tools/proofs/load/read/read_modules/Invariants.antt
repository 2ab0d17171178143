use Rattle.std.proofs.Common.{take}
use Rattle.snmp_io.specs.Files.{MayHold}
use Rattle.snmp_tools.specs.load.Files.{AreModulesOf, texts}
use Rattle.snmp_tools.proofs.load.read.read_modules.Given as goal

abbrev pub invariant-paths : goal.invariant-paths
invariant-paths g l = AreModulesOf (MayHold (g.F.Files.text_at l.files)) (texts (take l.path-index l.paths)) l.modules.items
