use Rattle.std.proofs.Common.{length}
use Rattle.snmp_agent.proofs.table.hashes.hash_of.Given as goal

abbrev pub decreases-words : goal.decreases-words
decreases-words l = length l.rest
