use Rattle.std.proofs.Common.{◌≡◌, length}
use Rattle.snmp_agent.proofs.DraftLines.{IsReadTo}
use Rattle.snmp_agent.proofs.table.builder.TableBuilder.read.Given as goal

abbrev pub invariant-lines : goal.invariant-lines
invariant-lines g l = IsReadTo (g.F.LineFormat.format l.format) l.text l.rest l.draft l.number
    × (l.draft.exact ≡ l.exact)

abbrev pub decreases-lines : goal.decreases-lines
decreases-lines g l = length l.rest
