use Rattle.std.proofs.Common.{◌≡◌, ◌∷◌, [], refl}
use Rattle.std.proofs.lemmas.Result.{IfOk-weaker}
use Rattle.snmp_agent.specs.table.Table.{MibView}
use Rattle.snmp_walk.specs.{Link.Agents, Link.AreLawful, Memory.agents_over, RunResult.HasHappened, declared.end.WalkEnd.WalkEnd}
use Rattle.uses.specs.Polled.{IsPolled}
use Rattle.uses.specs.contracts.direct.DirectLink.TheImpl.{ghosts}
use Rattle.uses.proofs.DirectLinks.{are_replies}
use Rattle.uses.proofs.direct.poll_again.Goals as goal

pub returns-clause-table : goal.returns-clause-table
returns-clause-table c =
    let link = c.args.link.now in
    let agents : Agents = agents_over (link.table.now ∷ []) link.config in
    let lawful : AreLawful agents = record { views = (c.is_mib_view.ensures, tt); size = link.config.datagram } in
    IfOk-weaker c.poll.result
    (λ end. HasHappened ghosts link c.poll.new.link end
    (λ (served : Agents) (why : WalkEnd). (view : MibView) → served.tables ≡ view ∷ [] → IsPolled view c.args.root why c.poll.new.rows))
    (λ end. IsPolled link.table.now c.args.root end c.poll.new.rows)
    (λ end h. h.replied agents lawful (are_replies h.events link c.poll.new.link h.in_turn h.begins) link.table.now refl)
    c.poll.ensures.happened
