use Rattle.std.proofs.Common.{◌≡◌, ◌∙◌, ◌+◌, ◌<◌, ℕ, suc, List, ◌∷◌, ap, arith, drop, drop-cons, get_or, length, sym, rules}
use Rattle.std.proofs.lemmas.Bool.{ltb-true}
use Rattle.std.specs.Prelude.{map}
use Rattle.snmp_agent.specs.Event.{sent}
use Rattle.snmp_walk.specs.Network.{Happening, at_agents, of_agents}
use Rattle.snmp_tools_tests.specs.Recorded.{happening_of, passes}
use Rattle.snmp_tools_tests.specs.declared.both_ends.recorded.{Entry.Entry, Passing.Passing}
use Rattle.snmp_tools_tests.specs.declared.both_ends.recorded.Passing.TheVariants as passing
use Rattle.snmp_tools_tests.proofs.both_ends.replay.ReplayDoorEndpoint.reply.Goals as goal

-- the next entry of the record is the datagram that is sent
pub returns-in-ReplySent-clause-happens : goal.returns-in-ReplySent-clause-happens
returns-in-ReplySent-clause-happens c =
    let entries : List Entry = c.args.self.now.entries.now in
    let used = c.args.self.now.used in
    let entry : Entry = c.in-Some.entry.now in
    let within : used < length entries = ltb-true _ _ (sym c.in-Some.ensures.lookup.0) in
    let read : entry ≡ get_or entries used entry = c.in-Some.ensures.lookup.1 in
    let one_more : suc used ≡ used + 1 = omega arith in
    let next : drop used entries ≡ entry ∷ drop (used + 1) entries =
    drop-cons entries used entry within ∙ ap (λ (e : Entry). e ∷ drop (suc used) entries) (sym read)
    ∙ ap (λ (n : ℕ). entry ∷ drop n entries) one_more in
    let same : entry.octets.items ≡ c.args.datagram.now = search rules in
    let is : happening_of entry ≡ at_agents (sent tt c.args.datagram.now) =
    ap (λ (p : Passing). passes p entry.octets.items) c.in-ReplySent.is ∙ ap (λ (d : List ℕ). passes passing.ReplySent d) same in
    ap (λ (es : List Entry). of_agents (map happening_of es)) next
    ∙ ap (λ (h : Happening (Unit {0})). of_agents (h ∷ map happening_of (drop (used + 1) entries))) is
