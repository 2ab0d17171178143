use Rattle.std.proofs.Common.{◌≡◌, ◌∙◌, List, ap, rules}
use Rattle.std.specs.Prelude.{map}
use Rattle.snmp_io.specs.contracts.memory.MemoryOutputOutput.TheImpl.{ghosts as memory}
use Rattle.snmp_words.specs.Words.{snmpd, snmpwalk, texts_at}
use Rattle.snmp_tools.specs.Seen.{seen}
use Rattle.snmp_tools_tests.specs.Recorded.{happening_of}
use Rattle.snmp_tools_tests.specs.declared.both_ends.{recorded.Entry.Entry, replay.ReplayDoor.ReplayDoor}
use Rattle.snmp_tools_tests.proofs.{Prints.prints_rows, Prints.prints_walk, RecordedEnds.serves_in_turn}
use Rattle.snmp_tools_tests.proofs.both_ends.walk_and_serve.Goals as goal

pub returns-then-replay-clause-printed : goal.returns-then-replay-clause-printed
returns-then-replay-clause-printed g c = λ job words served rows ask faultless stated asks serve_faultless serve_stated.
    let files = g.F.Files.text_at c.args.files.now in
    let before = seen files c.args.links (g.O.Output.stream c.args.out.now) (g.E.Output.stream c.args.err.now) in
    let after = seen files c.tool-status.new.links (g.O.Output.stream c.tool-status.new.out) (g.E.Output.stream c.tool-status.new.err) in
    let server_before = seen files c.new-replay.result (memory.stream c.new-server_out.result) (memory.stream c.new-server_err.result) in
    let server_after = seen files c.tool-server_status.new.links (memory.stream c.tool-server_status.new.out)
    (memory.stream c.tool-server_status.new.err) in
    let zero_status : c.tool-server_status.result ≡ 0 = search rules in
    prints_rows before after c.tool-status.result server_before server_after c.tool-server_status.result
    (λ asking serving list for asked run. c.served_tables.ensures.printed (λ (door : ReplayDoor). door) asking before after c.tool-status.result
    serving server_before server_after c.tool-server_status.result list for serves_in_turn asked run) c.requires.new c.entries.ensures.faithful
    (ap (λ (es : List Entry). map happening_of es) c.new-replay.ensures.entries ∙ c.entries.ensures.run) zero_status c.if-replay.true job words
    served rows ask asks (c.tool-status.ensures.done job faultless stated)
    (c.tool-server_status.ensures.done (snmpd served) serve_faultless serve_stated)

pub returns-then-replay-clause-in_numbers : goal.returns-then-replay-clause-in_numbers
returns-then-replay-clause-in_numbers g c = λ words served root text in_numbers none holds faultless stated serve_faultless serve_stated.
    let files = g.F.Files.text_at c.args.files.now in
    let before = seen files c.args.links (g.O.Output.stream c.args.out.now) (g.E.Output.stream c.args.err.now) in
    let after = seen files c.tool-status.new.links (g.O.Output.stream c.tool-status.new.out) (g.E.Output.stream c.tool-status.new.err) in
    let server_before = seen files c.new-replay.result (memory.stream c.new-server_out.result) (memory.stream c.new-server_err.result) in
    let server_after = seen files c.tool-server_status.new.links (memory.stream c.tool-server_status.new.out)
    (memory.stream c.tool-server_status.new.err) in
    let zero_status : c.tool-server_status.result ≡ 0 = search rules in
    prints_walk before after c.tool-status.result server_before server_after c.tool-server_status.result
    (λ asking serving list for asked run. c.served_tables.ensures.printed (λ (door : ReplayDoor). door) asking before after c.tool-status.result
    serving server_before server_after c.tool-server_status.result list for serves_in_turn asked run) c.requires.new c.entries.ensures.faithful
    (ap (λ (es : List Entry). map happening_of es) c.new-replay.ensures.entries ∙ c.entries.ensures.run) zero_status c.if-replay.true words served
    root text (c.served_walks_in_numbers.ensures.asked words files served files (texts_at c.args.serving.now) root text in_numbers serve_stated none
    holds) (c.tool-status.ensures.done (snmpwalk words) faultless stated)
    (c.tool-server_status.ensures.done (snmpd served) serve_faultless serve_stated)
