use Rattle.std.proofs.Common.{◌≡◌, inl, subst, sym, ℕ, List, true}
use Rattle.snmp_words.specs.{Command.is_taken, Words.StateJob, Words.snmpwalk}
use Rattle.snmp_tools.specs.{load.Loaded.any_load, private.Planned.numeric_walk, Seen.seen}
use Rattle.snmp_tools.proofs.Jobs.{fault_is_reported, job_is_done}
use Rattle.snmp_tools.proofs.entry.tool.Goals as goal

pub returns-clause-done : goal.returns-clause-done
returns-clause-done g c =
    job_is_done g.L.Links g.L.Wire.Link any_load c.one_job.ensures _ _ _ _ _ _ c.read_words.result c.read_words.ensures.job c.read_words.ensures.faultless
    c.read_words.ensures.taken c.read_words.ensures.refused c.read_words.ensures.text c.do_words.ensures.done c.do_words.ensures.shown

pub returns-clause-rows_printed : goal.returns-clause-rows_printed
returns-clause-rows_printed g c = λ path root text words holds.
    let walk = snmpwalk (numeric_walk path root) in
    let taken = subst (λ (ws : List (List ℕ)). is_taken ws ≡ true) (sym words) (c.table_walks.ensures.taken path root) in
    let stated = subst (λ (ws : List (List ℕ)). StateJob ws walk) (sym words) (c.table_walks.ensures.stated path root) in
    let done = job_is_done g.L.Links g.L.Wire.Link any_load c.one_job.ensures _
    (seen (g.F.Files.text_at c.args.files.now) c.args.links.now (g.O.Output.stream c.args.out.now) (g.E.Output.stream c.args.err.now)) _ _ _ _
    c.read_words.result c.read_words.ensures.job c.read_words.ensures.faultless c.read_words.ensures.taken c.read_words.ensures.refused
    c.read_words.ensures.text c.do_words.ensures.done c.do_words.ensures.shown walk (inl taken) stated in
    c.table_walks.ensures.printed _ path root text _ _ _ _ _ holds done.rows_written

pub returns-clause-help_or_mistake : goal.returns-clause-help_or_mistake
returns-clause-help_or_mistake g c =
    fault_is_reported g.L.Links g.L.Wire.Link any_load c.one_job.ensures _
    (seen (g.F.Files.text_at c.args.files.now) c.args.links.now (g.O.Output.stream c.args.out.now) (g.E.Output.stream c.args.err.now)) _ _ _ _
    c.read_words.result c.read_words.ensures.job c.read_words.ensures.faultless c.read_words.ensures.taken c.read_words.ensures.refused
    c.read_words.ensures.text c.do_words.ensures.done c.do_words.ensures.shown
