use Rattle.std.proofs.Common.{◌∙◌}
use Rattle.uses.specs.Columns.{AreCounted}
use Rattle.uses.proofs.CountedRows.{counted, counts_of_walk}
use Rattle.uses.proofs.PolledRows.{walked}
use Rattle.uses.proofs.columns.count_columns.Goals as goal

pub returns-in-Ok-clause-rising : goal.returns-in-Ok-clause-rising
returns-in-Ok-clause-rising g c =
    let run = c.run_walk-end.ensures.ran in
    let are = counts_of_walk c.args.entry c.new-counts.result c.run_walk-end.new.sink run.rows run.refused c.run_walk-end.result
    (c.new-counts.ensures.entry ∙ c.copy.ensures) c.new-counts.ensures.none run.took in
    (run.rows, (c.parts_of_lists.ensures.ordered run.rows run.refused run.facts.ends.rising).0, are)

pub returns-in-Ok-clause-table : goal.returns-in-Ok-clause-table
returns-in-Ok-clause-table g c =
    let run = c.run_walk-end.ensures.ran in
    let are = counts_of_walk c.args.entry c.new-counts.result c.run_walk-end.new.sink run.rows run.refused c.run_walk-end.result
    (c.new-counts.ensures.entry ∙ c.copy.ensures) c.new-counts.ensures.none run.took in
    (walked g.L.Link g.met.L.Link.lawful c.instances_below.ensures.from_root c.args.link.now c.run_walk-end.new.link _ c.args.entry c.args.community.now
    c.args.method c.args.first_id c.in-Ok.core c.in-Ok.ensures.ok run.rows run.refused c.run_walk-end.result run.facts
    (λ view why. AreCounted view c.args.entry why c.run_walk-end.new.sink)
    (λ view why good begins. counted c.names_below.ensures view c.args.entry why run.rows c.run_walk-end.new.sink are begins)).0

pub returns-in-Ok-clause-happened : goal.returns-in-Ok-clause-happened
returns-in-Ok-clause-happened g c =
    let run = c.run_walk-end.ensures.ran in
    let are = counts_of_walk c.args.entry c.new-counts.result c.run_walk-end.new.sink run.rows run.refused c.run_walk-end.result
    (c.new-counts.ensures.entry ∙ c.copy.ensures) c.new-counts.ensures.none run.took in
    (walked g.L.Link g.met.L.Link.lawful c.instances_below.ensures.from_root c.args.link.now c.run_walk-end.new.link _ c.args.entry c.args.community.now
    c.args.method c.args.first_id c.in-Ok.core c.in-Ok.ensures.ok run.rows run.refused c.run_walk-end.result run.facts
    (λ view why. AreCounted view c.args.entry why c.run_walk-end.new.sink)
    (λ view why good begins. counted c.names_below.ensures view c.args.entry why run.rows c.run_walk-end.new.sink are begins)).1
