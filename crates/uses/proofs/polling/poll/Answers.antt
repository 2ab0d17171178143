use Rattle.std.proofs.Common.{arith, ◌≡◌, ◌≤◌, ◌+◌, ℕ, List, length, sym, ap, subst}
use Rattle.snmp_wire.specs.Message.{VarBind}
use Rattle.snmp_walk.specs.declared.mode.Mode.{Mode}
use Rattle.snmp_walk.specs.{Facts.gets, RunResult.IsHonestFrom, WalkState.WalkState}
use Rattle.uses.specs.Polled.{IsPolled}
use Rattle.uses.proofs.PolledRows.{walked}
use Rattle.uses.proofs.polling.poll.Goals as goal

pub returns-in-Ok-clause-table : goal.returns-in-Ok-clause-table
returns-in-Ok-clause-table g c =
    let run = c.run_walk.ensures.ran in
    let rows = rw c.requires.empty at (c.appended_bindings.ensures c.args.rows.now run.rows run.refused c.run_walk.new.sink c.run_walk.result run.took) in
    (walked g.L.Link g.met.L.Link.lawful c.instances_below.ensures.from_root c.args.link.now c.run_walk.new.link _ c.args.root c.args.community.now
    c.args.method c.args.first_id c.in-Ok.core c.in-Ok.ensures.ok run.rows run.refused c.run_walk.result run.facts
    (λ view why. IsPolled view c.args.root why c.run_walk.new.sink)
    (λ view why good begins. subst (λ (l : List VarBind). IsPolled view c.args.root why l) (sym rows)
    (c.beginnings_are_polled.ensures view c.args.root why run.rows good begins))).0

pub returns-in-Ok-clause-happened : goal.returns-in-Ok-clause-happened
returns-in-Ok-clause-happened g c =
    let run = c.run_walk.ensures.ran in
    let rows = rw c.requires.empty at (c.appended_bindings.ensures c.args.rows.now run.rows run.refused c.run_walk.new.sink c.run_walk.result run.took) in
    (walked g.L.Link g.met.L.Link.lawful c.instances_below.ensures.from_root c.args.link.now c.run_walk.new.link _ c.args.root c.args.community.now
    c.args.method c.args.first_id c.in-Ok.core c.in-Ok.ensures.ok run.rows run.refused c.run_walk.result run.facts
    (λ view why. IsPolled view c.args.root why c.run_walk.new.sink)
    (λ view why good begins. subst (λ (l : List VarBind). IsPolled view c.args.root why l) (sym rows)
    (c.beginnings_are_polled.ensures view c.args.root why run.rows good begins))).1

pub returns-in-Ok-clause-next : goal.returns-in-Ok-clause-next
returns-in-Ok-clause-next g c = λ honest.
    let run = c.run_walk.ensures.ran in
    let ok = c.in-Ok.ensures.ok in
    let link = c.args.link.now in
    let rows = rw c.requires.empty at (c.appended_bindings.ensures c.args.rows.now run.rows run.refused c.run_walk.new.sink c.run_walk.result run.took) in
    let id : c.in-Ok.core.id ≡ c.args.first_id = ap (λ (w : WalkState). w.id) ok in
    let from = subst (λ (i : ℕ). IsHonestFrom g.L.Link i link) (sym id) honest in
    let requests = run.facts.moved.requests in
    let few : length requests ≤ length run.rows + 1 + 0 =
    subst (λ (m : Mode). length requests ≤ length run.rows + 1 + gets m) (ap (λ (w : WalkState). w.mode) ok) run.facts.few_of_rows in
    let count : length c.run_walk.new.sink ≡ length run.rows = ap length rows in (
      run.facts.moved.moved.honest honest.0,
      c.lower_ids.ensures (g.L.Link.traffic c.run_walk.new.link).sent (c.in-Ok.core.id + length requests)
          (c.args.first_id + length c.run_walk.new.sink + 1) (omega (arith, id, few, count))
          (run.facts.later (g.met.L.Link.recording link honest.0) from.1),
    )
