use Rattle.std.proofs.{lemmas.Grind.common_steps, lemmas.Result.err_from_is_err_and}
use Rattle.std.proofs.Common.{◌≡◌, [], ℕ, List, length, ◌∙◌, subst, Bool, true, eqb, eqb-true, arith}
use Rattle.snmp_agent.proofs.DraftLines.{IsReadTo, all_read, halted_at, read_more, read_nothing}
use Rattle.snmp_agent.proofs.table.builder.TableBuilder.read.Goals as goal

pub lines-init : goal.lines-init
lines-init g c = grind (arith, common_steps, read_nothing)

pub lines-preserved : goal.lines-preserved
lines-preserved g c =
    let format = g.F.LineFormat.format c.args.format.now in
    let read = c.lines.invariant.0 in (
      read_more format c.args.text.now c.lines.rest.now c.split_line.result.0.now
          c.split_line.result.1.now c.lines.draft c.lines.number read c.split_line.ensures.lines
          c.add.new.self c.settle_in_time.new.self c.split_line.ensures.shorter
          (c.in_ok-add.ensures.draft read.done read.holds)
          (c.settle_in_time.ensures.moved c.if-not-settle_in_time.false)
          c.settle_in_time.ensures.objects,
      c.settle_in_time.ensures.exact ∙ c.add.ensures.exact ∙ c.lines.invariant.1,
    )

pub returns-in_err-add-clause-halt : goal.returns-in_err-add-clause-halt
returns-in_err-add-clause-halt g c =
    let format = g.F.LineFormat.format c.args.format.now in
    let read = c.lines.invariant.0 in
    let p = err_from_is_err_and c.from_residual.result c.from_residual.ensures.1 in
    let stops = halted_at format c.args.text.now c.lines.rest.now c.split_line.result.0.now
    c.split_line.result.1.now c.lines.draft c.lines.number read c.split_line.ensures.lines
    c.in_err-add.field-0.0 (c.in_err-add.ensures.draft read.done read.holds) in
    rw (p.1, p.2, ← c.lines.invariant.1) stops

nothing_left : (rest : List ℕ) (b : Bool) → b ≡ eqb (length rest) 0 → b ≡ true → rest ≡ []
nothing_left rest b is h = grind (arith, common_steps, eqb-true)

pub returns-then-settle-clause-draft : goal.returns-then-settle-clause-draft
returns-then-settle-clause-draft g c =
    let format = g.F.LineFormat.format c.args.format.now in
    let end : c.lines.rest.now ≡ [] = nothing_left c.lines.rest.now c.is_empty.result
    c.is_empty.ensures c.lines-test.false in
    all_read format c.args.text.now c.lines.draft c.settle.new.self c.lines.number
    (subst (λ (r : List ℕ). IsReadTo format c.args.text.now r c.lines.draft c.lines.number) end
    c.lines.invariant.0) (c.settle.ensures.moved c.if-settle.true) (c.settle.ensures.none c.if-settle.true)
    c.settle.ensures.objects
