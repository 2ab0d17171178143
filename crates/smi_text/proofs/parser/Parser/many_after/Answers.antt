use Rattle.std.proofs.{lemmas.Grind.common_steps, lemmas.Result.err_from_is_err_and}
use Rattle.std.proofs.Common.{sym, ◌∙◌, ap, arith, length, refl}
use Rattle.smi_text.specs.private.Format.{many, read_many, prepend}
use Rattle.smi_text.proofs.Many.{next-many, prepend-append, prepend-none, prepend-end}
use Rattle.smi_text.proofs.parser.Parser.many_after.Goals as goal

pub each-init : goal.each-init
unfolding many
each-init g c = (length c.args.self.now, omega arith, refl)

pub each-smaller : goal.each-smaller
each-smaller g c = c.in_ok-item.ensures.shorter

pub each-preserved : goal.each-preserved
each-preserved g c =
    let i = c.each.invariant in
    let s = next-many g.P.Production.format i.0 _ _ _ (sym c.is_ahead.ensures ∙ c.each-test.true)
    c.in_ok-item.ensures.gives i.1 c.in_ok-item.ensures.shorter in
    (s.0, s.1, rw (c.in_ok-keep.ensures.ok) (prepend-append _ _ _ ∙ ap (prepend c.each.items.items) (sym s.2) ∙ i.2))

pub returns : goal.returns
unfolding read_many
returns g c = rw (← c.each.invariant.2, sym c.is_ahead.ensures ∙ c.each-test.false, prepend-end, c.new.ensures)

pub returns-in_err-item : goal.returns-in_err-item
unfolding read_many
returns-in_err-item g c = grind (arith, common_steps, err_from_is_err_and, prepend-none)
