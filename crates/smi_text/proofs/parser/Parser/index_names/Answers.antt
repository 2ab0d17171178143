use Rattle.std.proofs.Common.{◌∙◌, sym, length, arith}
use Rattle.smi_text.specs.private.Grammar.{index_names}
use Rattle.smi_text.proofs.Loops.{with_names-nil, index-next}
use Rattle.smi_text.proofs.parser.Parser.index_names.Goals as goal

pub each-init : goal.each-init
unfolding index_names
each-init c = (length c.args.self.now, omega arith, rw (c.list-names.ensures) (with_names-nil _))

pub each-preserved : goal.each-preserved
each-preserved c =
    let i = c.each.invariant in
    let s = index-next c.each.names.items i.0 c.each.self i.1 _ _ _ (sym c.at_word.ensures
    ∙ c.if-at_word.false) c.in_ok-name-2.ensures (sym c.at_kind.ensures ∙ c.if-not-at_kind.false) c.in_ok-sign.ensures.gives in
    rw (c.in_ok-keep-2.ensures.ok) (s.0, s.1, sym s.2 ∙ i.2)
