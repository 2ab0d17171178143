use Rattle.std.proofs.Common.{sym, subst, arith, None, Some}
use Rattle.smi_text.specs.lexer.LongestMatch.{IsLexemePrefix, literal_part}
use Rattle.smi_text.proofs.Parts.{literal_none, literal_ends, literal_prefix}
use Rattle.smi_text.proofs.lexer.scan.literal_rest.Goals as goal

pub returns-in_err-end : goal.returns-in_err-end
returns-in_err-end c = subst (IsLexemePrefix literal_part c.args.text.now) (sym c.from_residual.ensures) (literal_none c.args.text.now c.in_err-end.ensures)

pub returns-then-end-text : goal.returns-then-end-text
returns-then-end-text c = literal_ends c.args.text.now c.in_ok-end.end c.in_ok-end.ensures c.if-end-text.true

pub returns-in_err-kind : goal.returns-in_err-kind
returns-in_err-kind c =
    rw (c.from_residual-in_err-kind.ensures)
    (literal_prefix c.args.text.now c.in_ok-end.end c.in_ok-end.ensures (omega (arith, c.in_ok-end.ensures.0)) _
    c.split_at.ensures.front None c.in_err-kind.ensures)

pub returns : goal.returns
returns c =
    literal_prefix c.args.text.now c.in_ok-end.end c.in_ok-end.ensures (omega (arith, c.in_ok-end.ensures.0)) _ c.split_at.ensures.front
    (Some c.in_ok-kind.kind) c.in_ok-kind.ensures
