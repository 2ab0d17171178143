use Rattle.smi_text.proofs.Scans.{comment_prefix}
use Rattle.smi_text.proofs.lexer.scan.comment_rest_len.Goals as goal

pub returns : goal.returns
returns c =
    comment_prefix c.args.text.now c.split_at.result.1.now c.split_at-2.result.1.now _ _ _ c.hyphens_len-opening.ensures c.split_at.ensures.back
    c.remark_len-len.ensures.within c.remark_len-len.ensures.same c.remark_len-len.ensures.ends c.split_at-2.ensures.back c.hyphens_len.ensures
