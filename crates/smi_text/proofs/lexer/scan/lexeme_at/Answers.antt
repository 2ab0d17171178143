use Rattle.std.proofs.{lemmas.Grind.common_steps, Common.◌≡◌, Common.ℕ, Common.List, Common.[], Common.length, Common.arith}
use Rattle.smi_text.proofs.Parts.{none_after_first, prefix_after_first, no_lexeme_of_nothing}
use Rattle.smi_text.proofs.lexer.scan.lexeme_at.Goals as goal

empty_list : (s : List ℕ) → length s ≡ 0 → [] ≡ s
empty_list s h = grind (arith, common_steps)

pub returns-in_err-first : goal.returns-in_err-first
returns-in_err-first c = grind (arith, common_steps, empty_list, no_lexeme_of_nothing)

pub returns-in_err-kind : goal.returns-in_err-kind
returns-in_err-kind c =
    rw (c.from_residual-in_err-kind.ensures, c.in_ok-first.ensures.cases.0)
    (none_after_first c.in_ok-first.first.now c.in_ok-first.rest.now _ c.class_of_octet.ensures c.in_err-kind.ensures)

pub returns : goal.returns
returns c =
    rw (c.in_ok-first.ensures.cases.0)
    (prefix_after_first c.in_ok-first.first.now c.in_ok-first.rest.now _ c.class_of_octet.ensures _ c.in_ok-kind.len c.in_ok-kind.ensures)
