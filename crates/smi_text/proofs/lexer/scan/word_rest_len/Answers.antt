use Rattle.std.proofs.lemmas.Grind.{common_steps}
use Rattle.std.proofs.Common.{◌≡◌, ℕ, ◌+◌, ◌<◌, ◌≤◌, subst, length, List, get_or, false, arith}
use Rattle.smi_text.specs.{lexer.Lexeme.is_word_octet, lexer.Lexeme.is_word_rest, lexer.LongestMatch.GoesOn, lexer.LongestMatch.IsRunBetween}
use Rattle.smi_text.proofs.Scans.{goes_from_start, hyphen_step, word_ends, word_run_goes}
use Rattle.smi_text.proofs.lexer.scan.word_rest_len.Goals as goal

-- a hyphen and the run of one or more letters, digits and `_` after it continue the rest of a word
part_goes : (text : List ℕ) (n to : ℕ) → get_or text n 0 ≡ 45 → n + 1 < to → IsRunBetween is_word_octet text (n + 1) to
    → GoesOn is_word_rest text n → GoesOn is_word_rest text to
part_goes text n to hyphen some run goes =
    let within : to ≤ length text = run.within in
    word_run_goes text (n + 2) to (hyphen_step text n (omega arith) hyphen (run.passes (n + 1) (omega arith) some) goes)
    (record { ordered = omega arith; within = within; passes = λ k from below. run.passes k (omega arith) below; stops = run.stops })

pub parts-init : goal.parts-init
parts-init c =
    let run = c.word_run_end-n.ensures in
    record { goes = word_run_goes c.args.text.now 0 c.word_run_end-n.result (goes_from_start is_word_rest c.args.text.now) run; stops = run.stops }

pub parts-preserved : goal.parts-preserved
parts-preserved c =
    let text = c.args.text.now in
    let n = c.parts.n in
    let run = c.part_end-end.ensures in
    record {
      goes = part_goes text n c.part_end-end.result c.if-text-n-eq45.true (omega (arith, run.ordered, c.if-end-n.false)) run c.parts.invariant.goes;
      stops = run.stops;
    }

pub returns-then-end-n : goal.returns-then-end-n
returns-then-end-n c =
    let text = c.args.text.now in
    let n = c.parts.n in
    let run = c.part_end-end.ensures in
    word_ends text n c.parts.invariant.stops
    (λ more hyphen. subst (λ m. m < length text → is_word_octet (get_or text m 0) ≡ false) c.if-end-n.true run.stops more)
    c.parts.invariant.goes

pub returns-else-text-n-eq45 : goal.returns-else-text-n-eq45
returns-else-text-n-eq45 c =
    word_ends c.args.text.now c.parts.n c.parts.invariant.stops (λ more hyphen. absurd (c.if-text-n-eq45.false hyphen)) c.parts.invariant.goes

pub returns-after-parts : goal.returns-after-parts
returns-after-parts c = grind (arith, common_steps, word_ends)
