use Rattle.std.proofs.{lemmas.Grind.common_steps, lemmas.Bool.eqb-true}
use Rattle.std.proofs.Common.{◌≡◌, ◌<◌, ◌+◌, sym, ap, List, [], ◌∷◌, Err, Ok, length, subst, arith, take, eq-eqb}
use Rattle.smi_text.specs.{lexer.Token.Item, lexer.Lexeme.IsLexeme, lexer.Lexeme.lexeme, lexer.LongestMatch.items_at}
use Rattle.smi_text.proofs.LexedItems.{items-empty, items-nothing, next_ends, next_faults, next_gives_token}
use Rattle.smi_text.proofs.PartLaws.{part_is}
use Rattle.smi_text.proofs.lexer.lexer.LexerIterator.next.Goals as goal
use Rattle.smi_text.proofs.lexer.lexer.LexerIterator.next.Goals.{After-fault_at, After-lines_in}

-- after an item is returned, fewer items are left
fewer : (old new : List Item) (item : Item) → old ≡ item ∷ new → length new < length old
fewer old new item e = omega (arith, ap length e)

pub returns-then-is_empty-clause-steps : goal.returns-then-is_empty-clause-steps
returns-then-is_empty-clause-steps c = grind (arith, common_steps, eqb-true, next_ends, items-empty)

fault : (c : After-fault_at) → c.args.self.now ≡ Err c.fault_at.result ∷ items_at 0 c.self.inside.at c.self.inside.lines []
fault c = grind (arith, common_steps, next_faults, eq-eqb, items-nothing)

pub returns-in_default-clause-steps : goal.returns-in_default-clause-steps
returns-in_default-clause-steps c = fault (goal.at.returns-in_default-clause-steps c).After-fault_at

pub returns-in_default-clause-goes : goal.returns-in_default-clause-goes
returns-in_default-clause-goes c =
    record { on = λ _. (tt, tt, fewer _ _ _ (fault (goal.at.returns-in_default-clause-goes c).After-fault_at)); keeps = tt; rests = λ _. tt }

pub invariant_of-result : goal.invariant_of-result
invariant_of-result c =
    let text = c.split_at.result.1.now in
    record {
      lexical = ∣ subst (IsLexeme c.in-Some.kind) (sym c.split_at-2.ensures.front) (part_is (take c.in-Some.len text)
          (lexeme c.in-Some.kind) c.in-Some.ensures.reads) ∣₁;
    }

token : (c : After-lines_in) → c.args.self.now
    ≡ Ok (record {
      kind = c.in-Some.kind;
      span = record { start = c.self.inside.at + c.gaps_at-gaps.result.0; «end» = (c.self.inside.at + c.gaps_at-gaps.result.0) + c.in-Some.len };
      text = c.split_at-2.result.0.now;
      line = (c.self.inside.lines + c.gaps_at-gaps.result.1) + 1;
    })
    ∷ items_at 0 ((c.self.inside.at + c.gaps_at-gaps.result.0) + c.in-Some.len)
    ((c.self.inside.lines + c.gaps_at-gaps.result.1) + c.lines_in.result) c.split_at-2.result.1.now
token c =
    let gaps = c.gaps_at-gaps in
    let text = c.split_at.result.1.now in
    let prefix = c.in-Some.ensures in
    let parts = c.split_at-2.ensures in
    let is_lexeme : IsLexeme c.in-Some.kind c.split_at-2.result.0.now =
    rw parts.front (part_is (take c.in-Some.len text) (lexeme c.in-Some.kind) prefix.reads) in
    let returned = next_gives_token c.self.inside.rest.now text c.self.inside.at c.self.inside.lines gaps.result.0 gaps.result.1 gaps.ensures.skips
    c.split_at.ensures.back c.in-Some.kind c.in-Some.len prefix in
    cc (c.self.view_is, returned, parts.front, parts.back, c.lines_in.ensures.count is_lexeme)

pub returns-clause-steps : goal.returns-clause-steps
returns-clause-steps c = token (goal.at.returns-clause-steps c).After-lines_in

pub returns-clause-goes : goal.returns-clause-goes
returns-clause-goes c =
    record { on = λ _. (tt, tt, fewer _ _ _ (token (goal.at.returns-clause-goes c).After-lines_in)); keeps = tt; rests = λ _. tt }
