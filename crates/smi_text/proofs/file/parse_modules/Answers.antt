use Rattle.std.proofs.Common.{arith, ◌≡◌, ℕ, List, [], Some, ◌∙◌, sym, ap}
use Rattle.std.proofs.lemmas.Grind.{common_steps}
use Rattle.smi_text.specs.{lexer.Token.Item, lexer.Token.tokens_of, lexer.Lexes.Lexes, declared.error.ParseError.ParseError}
use Rattle.smi_text.specs.{declared.trees.tree.Module.Module, trees.Mark.TokensMatch, trees.Spelling.spelling, private.Grammar.file}
use Rattle.smi_text.specs.declared.error.ParseError.TheVariants as E
use Rattle.smi_text.specs.Text.{AreSpelledBy, HasNoDoubles, IsCause}
use Rattle.smi_text.specs.private.Returned.{ReadsModules, ModulesFault, IsLexFault, IsCauseOf}
use Rattle.smi_text.proofs.{Laws.some-inj, ProductionLaws.file-law, Doubles.file-twice}
use Rattle.smi_text.proofs.Tokens.{all-whole, taken-matched, taken-no_fault, tokens-read}
use Rattle.smi_text.proofs.file.parse_modules.Goals as goal

module _ (text : List ℕ) (items : List Item) (lexed : Lexes [] text items) (sole : (others : List Item) → Lexes [] text others → others ≡ items) where
  spelled : (ms : List Module) → AreSpelledBy ms text → TokensMatch (spelling ms) (tokens_of items) []
  spelled ms s = rw (sole s.items s.lexed) at s.spelled

  reads : (ms : List Module) → AreSpelledBy ms text → file.read items ≡ Some (ms, [])
  reads ms s = rw (all-whole items (rw (sole s.items s.lexed) at s.whole)) (tokens-read ms (tokens_of items) (spelled ms s))

  found : (ms : List Module) → ReadsModules ms items → AreSpelledBy ms text × HasNoDoubles ms
  found ms r =
      let taken = file-law.takes items [] ms r.read in (
        record {
          items = items;
          lexed = lexed;
          whole = taken-no_fault (spelling ms) items taken;
          spelled = taken-matched (spelling ms) items [] taken;
        },
        r.distinct,
      )

  only : (ms found : List Module) → ReadsModules found items → AreSpelledBy ms text → found ≡ ms
  only ms found r s = ap (λ (p : List Module × List Item). p.0) (some-inj {A = List Module × List Item} (found, []) (ms, []) (sym r.read ∙ reads ms s))

  lex-cause : (error : ParseError) → ((ms : List Module) → file.read items ≡ Some (ms, []) → ⊥) → IsLexFault error text → IsCause error text
  lex-cause (E.Lex fault) f e = e
  lex-cause (E.Syntax line) f e = λ ms s. f ms (reads ms s)
  lex-cause _ f e = absurd e

  cause : (stop error : ParseError) → ModulesFault stop items → IsCauseOf stop error text → IsCause error text
  cause (E.Lex fault) error f e = lex-cause error f e
  cause (E.Syntax line) error f e = rw e (λ ms s. f ms (reads ms s))
  cause (E.DoubleName line) error f e = rw e (record { items = items; lexed = lexed; again = f })
  cause E.Memory error f e = rw e tt

  refused : (stop error : ParseError) → ModulesFault stop items → IsCauseOf stop error text → (ms : List Module) → AreSpelledBy ms text → HasNoDoubles ms
      → error ≡ E.Memory
  refused stop error f e ms s n = grind (arith, common_steps, reads, file-twice, tokens-read, spelled)

pub returns-in-Ok-clause-found : goal.returns-in-Ok-clause-found
returns-in-Ok-clause-found c = grind (arith, common_steps, found, only)

pub returns-in-Ok-clause-only : goal.returns-in-Ok-clause-only
returns-in-Ok-clause-only c =
    let start = c.new-parser in
    λ ms s n. only c.args.text.now start.result start.ensures.items start.ensures.only ms c.in-Ok.modules.items c.in-Ok.ensures.ok s

pub returns-in-Err-clause-only : goal.returns-in-Err-clause-only
returns-in-Err-clause-only c =
    let start = c.new-parser in
    λ ms s n. refused c.args.text.now start.result start.ensures.items start.ensures.only c.in-Err.stop c.cause_of.result c.in-Err.ensures.fault
    c.cause_of.ensures ms s n

pub returns-in-Err-clause-cause : goal.returns-in-Err-clause-cause
returns-in-Err-clause-cause c = grind (arith, common_steps, cause, only)
