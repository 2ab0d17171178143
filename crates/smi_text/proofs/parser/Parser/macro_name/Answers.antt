use Rattle.std.proofs.Common.{refl, sym}
use denote.Enum.Bare.{same_true}
use Rattle.smi_text.specs.contracts.lexer.token.TokenKind.{the_type}
use Rattle.smi_text.specs.declared.lexer.token.TokenKind.TheVariants as K
use Rattle.smi_text.specs.{lexer.Token.lexeme_of, trees.Number.is_macro, private.Grammar.macro_name, private.Grammar.macro_words}
use Rattle.smi_text.proofs.Lexical.{gives-name}
use Rattle.smi_text.proofs.parser.Parser.macro_name.Goals as goal

pub returns-in-Some : goal.returns-in-Some
unfolding macro_name
returns-in-Some c =
    let kind = same_true the_type tt _ _ (sym c.if-eq.ensures) in
    gives-name macro_words K.Upper is_macro (lexeme_of c.in-Some.token) _ _ _ _ c.in-Some.ensures.some refl kind (rw
    (← c.is_macro.ensures) c.if-is_macro.true) c.take_name.ensures.ok c.take_name.ensures.err
