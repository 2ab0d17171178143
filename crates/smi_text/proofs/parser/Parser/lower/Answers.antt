use Rattle.std.proofs.Common.{true, [], ◌∷◌, refl, sym}
use denote.Enum.Bare.{same_true}
use Rattle.smi_text.specs.{contracts.lexer.token.TokenKind.the_type, lexer.Token.lexeme_of, private.Format.a_kind, private.Format.lower}
use Rattle.smi_text.specs.declared.lexer.token.TokenKind.TheVariants as K
use Rattle.smi_text.proofs.Lexical.{gives-name}
use Rattle.smi_text.proofs.parser.Parser.lower.Goals as goal

pub returns-in-Some : goal.returns-in-Some
unfolding lower
returns-in-Some c =
    let kind = same_true the_type tt _ _ (sym c.if-eq.ensures) in
    gives-name (a_kind K.Lower ∷ []) K.Lower (λ _. true)
    (lexeme_of c.in-Some.token) _ _ _ _ c.in-Some.ensures.some refl kind refl c.take_name.ensures.ok c.take_name.ensures.err
