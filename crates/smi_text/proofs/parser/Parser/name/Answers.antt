use Rattle.std.proofs.Common.{not, [], ◌∷◌, refl, sym}
use denote.Enum.Bare.{same_true}
use Rattle.smi_text.specs.contracts.lexer.token.TokenKind.{the_type}
use Rattle.smi_text.specs.declared.lexer.token.TokenKind.TheVariants as K
use Rattle.smi_text.specs.{lexer.Token.lexeme_of, trees.Reserved.is_reserved, private.Format.a_name, private.Format.name}
use Rattle.smi_text.proofs.Lexical.{gives-name}
use Rattle.smi_text.proofs.parser.Parser.name.Goals as goal

pub returns-in-Some : goal.returns-in-Some
unfolding name
returns-in-Some c =
    let kind = same_true the_type tt _ _ (sym c.if-eq.ensures) in
    gives-name (a_name ∷ []) K.Upper (λ x. not (is_reserved x)) (lexeme_of c.in-Some.token) _ _ _ _ c.in-Some.ensures.some refl kind (rw
    (← c.is_reserved.ensures, c.if-not-is_reserved.true) refl) c.take_name.ensures.ok c.take_name.ensures.err
