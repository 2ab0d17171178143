-- If a token has the kind of a sign, then its text is the only text of that kind. A step that stores the name ahead returns what the format of names reads.
use Rattle.std.proofs.Common.{arith, ◌≡◌, ℕ, Bool, true, List, ◌∷◌, Some, Result, Ok, Err, sym, ◌∙◌, ap}
use Rattle.std.proofs.{lemmas.Grind.common_steps, lemmas.Bool.and_from, lemmas.Bool.false≢true, Math.Bool.Bool-set, Math.Logic.∥∥₁_elim}
use Rattle.std.specs.Prelude.{drop, IfOk, IfErr}
use Rattle.smi_text.specs.{declared.lexer.token.TokenKind.TokenKind, lexer.Lexeme.IsLexeme, lexer.Token.Lexeme, lexer.Token.Item}
use Rattle.smi_text.specs.{lexer.Lexeme.sign_text, trees.Mark.same_text, declared.trees.names.Name.Name, private.Kinds.is_sign_kind}
use Rattle.smi_text.specs.{declared.error.Stop.Stop, declared.error.Stop.TheVariants.Memory, private.Returned.ReturnsReading}
use Rattle.smi_text.specs.{private.Returned.is_memory, private.Format.Ahead, private.Format.name_of, private.Format.name_where, private.Format.token}
use Rattle.smi_text.proofs.{Marks.same_kind-same, Marks.same_text-same, NameLaws.name_of-octets}

sign-of : (k : TokenKind) (x : List ℕ) → is_sign_kind k ≡ true → IsLexeme k x → x ≡ sign_text k
sign-of k x e h = grind (arith, common_steps)

-- if a token has the kind of a sign, then its text is the only text of that kind
sign_is : (k : TokenKind) (x : List ℕ) → is_sign_kind k ≡ true → ∥ IsLexeme k x ∥₁ → same_text x (sign_text k) ≡ true
sign_is k x e t = ∥∥₁_elim t (Bool-set (same_text x (sign_text k)) true) (λ h. rw (sign-of k x e h) (same_text-same (sign_text k)))

pub sign_read : (k : TokenKind) (t : Lexeme) (ts : List Item) → t.kind ≡ k → is_sign_kind k ≡ true → ∥ IsLexeme t.kind t.text ∥₁
    → (token k).read (Ok t ∷ ts) ≡ Some (tt, ts)
unfolding token
sign_read k t ts e s l = grind (arith, common_steps, sign_is, and_from, same_kind-same)

-- if `n` is a name with the octets `x`, then `name_of x` is `n`
pub name_at : (x : List ℕ) (n : Name) → n.octets ≡ x → name_of x ≡ Some n
name_at x n e = ap name_of (sym e) ∙ name_of-octets n

-- if the token ahead is of kind `k` and passes the test, then a step that stores its name returns what the format reads, unless memory runs out
pub gives-name : (cs : List Ahead) (k : TokenKind) (ok : List ℕ → Bool) (t : Lexeme) (ts now rest : List Item) (r : Result Name Stop) → now ≡ Ok t ∷ ts
    → ts ≡ drop 1 now → t.kind ≡ k → ok t.text ≡ true
    → IfOk r (λ x. (name_of t.text ≡ Some x) × (rest ≡ drop 1 now)) → IfErr r (λ e. e ≡ Memory) → ReturnsReading r rest ((name_where cs k ok).read now)
gives-name cs k ok t ts now rest (Ok x) is tail e o h m = grind (arith, common_steps, and_from, same_kind-same)
gives-name cs k ok t ts now rest (Err e) is tail f o h m = λ n. absurd (false≢true (sym n ∙ ap is_memory m))
