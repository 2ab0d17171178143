-- If a text has no fault, then marks, which describe tokens, match its items if they match its tokens. Marks that match items match their tokens.
use Rattle.std.proofs.Common.{◌≡◌, List, [], ◌∷◌, ◌++◌, Some, None, Ok, Err, refl, ap}
use Rattle.std.specs.Prelude.{map}
use Rattle.smi_text.specs.lexer.Token.{Lexeme, Item, tokens_of, first_fault}
use Rattle.smi_text.specs.{trees.Mark.Mark, trees.Mark.TokensMatch, trees.Spelling.spelling, declared.trees.tree.Module.Module, private.Grammar.file}
use Rattle.smi_text.specs.private.Format.{ItemsMatch, begins}
use Rattle.smi_text.proofs.ProductionLaws.{file-law}

-- the items of tokens without a fault
abbrev pub all_tokens : List Lexeme → List Item
all_tokens ts = map (λ t. Ok t) ts

pub taken-tokens : (ms : List Mark) (ts rest : List Lexeme) → TokensMatch ms ts rest → ItemsMatch ms (all_tokens ts) (all_tokens rest)
taken-tokens [] ts rest h = ap all_tokens h
taken-tokens (m ∷ ms) [] rest h = h
taken-tokens (m ∷ ms) (t ∷ ts) rest h = (h.0, taken-tokens ms ts rest h.1)

pub tokens-read : (ms : List Module) (ts : List Lexeme) → TokensMatch (spelling ms) ts [] → file.read (all_tokens ts) ≡ Some (ms, [])
unfolding begins
tokens-read ms ts h = file-law.again ms (all_tokens ts) [] (taken-tokens (spelling ms) ts [] h) refl

-- if `items` contain no fault, then they are the items of their tokens
pub all-whole : (items : List Item) → first_fault items ≡ None → items ≡ all_tokens (tokens_of items)
all-whole [] w = refl
all-whole (Ok t ∷ items) w = ap (λ (us : List Item). Ok t ∷ us) (all-whole items w)
all-whole (Err f ∷ items) w = absurd (cc)

pub taken-matched : (ms : List Mark) (items rest : List Item) → ItemsMatch ms items rest → TokensMatch ms (tokens_of items) (tokens_of rest)
taken-matched [] items rest h = ap tokens_of h
taken-matched (m ∷ ms) (Ok t ∷ items) rest h = (h.0, taken-matched ms items rest h.1)
taken-matched (m ∷ ms) _ rest h = h

pub taken-no_fault : (ms : List Mark) (items : List Item) → ItemsMatch ms items [] → first_fault items ≡ None
taken-no_fault [] items h = ap first_fault h
taken-no_fault (m ∷ ms) (Ok t ∷ items) h = taken-no_fault ms items h.1
taken-no_fault (m ∷ ms) _ h = absurd h

-- if tokens match the marks `xs`, and the tokens after them match `ys`, then all of them match `xs` followed by `ys`
pub TokensMatch-append : (xs ys : List Mark) (ts mid rest : List Lexeme) → TokensMatch xs ts mid → TokensMatch ys mid rest → TokensMatch (xs ++ ys) ts rest
TokensMatch-append [] ys ts mid rest h k = rw h k
TokensMatch-append (x ∷ xs) ys [] mid rest h k = absurd h
TokensMatch-append (x ∷ xs) ys (t ∷ ts) mid rest h k = (h.0, TokensMatch-append xs ys ts mid rest h.1 k)
