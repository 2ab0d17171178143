-- Two loops read the names of an INDEX, and tokens between braces. A step of a loop doesn't change what was read so far followed by what will still be read.
use Rattle.std.proofs.Common.{◌≡◌, ℕ, zero, suc, ◌+◌, ◌<◌, ◌≤◌, true, false, List, [], ◌∷◌, ◌++◌, length, Some, None, Ok, refl, sym, arith}
use Rattle.std.proofs.Common.{append_assoc}
use Rattle.std.proofs.lemmas.Grind.{common_steps}
use Rattle.std.specs.Prelude.{◌==◌, codes}
use Rattle.smi_text.specs.{declared.lexer.token.TokenKind.TokenKind, lexer.Token.Lexeme, lexer.Token.Item, declared.trees.tree.TokenText.TokenText}
use Rattle.smi_text.specs.{declared.trees.tree.IndexParts.IndexParts, declared.trees.names.Name.Name}
use Rattle.smi_text.specs.declared.lexer.token.TokenKind.TheVariants as K
use Rattle.smi_text.specs.private.Format.{Parsed, a_word, a_kind, begins, prepend, lower, token, token_ahead}
use Rattle.smi_text.specs.private.Grammar.{read_index, with_names, depth_after, is_outside, kept_text, read_balanced}
use Rattle.smi_text.proofs.{Laws.lower-law, Laws.token-law, Many.reading-shorter, Many.prepend-append, Many.prepend-end}

-- ---- the names of an index

pub with_names-nil : (r : Parsed IndexParts) → with_names [] r ≡ r
unfolding with_names
with_names-nil r = grind (arith, common_steps)

with_names-append : (xs ys : List Name) (r : Parsed IndexParts) → with_names (xs ++ ys) r ≡ with_names xs (with_names ys r)
unfolding with_names
with_names-append xs ys r = grind (arith, common_steps, append_assoc)

pub index-next : (names : List Name) (n : ℕ) (ts : List Item) → length ts ≤ n → (x : Name) (rest after : List Item)
    → begins (a_word (codes "IMPLIED") ∷ []) ts ≡ false → lower.read ts ≡ Some (x, rest)
    → begins (a_kind K.Comma ∷ []) rest ≡ true → (token K.Comma).read rest ≡ Some (tt, after)
    → (m : ℕ) × (length after ≤ m) × (with_names names (read_index (suc n) ts) ≡ with_names (names ++ x ∷ []) (read_index (suc m) after))
unfolding read_index lower token
index-next names zero ts h x rest after b e c t = absurd (omega (arith, reading-shorter lower-law refl x ts rest e))
index-next names (suc m) ts h x rest after b e c t = (
  m,
  omega (arith, reading-shorter lower-law refl x ts rest e, reading-shorter (token-law K.Comma) refl tt rest after t),
  rw (b, e, c, t) (sym (with_names-append names (x ∷ []) (read_index (suc m) after))),
)

-- ---- tokens between braces

pub depth_after-le : (k : TokenKind) (depth : ℕ) → depth_after k depth ≤ depth + 1
depth_after-le k depth = grind arith

pub balanced_tokens-next : (xs : List TokenText) (depth : ℕ) (t : Lexeme) (ts : List Item) → is_outside t.kind depth ≡ false
    → prepend xs (read_balanced depth (Ok t ∷ ts)) ≡ prepend (xs ++ kept_text t ∷ []) (read_balanced (depth_after t.kind depth) ts)
unfolding read_balanced
balanced_tokens-next xs depth t ts o = rw o (sym (prepend-append xs (kept_text t ∷ []) (read_balanced (depth_after t.kind depth) ts)))

pub balanced_tokens-open : (xs : List TokenText) (depth : ℕ) (items : List Item) → 0 < depth → token_ahead items ≡ None
    → prepend xs (read_balanced depth items) ≡ None
unfolding read_balanced prepend
balanced_tokens-open xs depth (Ok t ∷ items) h n = absurd (cc)
balanced_tokens-open xs depth _ h n = let e : (depth == 0) ≡ false = grind arith in rw e refl

pub balanced_tokens-outside : (xs : List TokenText) (depth : ℕ) (t : Lexeme) (ts : List Item) → is_outside t.kind depth ≡ true
    → prepend xs (read_balanced depth (Ok t ∷ ts)) ≡ Some (xs, Ok t ∷ ts)
unfolding read_balanced
balanced_tokens-outside xs depth t ts o = rw o (prepend-end xs (Ok t ∷ ts))

pub balanced_tokens-closed : (xs : List TokenText) (depth : ℕ) (items : List Item) → depth ≡ 0 → token_ahead items ≡ None
    → prepend xs (read_balanced depth items) ≡ Some (xs, items)
unfolding read_balanced
balanced_tokens-closed xs depth (Ok t ∷ items) e n = absurd (cc)
balanced_tokens-closed xs depth _ e n = rw e (prepend-end xs _)
