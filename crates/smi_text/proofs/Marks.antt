-- If a test of a token's kind or text passes, then the kind or text is as tested. Items match one list of marks (which describe tokens) followed by another if
-- and only if they match the first list, and the items after those match the second. If two lists of conditions are apart, no token meets a condition of each.
use Rattle.std.proofs.Common.{arith, ◌≡◌, ℕ, Bool, true, false, ◌||◌, not, List, [], ◌∷◌, ◌++◌, Option, Some, None, Ok, refl, sym, subst}
use Rattle.std.proofs.Common.{◌⊎◌, if◌then◌else◌}
use Rattle.std.proofs.{lemmas.Grind.common_steps, lemmas.List.Folds.list_any-append, lemmas.Slice.Eq.bytes_eq-Decides}
use Rattle.std.proofs.lemmas.Bool.{and_parts, false_from_ne_true, or_cases}
use Rattle.std.specs.{Prelude.option_map, Prelude.option_and_then, List.list_any, List.list_all}
use denote.Enum.Bare.{same_true, true_same}
use Rattle.smi_text.specs.contracts.lexer.token.TokenKind.{the_type}
use Rattle.smi_text.specs.{declared.lexer.token.TokenKind.TokenKind, lexer.Token.Lexeme, lexer.Token.Item}
use Rattle.smi_text.specs.declared.lexer.token.TokenKind.TheVariants as K
use Rattle.smi_text.specs.trees.Mark.{Mark, same_kind, same_text}
use Rattle.smi_text.specs.private.Format.{ItemsMatch, Ahead, is_this_word, meets, begins, half_apart, apart}

-- ---- kinds and texts

pub same_kind-eq : (a b : TokenKind) → same_kind a b ≡ true → a ≡ b
same_kind-eq a b h = same_true the_type tt a b h

pub same_kind-same : (k : TokenKind) → same_kind k k ≡ true
same_kind-same k = true_same the_type k k refl

pub same_text-eq : (x y : List ℕ) → same_text x y ≡ true → x ≡ y
same_text-eq x y h = (bytes_eq-Decides x y).0 h

pub same_text-same : (x : List ℕ) → same_text x x ≡ true
same_text-same x = (bytes_eq-Decides x x).1 refl

-- ---- marks followed by other marks

pub ItemsMatch-append : (xs ys : List Mark) (ts mid rest : List Item) → ItemsMatch xs ts mid → ItemsMatch ys mid rest → ItemsMatch (xs ++ ys) ts rest
ItemsMatch-append [] ys ts mid rest h k = let P : List Item → Type 0 = λ us. ItemsMatch ys us rest in subst P (sym h) k
ItemsMatch-append (x ∷ xs) ys (Ok t ∷ ts) mid rest h k = (h.0, ItemsMatch-append xs ys ts mid rest h.1 k)
ItemsMatch-append (x ∷ xs) ys _ mid rest h k = absurd h

pub ItemsMatch-split : (xs ys : List Mark) (ts rest : List Item) → ItemsMatch (xs ++ ys) ts rest
    → (mid : List Item) × ItemsMatch xs ts mid × ItemsMatch ys mid rest
ItemsMatch-split [] ys ts rest h = (ts, refl, h)
ItemsMatch-split (x ∷ xs) ys (Ok t ∷ ts) rest h = grind (arith, common_steps, ItemsMatch-split xs ys ts rest h.1)
ItemsMatch-split (x ∷ xs) ys _ rest h = absurd h

-- ---- what is read, if `option_map`, `option_and_then` or a condition returns it

pub map-inv : {A B : Type 0} (f : A → B) (r : Option A) (y : B) → option_map f r ≡ Some y → (x : A) × (r ≡ Some x) × (f x ≡ y)
map-inv f None y h = absurd (cc)
map-inv f (Some x) y h = (x, refl, cc)

pub then-inv : {A B : Type 0} (k : A → Option B) (r : Option A) (y : B) → option_and_then k r ≡ Some y → (x : A) × (r ≡ Some x) × (k x ≡ Some y)
then-inv k None y h = absurd (cc)
then-inv k (Some x) y h = (x, refl, h)

pub if-inv : {A : Type 0} (b : Bool) (x y z : A) → (if b then x else y) ≡ z → ((b ≡ true) × (x ≡ z)) ⊎ ((b ≡ false) × (y ≡ z))
if-inv b x y z h = grind (arith, common_steps)

-- ---- the token ahead

pub begins-append : (cs ds : List Ahead) (ts : List Item) → begins (cs ++ ds) ts ≡ (begins cs ts || begins ds ts)
unfolding begins
begins-append cs ds ts = grind (arith, common_steps, list_any-append)

pub begins_cons : (c : Ahead) (cs : List Ahead) (ts : List Item) → begins (c ∷ cs) ts ≡ (begins (c ∷ []) ts || begins cs ts)
begins_cons c cs ts = begins-append (c ∷ []) cs ts

pub begins-none : (ts : List Item) → begins [] ts ≡ false
unfolding begins
begins-none ts = grind (arith, common_steps)

true-not : (b : Bool) → not b ≡ true → b ≡ true → ⊥
true-not b h k = grind (arith, common_steps)

module _ (t : Lexeme) where
  word-kind : (w : List ℕ) → is_this_word w t ≡ true → t.kind ≡ K.Upper
  word-kind w h = same_kind-eq t.kind K.Upper (and_parts (same_kind t.kind K.Upper) (same_text t.text w) h).0

  word-text : (w : List ℕ) → is_this_word w t ≡ true → t.text ≡ w
  word-text w h = same_text-eq t.text w (and_parts (same_kind t.kind K.Upper) (same_text t.text w) h).1

  kind-clash : (j k : TokenKind) → not (same_kind j k) ≡ true → t.kind ≡ j → t.kind ≡ k → ⊥
  kind-clash j k a h e = true-not (same_kind j k) a (rw (← h, ← e) (same_kind-same t.kind))

  half-sound : (c d : Ahead) → half_apart c d ≡ true → meets t c ≡ true → meets t d ≡ true → ⊥
  half-sound c d a h k =
      grind (arith, common_steps, true-not, word-kind, word-text, same_text-same, same_text-eq, and_parts, kind-clash, same_kind-eq)

  list-sound : (c : Ahead) (ds : List Ahead) → list_all (λ d. half_apart c d || half_apart d c) ds ≡ true → meets t c ≡ true → list_any (meets t) ds ≡ true → ⊥
  list-sound c [] a h k = cc
  list-sound c (d ∷ ds) a h k = grind (arith, common_steps, or_cases, and_parts, half-sound, list-sound c ds)

  lists-sound : (cs ds : List Ahead) → apart cs ds ≡ true → list_any (meets t) cs ≡ true → list_any (meets t) ds ≡ true → ⊥
  lists-sound [] ds a h k = cc
  lists-sound (c ∷ cs) ds a h k = grind (arith, common_steps, or_cases, and_parts, list-sound, lists-sound cs ds)

-- if two lists of conditions are apart, then no token meets a condition of each
pub apart-sound : (cs ds : List Ahead) (ts : List Item) → apart cs ds ≡ true → begins cs ts ≡ true → begins ds ts ≡ true → ⊥
unfolding begins
apart-sound cs ds (Ok t ∷ ts) a h k = lists-sound t cs ds a h k
apart-sound cs ds _ a h k = cc

pub apart-false : (cs ds : List Ahead) (ts : List Item) → apart cs ds ≡ true → begins ds ts ≡ true → begins cs ts ≡ false
apart-false cs ds ts a k = false_from_ne_true (begins cs ts) (λ h. apart-sound cs ds ts a h k)
