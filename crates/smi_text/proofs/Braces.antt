-- Tokens are balanced (`IsBalanced`) if and only if each prefix of them opens at least as many braces as it closes, and all of them open as many as they close.
use Rattle.std.proofs.{lemmas.Grind.common_steps, lemmas.List.Folds.list_all-map, lemmas.List.Sums.sum_by-cons}
use Rattle.std.proofs.Common.{◌≡◌, ℕ, zero, suc, ◌+◌, Bool, true, false, ◌&&◌, if◌then◌else◌, not, List, [], ◌∷◌, nat_le, refl, ◌∙◌, arith, zero-add}
use Rattle.std.proofs.Common.{◌-◌, ◌++◌, sym, ap, add-one, append_assoc, append-nil}
use Rattle.std.specs.{Prelude.◌==◌, Prelude.◌≢◌, List.list_all}
use Rattle.std.proofs.lemmas.Bool.{and_parts, eqb-true, not-true}
use Rattle.smi_text.specs.declared.lexer.token.TokenKind.{TokenKind}
use Rattle.smi_text.specs.declared.lexer.token.TokenKind.TheVariants as K
use Rattle.smi_text.specs.{declared.trees.tree.TokenText.TokenText, trees.Mark.same_kind, private.Grammar.depth_after, private.Grammar.is_outside}
use Rattle.smi_text.specs.trees.Braces.{opening_braces, closing_braces, prefixes, has_balanced_braces}
use Rattle.smi_text.proofs.Marks.{same_kind-eq}
use Rattle.smi_text.specs.trees.Braces.{IsBalanced, none, other, nested}

-- whether the tokens close all braces that are open (`depth` braces before them, and those that they open), and never close a brace that isn't open
unfoldable pub is_balanced : ℕ → List TokenText → Bool
is_balanced depth [] = depth == 0
is_balanced depth (x ∷ xs) = not (is_outside x.kind depth) && is_balanced (depth_after x.kind depth) xs

-- whether `prefix` closes at most as many braces as can be open: the `d` braces before it, and those that it opens
abbrev is_within : ℕ → List TokenText → Bool
is_within d prefix = nat_le (closing_braces prefix) (d + opening_braces prefix)

-- `d` braces are open before the tokens `xs`. Whether no prefix of `xs` closes more braces than these and those that it opens, and all of `xs` close as many as
-- these and those that `xs` open.
abbrev is_whole : ℕ → List TokenText → Bool
is_whole d xs = list_all (is_within d) (prefixes xs) && d + opening_braces xs == closing_braces xs

all-same : {A : Type 0} (p q : A → Bool) → ((x : A) → p x ≡ q x) → (xs : List A) → list_all p xs ≡ list_all q xs
all-same p q h [] = refl
all-same p q h (x ∷ xs) = λ i. h x i && all-same p q h xs i

-- the number of braces that a token of this kind opens; `closes` is the number of braces that it closes
abbrev opens : TokenKind → ℕ
opens k = if same_kind k K.OpenBrace then 1 else 0

abbrev closes : TokenKind → ℕ
closes k = if same_kind k K.CloseBrace then 1 else 0

-- the number of opening braces in a list is the number for the first token plus the number for the others
opening-cons : (x : TokenText) (xs : List TokenText) → opening_braces (x ∷ xs) ≡ opens x.kind + opening_braces xs
opening-cons x xs = sum_by-cons (λ y. opens y.kind) x xs

closing-cons : (x : TokenText) (xs : List TokenText) → closing_braces (x ∷ xs) ≡ closes x.kind + closing_braces xs
closing-cons x xs = sum_by-cons (λ y. closes y.kind) x xs

within-none : (d : ℕ) → is_within d [] ≡ true
within-none d = grind arith

shifted : (d n o c : ℕ) → d + o ≡ n + c → (a b : ℕ) → (nat_le (c + a) (d + (o + b)) ≡ nat_le a (n + b)) × ((d + (o + b) == c + a) ≡ (n + b == a))
shifted d n o c e a b = (grind arith, grind arith)

-- if `d` braces are open before the token `x`, and `n` after it, then `x` followed by `xs` passes `is_whole d` if and only if `xs` passes `is_whole n`
step : (d n : ℕ) (x : TokenText) (xs : List TokenText) → d + opens x.kind ≡ n + closes x.kind → is_whole d (x ∷ xs) ≡ is_whole n xs
step d n x xs e = grind (arith, common_steps, shifted, within-none, list_all-map, all-same, opening-cons, closing-cons)

prefixes-first : (p : List TokenText → Bool) (xs : List TokenText) → p [] ≡ false → list_all p (prefixes xs) ≡ false
prefixes-first p [] h = rw h refl
prefixes-first p (x ∷ xs) h = rw h refl

outside : (d : ℕ) (x : TokenText) (xs : List TokenText) → is_outside x.kind d ≡ true → is_whole d (x ∷ xs) ≡ false
outside d x xs o = grind (arith, common_steps, and_parts, opening-cons, closing-cons, same_kind-eq, list_all-map, prefixes-first, eqb-true, within-none)

depth-counted : (k : TokenKind) (d : ℕ) → is_outside k d ≡ false → d + opens k ≡ depth_after k d + closes k
depth-counted k d o = grind (arith, common_steps)

counted-as : (d : ℕ) (xs : List TokenText) → is_whole d xs ≡ is_balanced d xs
unfolding is_balanced
counted-as d [] = rw (within-none d) (grind arith)
counted-as d (x ∷ xs) = grind (arith, common_steps, outside, step, depth-counted, counted-as (depth_after x.kind d) xs)

pub prefixes_counted : (xs : List TokenText) → has_balanced_braces xs ≡ is_balanced 0 xs
unfolding has_balanced_braces
prefixes_counted xs = simp (is_within, zero-add) at (counted-as 0 xs)

-- ---- balanced tokens leave the count as it was

-- a token that isn't a brace never closes a brace too many, and doesn't change the depth
passing : (k : TokenKind) (d : ℕ) → k ≢ K.OpenBrace → k ≢ K.CloseBrace → (is_outside k d ≡ false) × (depth_after k d ≡ d)
passing k d o c = grind (arith, common_steps)

past : (x : TokenText) (xs : List TokenText) (d n : ℕ) → is_outside x.kind d ≡ false → depth_after x.kind d ≡ n
    → is_balanced d (x ∷ xs) ≡ is_balanced n xs
unfolding is_balanced
past x xs d n o e = rw (o, e) refl

leaves : {xs : List TokenText} → IsBalanced xs → (d : ℕ) (rest : List TokenText) → is_balanced d (xs ++ rest) ≡ is_balanced d rest
leaves none d rest = refl
leaves (other {x} {xs} n m b) d rest = grind (arith, common_steps, passing, past, leaves b d rest)
leaves (nested first last inner more k l b c) d rest =
    grind (arith, common_steps, past, append_assoc, leaves b (d + 1) (last ∷ (more ++ rest)), leaves c d rest)

-- ---- counted tokens are balanced, except for the braces that close those already open

abbrev Closes : ℕ → List TokenText → Type 0
Closes zero xs = IsBalanced xs
Closes (suc d) xs = (inner : List TokenText) × (last : TokenText) × (rest : List TokenText) × (xs ≡ inner ++ last ∷ rest) × (last.kind ≡ K.CloseBrace)
    × IsBalanced inner × Closes d rest

closes-other : (d : ℕ) (x : TokenText) (xs : List TokenText) → x.kind ≢ K.OpenBrace → x.kind ≢ K.CloseBrace → Closes d xs → Closes d (x ∷ xs)
closes-other zero x xs n m c = other n m c
closes-other (suc d) x xs n m (inner, last, rest, e, l, b, c) = (x ∷ inner, last, rest, ap (λ ys. x ∷ ys) e, l, other n m b, c)

closes-opening : (d : ℕ) (x : TokenText) (xs : List TokenText) → x.kind ≡ K.OpenBrace → Closes (suc d) xs → Closes d (x ∷ xs)
closes-opening zero x xs k (inner, last, rest, e, l, b, c) = rw e (nested x last inner rest k l b c)
closes-opening (suc d) x xs k (inner, last, rest, e, l, b, (more, end, after, f, g, h, c)) =
    let split : xs ≡ (inner ++ last ∷ more) ++ end ∷ after = e ∙ ap (λ ys. inner ++ last ∷ ys) f ∙ sym (append_assoc inner (last ∷ more) (end ∷ after)) in
    (x ∷ (inner ++ last ∷ more), end, after, ap (λ ys. x ∷ ys) split, g, nested x last inner more k l b h, c)

-- `d` braces are open before `x`. If `x` closes no brace that isn't open, and `xs` close the braces that are open after `x`, then `x` followed by `xs` closes
-- the `d` braces.
closes-more : (k : TokenKind) (d : ℕ) (x : TokenText) (xs : List TokenText) → x.kind ≡ k → is_outside k d ≡ false → Closes (depth_after k d) xs
    → Closes d (x ∷ xs)
closes-more K.OpenBrace d x xs e inside c = closes-opening d x xs e (rw add-one at c)
closes-more K.CloseBrace zero x xs e inside c = absurd (cc)
closes-more K.CloseBrace (suc d) x xs e inside c = ([], x, xs, refl, e, none, let back : suc d - 1 ≡ d = omega arith in rw back at c)
closes-more _ d x xs e inside c = closes-other d x xs (λ o. cc) (λ o. cc) c

closes-each : (xs : List TokenText) (d : ℕ) → is_balanced d xs ≡ true → Closes d xs
unfolding is_balanced
closes-each [] d h = rw (eqb-true d 0 h) none
closes-each (x ∷ xs) d h =
    let both = and_parts (not (is_outside x.kind d)) (is_balanced (depth_after x.kind d) xs) h in
    closes-more x.kind d x xs refl (not-true (is_outside x.kind d) both.0) (closes-each xs (depth_after x.kind d) both.1)

pub counted : (xs : List TokenText) → is_balanced 0 xs ≡ true → IsBalanced xs
counted xs h = closes-each xs 0 h

pub balanced_counted : (xs : List TokenText) → IsBalanced xs → is_balanced 0 xs ≡ true
unfolding is_balanced
balanced_counted xs b = ap (λ ys. is_balanced 0 ys) (sym (append-nil xs)) ∙ leaves b 0 []
