-- A format is lawful for a spelling if it reads exactly what is spelled. Each way of making a format out of lawful formats makes a lawful one, if the
-- token ahead always decides how to continue.
use Rattle.std.proofs.lemmas.Grind.{common_steps}
use Rattle.std.proofs.Common.{◌≡◌, ℕ, zero, suc, Bool, true, false, ◌&&◌, not, List, [], ◌∷◌, ◌++◌, Option, Some, None, if◌then◌else◌, refl}
use Rattle.std.proofs.Common.{sym, ◌∙◌, ap, subst, arith, inl, inr, ◌⊎◌}
use Rattle.std.proofs.lemmas.Bool.{and_parts, and_from, or_left, or_right, or_parts, not-true}
use Rattle.std.specs.List.{list_any, flat_map}
use Rattle.smi_text.specs.{declared.lexer.token.TokenKind.TokenKind, lexer.Token.Lexeme, lexer.Token.Item, declared.trees.tree.TokenText.TokenText}
use Rattle.smi_text.specs.{trees.Reserved.is_reserved, declared.trees.names.Name.Name}
use Rattle.smi_text.specs.declared.lexer.token.TokenKind.TheVariants as K
use Rattle.smi_text.specs.trees.Mark.{Mark, sign, spelled, same_kind, MarksToken}
use Rattle.smi_text.specs.private.Format.{ItemsMatch, Format, Ahead, a_name, a_kind, meets, begins, apart, one, word, token, text, text_where, name}
use Rattle.smi_text.specs.private.Format.{pair, preceded, before, maybe, either, read_many, many, some_of, shaped, line_ahead, lined, prepend, lower}
use Rattle.smi_text.specs.private.Format.{name_where, name_of, separated}
use Rattle.smi_text.specs.private.Grammar.{kept, kept_text, braced, clause, parenthesized}
use Rattle.smi_text.specs.trees.Spelling as say
use Rattle.smi_text.proofs.{Lawful.Lawful, NameLaws.name_of-octets, NameLaws.name_of-is, Many.shorter, Many.many-goes_on, Many.many-done}
pub use Rattle.smi_text.proofs.NameLaws.{some-inj}
use Rattle.smi_text.proofs.Marks.{same_kind-eq, same_kind-same, same_text-eq, same_text-same, if-inv, ItemsMatch-append, ItemsMatch-split, map-inv}
use Rattle.smi_text.proofs.Marks.{then-inv, begins-append, apart-false}

-- no tokens match the marks `nothing`
pub never-matched : (ts rest : List Item) → ItemsMatch say.nothing ts rest → ⊥
never-matched ts rest h = grind (arith, common_steps)

-- if `f` always reads at least one token, then tokens that match the spelling of `x` begin with one that meets a condition of `f.first`
pub starts-with : {A : Type 0} {s : A → List Mark} {f : Format A} → Lawful s f → f.empty ≡ false → (x : A) (ts rest : List Item) → ItemsMatch (s x) ts rest
    → begins f.first ts ≡ true
starts-with law solid x ts rest h = grind (arith, common_steps)

begins-left : (cs ds : List Ahead) (ts : List Item) → begins cs ts ≡ true → begins (cs ++ ds) ts ≡ true
begins-left cs ds ts h = begins-append cs ds ts ∙ or_left (begins cs ts) (begins ds ts) h

begins-right : (cs ds : List Ahead) (ts : List Item) → begins ds ts ≡ true → begins (cs ++ ds) ts ≡ true
begins-right cs ds ts h = begins-append cs ds ts ∙ or_right (begins cs ts) (begins ds ts) h

neither : (cs ds : List Ahead) (ts : List Item) → begins (cs ++ ds) ts ≡ false → (begins cs ts ≡ false) × (begins ds ts ≡ false)
neither cs ds ts h = or_parts (begins cs ts) (begins ds ts) (sym (begins-append cs ds ts) ∙ h)

-- ---- one token

-- The format of one token is lawful under two premises. A token passes `test` and `pick` returns `x` for it if and only if it matches the mark of `x`. A token
-- that passes `test` meets a condition of `cs`.
module _ {A : Type 0} {cs : List Ahead} {mark : A → Mark} {test : Lexeme → Bool} {pick : Lexeme → Option A}
    (fits : (t : Lexeme) (x : A) → test t ≡ true → pick t ≡ Some x → MarksToken (mark x) t)
    (found : (t : Lexeme) (x : A) → MarksToken (mark x) t → (test t ≡ true) × (pick t ≡ Some x))
    (ahead : (t : Lexeme) → test t ≡ true → list_any (meets t) cs ≡ true) where
  pub one-law : Lawful (λ x. mark x ∷ []) (one cs (λ t. if test t then pick t else None))
  unfolding begins
  one-law = grind (arith, common_steps, map-inv, if-inv)

pub word-law : {w : List ℕ} → Lawful (λ (_ : Unit {0}). spelled K.Upper w true ∷ []) (word w)
unfolding word begins
word-law = grind (arith, common_steps, map-inv, if-inv, and_parts, same_kind-eq, same_kind-same, same_text-eq, same_text-same)

pub token-law : (k : TokenKind) → Lawful (λ (_ : Unit {0}). sign k ∷ []) (token k)
unfolding token begins
token-law k = grind (arith, common_steps, map-inv, if-inv, and_parts, same_kind-eq, same_kind-same, same_text-eq, same_text-same)

pub text-law : {k : TokenKind} → Lawful (λ x. spelled k x true ∷ []) (text k)
unfolding text begins
text-law = grind (arith, common_steps, map-inv, if-inv, same_kind-eq, same_kind-same)

pub text_where-law : {k : TokenKind} {ok : List ℕ → Bool} → Lawful (λ x. spelled k x (ok x) ∷ []) (text_where k ok)
unfolding text_where begins
text_where-law = grind (arith, common_steps, map-inv, if-inv, and_parts, same_kind-eq, same_kind-same)

pub name_where-law : (cs : List Ahead) (k : TokenKind) (ok : List ℕ → Bool) → ((t : Lexeme) → same_kind t.kind k ≡ true → ok t.text ≡ true
    → list_any (meets t) cs ≡ true) → Lawful (λ (x : Name). spelled k x.octets (ok x.octets) ∷ []) (name_where cs k ok)
name_where-law cs k ok ahead = one-law {test = λ t. same_kind t.kind k && ok t.text} {pick = λ t. name_of t.text}
    (λ t x b e. grind (arith, common_steps, and_parts, same_kind-eq, name_of-is)) (λ t x h. (
      grind (arith, common_steps, same_kind-same),
      ap name_of h.1 ∙ name_of-octets x,
    )) (λ t b. grind (arith, common_steps, and_parts))

pub lower-law : Lawful (λ (x : Name). spelled K.Lower x.octets true ∷ []) lower
unfolding lower
lower-law = name_where-law (a_kind K.Lower ∷ []) K.Lower (λ _. true) (λ t k ok. grind arith)

pub name-law : Lawful (λ (x : Name). spelled K.Upper x.octets (not (is_reserved x.octets)) ∷ []) name
unfolding name
name-law = name_where-law (a_name ∷ []) K.Upper (λ x. not (is_reserved x)) (λ t k ok. grind arith)

-- ---- several parts

module _ {A B : Type 0} {s : A → List Mark} {t : B → List Mark} {f : Format A} {g : Format B} (f-law : Lawful s f) (g-law : Lawful t g)
    (far : apart f.stop g.first ≡ true) where
  pub pair-law : Lawful (λ (p : A × B). s p.0 ++ t p.1) (pair f g)
  unfolding pair
  pair-law = record {
    takes = λ ts rest x h.
        let r = then-inv _ (f.read ts) (x, rest) h in
        grind (arith, common_steps, map-inv, ItemsMatch-append (s x.0) (t x.1) ts r.0.1 rest);
    again = grind (arith, common_steps, ItemsMatch-split, neither, apart-false);
    starts = grind (arith, common_steps, ItemsMatch-split, begins-left, begins-right, and_from);
  }

module _ {A : Type 0} {s : A → List Mark} {f : Format A} (law : Lawful s f) (solid : f.empty ≡ false) where
  -- `maybe f` is lawful: it reads with `f` if the token ahead meets a condition of `f.first`. What `f` reads begins with such a token, and none may follow it.
  pub maybe-law : Lawful (say.of_option s) (maybe f)
  unfolding maybe
  maybe-law = grind (arith, common_steps, if-inv, map-inv, some-inj, neither, starts-with)

abbrev pub of_either : {A B : Type 0} → (A → List Mark) → (B → List Mark) → A ⊎ B → List Mark
of_either s t (inl x) = s x
of_either s t (inr y) = t y

-- whether the token ahead decides between two parts: both have a first token, and no token begins both
abbrev pub decides : {A B : Type 0} → Format A → Format B → Bool
decides f g = not f.empty && not g.empty && apart f.first g.first

module _ {A B : Type 0} {s : A → List Mark} {t : B → List Mark} {f : Format A} {g : Format B} (f-law : Lawful s f) (g-law : Lawful t g)
    (decided : decides f g ≡ true) where
  -- `either f g` is lawful: since no token begins both parts, the token ahead says which of them is spelled
  sides-law : Lawful (of_either s t) (either f g)
  unfolding either
  sides-law = grind (arith, common_steps, and_parts, not-true, if-inv, map-inv, starts-with, neither, apart-false, begins-left, begins-right)

-- a format that is lawful for the spelling `s` is lawful for each spelling `u` that has the same marks for each `x`
pub spelled-as : {A : Type 0} {s u : A → List Mark} {f : Format A} → Lawful s f → ((x : A) → s x ≡ u x) → Lawful u f
spelled-as {f = f} law same = subst (λ v. Lawful v f) (λ i x. same x i) law

pub either-law : {A B : Type 0} {u : A ⊎ B → List Mark} {f : Format A} {g : Format B} → Lawful (λ x. u (inl x)) f → Lawful (λ y. u (inr y)) g
    → decides f g ≡ true → Lawful u (either f g)
either-law f-law g-law decided = spelled-as (sides-law f-law g-law decided) (elim [ inl x ↦ refl | inr y ↦ refl ])

-- Laws are chained as `a ▸ b ▸ last c`, for formats one after the other, or as `a ∣ b ∣ last c`, for alternatives between which the token ahead decides.
-- The tests of all neighbours in a chain are one Boolean, so a single `refl` at its end proves that all pass.
infixr 20 ◌▸◌
infixr 20 ◌∣◌
pub ◌▸◌ : {A B : Type 0} {s : A → List Mark} {t : B → List Mark} {f : Format A} {g : Format B} {b : Bool} → Lawful s f → (b ≡ true → Lawful t g)
    → (apart f.stop g.first && b) ≡ true → Lawful (λ (p : A × B). s p.0 ++ t p.1) (pair f g)
◌▸◌ {f = f} {g = g} {b = b} law laws tests = let p = and_parts (apart f.stop g.first) b tests in pair-law law (laws p.1) p.0

pub ◌∣◌ : {A B : Type 0} {u : A ⊎ B → List Mark} {f : Format A} {g : Format B} {b : Bool} → Lawful (λ x. u (inl x)) f
    → (b ≡ true → Lawful (λ y. u (inr y)) g) → (decides f g && b) ≡ true → Lawful u (either f g)
◌∣◌ {f = f} {g = g} {b = b} law laws tests = let p = and_parts (decides f g) b tests in either-law law (laws p.1) p.0

pub last : {A : Type 0} {s : A → List Mark} {f : Format A} → Lawful s f → true ≡ true → Lawful s f
last law tests = law

module _ {A : Type 0} {s : A → List Mark} {f : Format A} (law : Lawful s f) (solid : f.empty ≡ false) (far : apart f.stop f.first ≡ true) where
  many-takes-from : (n : ℕ) (ts rest : List Item) (xs : List A) → read_many f n ts ≡ Some (xs, rest) → ItemsMatch (flat_map s xs) ts rest
  unfolding read_many
  many-takes-from zero ts rest xs h = grind (arith, common_steps, some-inj)
  many-takes-from (suc n) ts rest xs h =
      elim (if-inv (begins f.first ts) _ (Some ([], ts)) (Some (xs, rest)) h) [
        | inl p ↦
            let r = then-inv _ (f.read ts) (xs, rest) p.1 in
            let q = map-inv _ (read_many f n r.0.1) (xs, rest) r.2 in
            grind (arith, common_steps, many-takes-from n r.0.1 q.0.1 q.0.0 q.1, ItemsMatch-append (s r.0.0) (flat_map s q.0.0) ts r.0.1 q.0.1)
        | inr p ↦ grind (arith, common_steps, some-inj)
      ]

  many-starts : (xs : List A) (ts rest : List Item) → ItemsMatch (flat_map s xs) ts rest → (begins f.first ts ≡ true) ⊎ (ts ≡ rest)
  many-starts [] ts rest h = inr h
  many-starts (x ∷ xs) ts rest h = grind (arith, common_steps, ItemsMatch-split, starts-with)

  many-again : (xs : List A) (ts rest : List Item) → ItemsMatch (flat_map s xs) ts rest → (begins f.first rest ≡ false) × (begins f.stop rest ≡ false)
      → (many f).read ts ≡ Some (xs, rest)
  unfolding prepend
  many-again [] ts rest h k = rw h (many-done f rest k.0)
  many-again (x ∷ xs) ts rest h k =
      let r = ItemsMatch-split (s x) (flat_map s xs) ts rest h in
      grind (arith, common_steps, many-starts xs r.0 rest, many-again xs r.0 rest, apart-false, many-goes_on law solid x ts r.0, starts-with)

  pub many-law : Lawful (flat_map s) (many f)
  unfolding many
  many-law = grind (arith, common_steps, many-takes-from, many-again, neither, many-starts)

-- `shaped to f` is lawful for the spelling `u` if `f` is lawful for the spelling `s`, tokens that match `s x` also match `u (to x)`, and tokens that match
-- `u y` also match `s x` for some `x` with `to x ≡ y`
module _ {A B : Type 0} {to : A → B} {u : B → List Mark} {s : A → List Mark} {f : Format A} (law : Lawful s f)
    (forth : (ts rest : List Item) (x : A) → ItemsMatch (s x) ts rest → ItemsMatch (u (to x)) ts rest)
    (back : (ts rest : List Item) (y : B) → ItemsMatch (u y) ts rest → (x : A) × (to x ≡ y) × ItemsMatch (s x) ts rest) where
  pub made-law : Lawful u (shaped to f)
  unfolding shaped
  made-law = grind (arith, common_steps, map-inv)

-- `shaped to f` is lawful for the spelling `u` if `f` is lawful for the spelling that has the marks `u (to x)` for `x`, and each `y` is `to x` for some `x`, or
-- `u y` is `nothing`
pub shaped-law : {A B : Type 0} {to : A → B} {u : B → List Mark} {f : Format A} → Lawful (λ x. u (to x)) f
    → ((y : B) → ((x : A) × (to x ≡ y)) ⊎ (u y ≡ say.nothing)) → Lawful u (shaped to f)
unfolding shaped
shaped-law law made = grind (arith, common_steps, map-inv, made, never-matched)

pub preceded-law : {A : Type 0} {v : Unit {0} → List Mark} {s : A → List Mark} {w : Format (Unit {0})} {f : Format A} → Lawful v w → Lawful s f
    → apart w.stop f.first ≡ true → Lawful (λ x. v tt ++ s x) (preceded w f)
unfolding preceded
preceded-law w-law f-law far = shaped-law (pair-law w-law f-law far) (λ x. inl ((tt, x), refl))

pub before-law : {A : Type 0} {s : A → List Mark} {v : Unit {0} → List Mark} {f : Format A} {w : Format (Unit {0})} → Lawful s f → Lawful v w
    → apart f.stop w.first ≡ true → Lawful (λ x. s x ++ v tt) (before f w)
unfolding before
before-law f-law w-law far = shaped-law (pair-law f-law w-law far) (λ x. inl ((x, tt), refl))

-- `some_of f g` reads what the pair of `f` and `many g` reads, made into one list
some-read : {A : Type 0} (f g : Format A) (ts : List Item)
    → (some_of f g).read ts ≡ (shaped (λ (p : A × List A). p.0 ∷ p.1) (pair f (many g))).read ts
unfolding some_of shaped pair prepend
some-read f g ts = grind (arith, common_steps)

pub some_of-law : {A : Type 0} {s t : A → List Mark} {f g : Format A} → Lawful s f → Lawful t g → g.empty ≡ false → apart f.stop g.first ≡ true
    → apart g.stop g.first ≡ true → Lawful (say.of_some s t) (some_of f g)
unfolding some_of shaped pair many
some_of-law {A} {s} {t} {f} {g} f-law g-law solid far near =
    let law : Lawful (say.of_some s t) (shaped (λ (p : A × List A). p.0 ∷ p.1) (pair f (many g))) = shaped-law (pair-law f-law (many-law g-law solid near) far)
    (elim [ [] ↦ inr refl | (x ∷ xs) ↦ inl (_, refl) ]) in
    record {
      takes = λ ts rest xs h. law.takes ts rest xs (sym (some-read f g ts) ∙ h);
      again = λ xs ts rest h k. some-read f g ts ∙ law.again xs ts rest h k;
      starts = law.starts;
    }

-- tokens that match at least one mark also match the marks with the line of the first token put on the first mark
put-line : (ms : List Mark) (ts rest : List Item) → (ms ≡ [] → ⊥) → ItemsMatch ms ts rest → ItemsMatch (say.put_line (line_ahead ts) ms) ts rest
put-line ms ts rest some h = grind (arith, common_steps)

drop-line : (n : ℕ) (ms : List Mark) (ts rest : List Item) → ItemsMatch (say.put_line n ms) ts rest → ItemsMatch ms ts rest × (line_ahead ts ≡ n)
drop-line n ms ts rest h = grind (arith, common_steps, never-matched)

module _ {A : Type 0} {s : A → List Mark} {f : Format A} (law : Lawful s f) (solid : f.empty ≡ false) where
  some-mark : (x : A) → s x ≡ [] → ⊥
  some-mark x e = omega (arith, shorter law solid x [] [] (rw e refl))

  pub lined-law : Lawful (λ (p : ℕ × A). say.put_line p.0 (s p.1)) (lined f)
  unfolding lined
  lined-law = grind (arith, common_steps, map-inv, put-line, some-mark, drop-line, starts-with)

-- ---- parts of productions

-- if `f` is lawful, then so is the format that reads the word `w` and then with `f`
pub after-word : {A : Type 0} {w : List ℕ} {s : A → List Mark} {f : Format A} → Lawful s f → Lawful (λ x. say.word w ∷ s x) (preceded (word w) f)
unfolding word
after-word law = preceded-law word-law law refl

pub after-sign : {A : Type 0} {k : TokenKind} {s : A → List Mark} {f : Format A} → Lawful s f → Lawful (λ x. sign k ∷ s x) (preceded (token k) f)
unfolding token
after-sign {k = k} law = preceded-law (token-law k) law refl

pub clause-law : {w : List ℕ} → Lawful (λ x. say.of_clause w x) (clause w)
unfolding clause
clause-law = after-word text-law

pub braced-law : {A : Type 0} {s : A → List Mark} {f : Format A} → Lawful s f → apart f.stop (a_kind K.CloseBrace ∷ []) ≡ true
    → Lawful (λ x. say.braces (s x)) (braced f)
unfolding braced token
braced-law law far = after-sign (before-law law (token-law K.CloseBrace) far)

pub parenthesized-law : {A : Type 0} {s : A → List Mark} {f : Format A} → Lawful s f → apart f.stop (a_kind K.CloseParen ∷ []) ≡ true
    → Lawful (λ x. say.parentheses (s x)) (parenthesized f)
unfolding parenthesized token
parenthesized-law law far = after-sign (before-law law (token-law K.CloseParen) far)

pub separated-law : {A : Type 0} {s : A → List Mark} {f : Format A} (k : TokenKind) → Lawful s f → f.empty ≡ false → apart f.stop (a_kind k ∷ []) ≡ true
    → Lawful (say.of_list (sign k) s) (separated k f)
unfolding separated preceded shaped pair token
separated-law k law solid far = some_of-law law (after-sign law) refl far (rw solid far)

pub same-token : (t : Lexeme) (x : TokenText) → t.kind ≡ x.kind → t.text ≡ x.text → kept_text t ≡ x
same-token t x e f = rw (e, f) refl

pub kept-law : (cs : List Ahead) (ok : TokenKind → List ℕ → Bool) → ((t : Lexeme) → ok t.kind t.text ≡ true → list_any (meets t) cs ≡ true)
    → Lawful (λ (x : TokenText). spelled x.kind x.text (ok x.kind x.text) ∷ []) (kept cs ok)
kept-law cs ok ahead = one-law (λ t x b e. grind (arith, common_steps)) (λ t x h. grind (arith, common_steps, same-token)) ahead
