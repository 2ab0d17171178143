-- If a lawful format always takes a token, then `many` of it reads one part after the other, as long as the token ahead begins one.
use Rattle.std.proofs.lemmas.Grind.{common_steps}
use Rattle.std.proofs.Common.{◌≡◌, ℕ, zero, suc, ◌+◌, ◌<◌, ◌≤◌, true, false, List, [], ◌∷◌, ◌++◌, length, Some, None, Ok, if◌then◌else◌}
use Rattle.std.proofs.Common.{option_map, option_and_then, refl, ◌∙◌, ap, arith, append_assoc, append-nil}
use Rattle.smi_text.specs.{lexer.Token.Item, trees.Mark.Mark}
use Rattle.smi_text.specs.private.Format.{ItemsMatch, Format, Parsed, begins, read_many, many, prepend}
use Rattle.smi_text.proofs.Lawful.{Lawful}

-- if items match the marks `ms`, then there is one item for each mark before the items `rest`
pub ItemsMatch-length : (ms : List Mark) (ts rest : List Item) → ItemsMatch ms ts rest → length ts ≡ length ms + length rest
ItemsMatch-length [] ts rest h = ap length h ∙ omega arith
ItemsMatch-length (m ∷ ms) (Ok t ∷ ts) rest h = omega (arith, ItemsMatch-length ms ts rest h.1)
ItemsMatch-length (m ∷ ms) _ rest h = absurd h

pub shorter : {A : Type 0} {s : A → List Mark} {f : Format A} → Lawful s f → f.empty ≡ false → (x : A) (ts rest : List Item) → ItemsMatch (s x) ts rest
    → length rest < length ts
unfolding begins
shorter {s = s} law solid x ts rest h = grind (arith, common_steps, ItemsMatch-length (s x) ts rest h, law.starts x [] [])

pub reading-shorter : {A : Type 0} {s : A → List Mark} {f : Format A} → Lawful s f → f.empty ≡ false → (x : A) (ts rest : List Item)
    → f.read ts ≡ Some (x, rest) → length rest < length ts
reading-shorter law solid x ts rest h = shorter law solid x ts rest (law.takes ts rest x h)

abbrev put_one : {A : Type 0} → Format A → ℕ → A × List Item → Parsed (List A)
put_one f n p = option_map (λ q. (p.0 ∷ q.0, q.1)) (read_many f n p.1)

-- if a lawful format always takes a token, and two bounds are above the number of tokens, then `read_many` reads the same with both
enough : {A : Type 0} {s : A → List Mark} {f : Format A} → Lawful s f → f.empty ≡ false → (n m : ℕ) (ts : List Item) → length ts ≤ n → length ts ≤ m
    → read_many f (suc n) ts ≡ read_many f (suc m) ts
unfolding read_many begins
enough law solid n m [] h k = refl
enough law solid zero m (t ∷ ts) h k = absurd (omega arith)
enough law solid (suc n) zero (t ∷ ts) h k = absurd (omega arith)
enough {A} {s} {f} law solid (suc n) (suc m) (t ∷ ts) h k =
    ap (λ (r : Parsed (List A)). if begins f.first (t ∷ ts) then r else Some ([], t ∷ ts))
    (elim (f.read (t ∷ ts)) as (λ r. f.read (t ∷ ts) ≡ r →
    option_and_then (put_one f (suc n)) r ≡ option_and_then (put_one f (suc m)) r) [
      | None ↦ λ e. refl
      | Some p ↦ λ e.
          let less : length p.1 < length (t ∷ ts) = reading-shorter law solid p.0 (t ∷ ts) p.1 e in
          ap (λ (r : Parsed (List A)). option_map (λ (q : List A × List Item). (p.0 ∷ q.0, q.1)) r) (enough law solid n m p.1 (omega arith) (omega arith))
    ] refl)

-- if the token ahead meets a condition of `f.first`, but `f` fails, then `many f` fails too
pub many-fails : {A : Type 0} (f : Format A) (ts : List Item) → begins f.first ts ≡ true → f.read ts ≡ None → (many f).read ts ≡ None
unfolding many read_many
many-fails f ts b e = rw (b, e) refl

-- if a lawful format always takes a token, and the token ahead begins a part that is read, then `many` reads this part, and then what it reads from the
-- remaining tokens
pub many-goes_on : {A : Type 0} {s : A → List Mark} {f : Format A} → Lawful s f → f.empty ≡ false → (x : A) (ts rest : List Item) → begins f.first ts ≡ true
    → f.read ts ≡ Some (x, rest) → (many f).read ts ≡ prepend (x ∷ []) ((many f).read rest)
unfolding many read_many begins prepend
many-goes_on law solid x [] rest b e = absurd (cc)
many-goes_on {A} {s} {f} law solid x (t ∷ ts) rest b e =
    let less : length rest < length (t ∷ ts) = reading-shorter law solid x (t ∷ ts) rest e in
    rw (b, e) (ap (λ (r : Parsed (List A)). option_map (λ (q : List A
    × List Item). (x ∷ q.0, q.1)) r) (enough law solid (length ts) (length rest) rest (omega arith) (omega arith)))

-- if the token ahead doesn't begin a part, then `many` reads an empty list
pub many-done : {A : Type 0} (f : Format A) (ts : List Item) → begins f.first ts ≡ false → (many f).read ts ≡ Some ([], ts)
unfolding many read_many
many-done f ts b = rw b refl

pub prepend-append : {A : Type 0} (xs ys : List A) (r : Parsed (List A)) → prepend (xs ++ ys) r ≡ prepend xs (prepend ys r)
unfolding prepend
prepend-append xs ys r = grind (arith, common_steps, append_assoc)

pub prepend-none : {A : Type 0} (xs : List A) (r : Parsed (List A)) → r ≡ None → prepend xs r ≡ None
unfolding prepend
prepend-none xs r e = rw e refl

pub prepend-end : {A : Type 0} (xs : List A) (ts : List Item) → prepend xs (Some ([], ts)) ≡ Some (xs, ts)
unfolding prepend
prepend-end {A} xs ts = ap (λ (zs : List A). Some (zs, ts)) (append-nil xs)

pub with_prefix_nil : {A : Type 0} (r : Parsed (List A)) → prepend [] r ≡ r
unfolding prepend
with_prefix_nil r = grind (arith, common_steps)

-- if the token ahead begins a part, and this is read from at least one token, then `read_many` reads it and after it the parts from the remaining tokens, for
-- which some bound `m` is enough
pub next-many : {A : Type 0} (f : Format A) (n : ℕ) (x : A) (ts rest : List Item) → begins f.first ts ≡ true → f.read ts ≡ Some (x, rest) → length ts ≤ n
    → length rest < length ts
    → (m : ℕ) × (length rest ≤ m) × (read_many f (suc n) ts ≡ prepend (x ∷ []) (read_many f (suc m) rest))
unfolding read_many prepend
next-many f zero x ts rest b e h k = absurd (omega arith)
next-many f (suc m) x ts rest b e h k = (m, omega arith, rw (b, e) refl)
