-- Chains: the identifier of a thing is its own numbers, or the identifier of another thing
-- followed by its own numbers; or the thing has no identifier. In a module text the things are
-- names: a defined name can refer to its parent, and an imported name refers to the same name in
-- the module after FROM (RFC 2578, sections 3.2 and 7.10).
use Rattle.std.specs.Prelude.{◌≡◌, ℕ, List, ◌++◌, Option, Some, None}

-- the origin of a thing's identifier. `numbers ns`: the identifier is `ns`. `after b ns`: it is
-- the identifier of `b` followed by `ns`. `nowhere`: the thing has no identifier.
pub data Origin (A : Type 0) : Type 0 where
  numbers : List ℕ → Origin A
  after : A → List ℕ → Origin A
  nowhere : Origin A

-- the thing that an origin refers to, if it refers to one
abbrev pub next_of : {A : Type 0} → Origin A → Option A
next_of (numbers ns) = None
next_of (after b ns) = Some b
next_of nowhere = None

-- the chain of `a` has an end: `next a` is `None`, or a thing whose chain has an end
pub data HasEnd {A : Type 0} (next : A → Option A) : A → Type 0 where
  ends : {a : A} → next a ≡ None → HasEnd next a
  refers_on : {a b : A} → next a ≡ Some b → HasEnd next b → HasEnd next a

-- thing `a` has identifier `o`: the least relation with these two rules
pub data HasIdentifier {A : Type 0} (origin : A → Origin A) : A → List ℕ → Type 0 where
  by_itself : {a : A} {ns : List ℕ} → origin a ≡ numbers ns → HasIdentifier origin a ns
  after_another : {a b : A} {ns o : List ℕ}
      → origin a ≡ after b ns → HasIdentifier origin b o → HasIdentifier origin a (o ++ ns)

-- the chain of `a` ends at a thing whose origin is `nowhere`
pub data EndsNowhere {A : Type 0} (origin : A → Origin A) : A → Type 0 where
  here : {a : A} → origin a ≡ nowhere → EndsNowhere origin a
  further : {a b : A} {ns : List ℕ}
      → origin a ≡ after b ns → EndsNowhere origin b → EndsNowhere origin a
