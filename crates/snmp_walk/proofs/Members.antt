-- Membership (`OneOf`) in appended and repeated lists.
use Rattle.std.proofs.Common.{◌≡◌, ◌⊎◌, inl, inr, ℕ, zero, suc, List, [], ◌∷◌, ◌++◌, replicate, refl, sym, ap}
use Rattle.snmp_walk.specs.Link.{OneOf}

pub one_append : {X : Type 0} (xs ys : List X) (x : X) → OneOf (xs ++ ys) x → OneOf xs x ⊎ OneOf ys x
one_append [] ys x one = inr one
one_append (y ∷ xs) ys x (inl e) = inl (inl e)
one_append (y ∷ xs) ys x (inr one) = elim (one_append xs ys x one) [ inl h ↦ inl (inr h) | inr h ↦ inr h ]

pub one_left : {X : Type 0} (xs ys : List X) (x : X) → OneOf xs x → OneOf (xs ++ ys) x
one_left [] ys x one = absurd one
one_left (y ∷ xs) ys x (inl e) = inl e
one_left (y ∷ xs) ys x (inr one) = inr (one_left xs ys x one)

pub one_right : {X : Type 0} (xs ys : List X) (x : X) → OneOf ys x → OneOf (xs ++ ys) x
one_right [] ys x one = one
one_right (y ∷ xs) ys x one = inr (one_right xs ys x one)

pub one_there : {X : Type 0} (xs ys : List X) (x : X) → OneOf (xs ++ x ∷ ys) x
one_there xs ys x = one_right xs (x ∷ ys) x (inl refl)

pub one_same : {X : Type 0} (n : ℕ) (x y : X) → OneOf (replicate n x) y → y ≡ x
one_same zero x y one = absurd one
one_same (suc n) x y (inl e) = e
one_same (suc n) x y (inr one) = one_same n x y one

pub split_at : {X : Type 0} (xs : List X) (x : X) → OneOf xs x → (prefix : List X) × (back : List X) × (xs ≡ prefix ++ x ∷ back)
split_at [] x one = absurd one
split_at (y ∷ xs) x (inl e) = ([], xs, ap (λ z. z ∷ xs) (sym e))
split_at (y ∷ xs) x (inr one) = let s = split_at xs x one in (y ∷ s.0, s.1, ap (λ zs. y ∷ zs) s.2)
