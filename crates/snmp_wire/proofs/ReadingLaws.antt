-- The steps of a decoding that may fail, for proofs about values and messages.
use Rattle.std.proofs.{lemmas.Grind.common_steps, lemmas.Bool.eqb-true, lemmas.Bool.eqb-false, lemmas.List.nil_from_length}
use Rattle.std.proofs.Common.{◌≡◌, ◌≢◌, ℕ, ◌<◌, Bool, true, false, cond, eqb, List, [], length, Result, Ok, Err, IsOk, is_ok, refl, sym, ap, subst}
use Rattle.std.proofs.Common.{◌∙◌, arith}
use Rattle.snmp_wire.specs.{declared.ber.error.BerError.BerError, ber.Decode.◌>>=◌, ber.Decode.checked, ber.Decode.fault_or}

-- a decoding that returned `x`
abbrev pub done : {A : Type 0} → A → Result A BerError
done x = Ok x

-- a decoding that failed
abbrev pub failed : {A : Type 0} → BerError → Result A BerError
failed e = Err e

-- a decoding returns at most one value
pub ok_is : {A : Type 0} (x y : A) → done x ≡ done y → x ≡ y
ok_is x y e = cc

-- a decoding fails with at most one fault
pub err_is : {A : Type 0} (d e : BerError) → failed {A = A} d ≡ failed e → d ≡ e
err_is d e h = cc

-- a decoding that is `Ok` doesn't fail
pub never_err : {A : Type 0} (r : Result A BerError) (e : BerError) → IsOk r → r ≡ Err e → ⊥
never_err (Ok x) e h f = cc
never_err (Err d) e h f = absurd cc

-- a decoding that is `Ok` returned a value
pub ok_value : {A : Type 0} (r : Result A BerError) → IsOk r → (x : A) × (r ≡ Ok x)
ok_value (Ok x) h = (x, refl)
ok_value (Err d) h = absurd cc

-- a decoding that returned a value is `Ok`
pub is_ok_at : {A : Type 0} (r : Result A BerError) (x : A) → r ≡ Ok x → IsOk r
is_ok_at r x h = ap is_ok h

-- if `r` followed by `f` returned `y`, then `r` returned a value `x`, and `f x` returned `y`
pub bind_ok : {A B : Type 0} (r : Result A BerError) (f : A → Result B BerError) (y : B)
    → (r >>= f) ≡ Ok y → (x : A) × (r ≡ Ok x) × (f x ≡ Ok y)
bind_ok (Ok x) f y e = (x, refl, e)
bind_ok (Err d) f y e = absurd cc

-- if `f` and `g` return the same for the value of the first step `r`, then `r` followed by `f` returns the same as `r` followed by `g`
pub bind_same : {A B : Type 0} (r : Result A BerError) (f g : A → Result B BerError)
    → ((x : A) → r ≡ Ok x → f x ≡ g x) → (r >>= f) ≡ (r >>= g)
bind_same (Ok x) f g h = h x refl
bind_same (Err d) f g h = refl

-- if a value was returned, a test whose `false` branch fails was true
pub passed : {A : Type 0} (b : Bool) (r : Result A BerError) (d : BerError) (y : A)
    → cond b r (Err d) ≡ Ok y → (b ≡ true) × (r ≡ Ok y)
passed true r d y e = (refl, e)
passed false r d y e = absurd cc

-- if a value was returned, a test whose `true` branch fails was false
pub refused : {A : Type 0} (b : Bool) (r : Result A BerError) (d : BerError) (y : A)
    → cond b (Err d) r ≡ Ok y → (b ≡ false) × (r ≡ Ok y)
refused true r d y e = absurd cc
refused false r d y e = (refl, e)

-- if a decoding fails with `e`, then so does the decoding without its value (`checked`)
pub checked_err : {A : Type 0} (r : Result A BerError) (e : BerError)
    → r ≡ Err e → checked r ≡ Err e
checked_err r e h = rw h refl

-- if a decoding without its value fails, so does the decoding
pub err_checked : {A : Type 0} (r : Result A BerError) (e : BerError)
    → checked r ≡ Err e → r ≡ Err e
err_checked (Ok x) e h = absurd cc
err_checked (Err d) e h = cc

-- if a decoding without its value is `Ok`, the decoding returned a value
pub ok_checked : {A : Type 0} (r : Result A BerError) (u : Unit {0})
    → checked r ≡ Ok u → (x : A) × (r ≡ Ok x)
ok_checked (Ok x) u h = (x, refl)
ok_checked (Err d) u h = absurd cc

-- octets that were found not to be empty have at least one octet
pub some_left : (octets : List ℕ) (is_empty : Bool)
    → is_empty ≡ eqb (length octets) 0 → is_empty ≡ false → 0 < length octets
some_left octets is_empty e none = grind (arith, common_steps, eqb-false)

-- if `is_empty` is true, then the octets are empty
pub none_left : (octets : List ℕ) (is_empty : Bool)
    → is_empty ≡ eqb (length octets) 0 → is_empty ≡ true → length octets ≡ 0
none_left octets is_empty e none = eqb-true (length octets) 0 (sym e ∙ none)

-- ---- what is known of the result of a decoding

-- a decoding returned a value that satisfies `is`, or a fault that satisfies `fails`
pub data Gives {A : Type 0} (is : A → Type 0) (fails : BerError → Type 0) : Result A BerError → Type 0
  where
    a_value : (x : A) → is x → Gives is fails (Ok x)
    a_fault : (e : BerError) → fails e → Gives is fails (Err e)

-- if any value that `r` returned satisfies `is`, and any fault `fails`, then `Gives` holds of `r`
pub gives : {A : Type 0} {is : A → Type 0} {fails : BerError → Type 0} (r : Result A BerError)
    → ((x : A) → r ≡ Ok x → is x) → ((e : BerError) → r ≡ Err e → fails e) → Gives is fails r
gives (Ok x) value fault = a_value x (value x refl)
gives (Err e) value fault = a_fault e (fault e refl)

-- if `Gives` holds and a value was returned, it satisfies `is`
pub returned : {A : Type 0} {is : A → Type 0} {fails : BerError → Type 0} {r : Result A BerError}
    (x : A) → Gives is fails r → r ≡ Ok x → is x
returned {A} {is} x (a_value y h) e = subst is (ok_is y x e) h
returned x (a_fault d h) e = absurd cc

pub failing : {A : Type 0} {is : A → Type 0} {fails : BerError → Type 0} {r : Result A BerError}
    (e : BerError) → Gives is fails r → r ≡ Err e → fails e
failing d (a_value y h) e = absurd cc
failing {A} {is} {fails} d (a_fault c h) e = subst fails (err_is {A = A} c d e) h

-- if `Gives` holds of a first step, and of the second step after each value that satisfies `is`, then it holds of both together
pub gives_then : {A B : Type 0} {is : A → Type 0} {also : B → Type 0} {fails : BerError → Type 0}
    {r : Result A BerError} (f : A → Result B BerError)
    → Gives is fails r → ((x : A) → is x → Gives also fails (f x)) → Gives also fails (r >>= f)
gives_then f (a_value x h) next = next x h
gives_then f (a_fault e h) next = a_fault e h

-- if both branches of a choice satisfy `Gives`, then the choice does
pub gives_either : {A : Type 0} {is : A → Type 0} {fails : BerError → Type 0}
    {r s : Result A BerError} (b : Bool)
    → (b ≡ true → Gives is fails r) → (b ≡ false → Gives is fails s)
    → Gives is fails (cond b r s)
gives_either true first second = first refl
gives_either false first second = second refl

-- if `Gives` holds with `is` and `fails`, then it holds with what follows from them, `so` and `also`
pub gives_so : {A : Type 0} {is so : A → Type 0} {fails also : BerError → Type 0}
    {r : Result A BerError}
    → ((x : A) → is x → so x) → ((e : BerError) → fails e → also e) → Gives is fails r
    → Gives so also r
gives_so value fault (a_value x h) = a_value x (value x h)
gives_so value fault (a_fault e h) = a_fault e (fault e h)

-- if `Gives` holds of `r` when `rest` is empty, and `d` satisfies `fails` when it isn't, then `Gives` holds of the choice: `r` if `rest` is empty, otherwise
-- the fault `d`
pub gives_end : {A : Type 0} {is : A → Type 0} {fails : BerError → Type 0} {r : Result A BerError}
    (d : BerError) (rest : List ℕ) → (rest ≡ [] → Gives is fails r) → (rest ≢ [] → fails d)
    → Gives is fails (cond (eqb (length rest) 0) r (Err d))
gives_end d rest h left =
    gives_either (eqb (length rest) 0) (λ none. h (nil_from_length rest (eqb-true (length rest) 0 none)))
    (λ some. a_fault d (left (λ none. eqb-false (length rest) 0 some (ap length none))))

pub gives_all : {A : Type 0} {is : A → Type 0} {fails : BerError → Type 0} {r : Result A BerError}
    (d : BerError) (rest : List ℕ) → Gives is fails r → (rest ≢ [] → fails d)
    → Gives (λ x. is x × (rest ≡ [])) fails (cond (eqb (length rest) 0) r (Err d))
gives_all d rest h left = gives_end d rest (λ none. gives_so (λ x value. (value, none)) (λ e fault. fault) h) left

-- if a fault of `r` satisfies `fails`, and `d` satisfies it if `r` returned a value, then the fault of
-- `r`, or `d` if `r` has none, satisfies it
pub gives_fault : {A : Type 0} {is : A → Type 0} (fails : BerError → Type 0)
    {r : Result A BerError} (d : BerError) → Gives is fails r → ((x : A) → is x → fails d)
    → fails (fault_or r d)
gives_fault fails d (a_value x h) other = other x h
gives_fault fails d (a_fault e h) other = h

-- any decoding returns a value or a fault
pub gives_any : {A : Type 0} (r : Result A BerError) → Gives (λ x. Unit {0}) (λ e. Unit {0}) r
gives_any r = gives r (λ x e. tt) (λ d e. tt)
