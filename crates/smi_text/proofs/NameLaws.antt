-- If octets are a word, then there is exactly one name of them.
use Rattle.std.proofs.Common.{◌≡◌, ℕ, Bool, true, false, List, Some, refl, sym, ◌∙◌, ap}
use Rattle.std.proofs.{Math.Bool.Bool-set, lemmas.Bool.false≢true}
use Rattle.smi_text.specs.{trees.Word.is_word, declared.trees.names.Name.Name, private.Format.name_when, private.Format.name_of}

pub some-inj : {A : Type 0} (x y : A) → Some x ≡ Some y → x ≡ y
some-inj x y h = cc

named : (x : List ℕ) → is_word x ≡ true → Name
named x w = record { octets = x; lexical = w }

same-when : (x : List ℕ) (w : is_word x ≡ true) (b : Bool) (e : is_word x ≡ b) → name_when x b e ≡ Some (named x w)
unfolding named
same-when x w true e = ap (λ v. Some (named x v)) (Bool-set (is_word x) true e w)
same-when x w false e = absurd (false≢true (sym e ∙ w))

-- for the octets of a name `n`, `name_of` returns `n`
pub name_of-octets : (n : Name) → name_of n.octets ≡ Some n
unfolding named
name_of-octets n = same-when n.octets n.lexical (is_word n.octets) refl

octets-when : (x : List ℕ) (b : Bool) (e : is_word x ≡ b) (n : Name) → name_when x b e ≡ Some n → n.octets ≡ x
octets-when x true e n h = ap (λ (m : Name). m.octets) (sym (some-inj (record { octets = x; lexical = e }) n h))
octets-when x false e n h = absurd (cc)

-- if `name_of x` is the name `n`, then `n` has the octets `x`
pub name_of-is : (x : List ℕ) (n : Name) → name_of x ≡ Some n → n.octets ≡ x
name_of-is x n h = octets-when x (is_word x) refl n h
