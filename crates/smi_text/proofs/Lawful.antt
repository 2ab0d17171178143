-- A format is lawful for a spelling if it is sound and complete: what it reads is what is spelled, and what is spelled is read.
use Rattle.std.specs.Prelude.{◌≡◌, true, false, List, Some}
use Rattle.std.proofs.Common.{◌⊎◌}
use Rattle.smi_text.specs.{lexer.Token.Item, trees.Mark.Mark, private.Format.ItemsMatch, private.Format.Format, private.Format.begins}

pub record Lawful {A : Type 0} (s : A → List Mark) (f : Format A) : Type 0 where
  -- if `f` reads `x`, then the tokens that it takes match the marks `s x`
  pub takes : (ts rest : List Item) (x : A) → f.read ts ≡ Some (x, rest) → ItemsMatch (s x) ts rest
  -- if tokens match the marks `s x`, and the token after them meets no condition of `f.stop`, then `f` reads `x` from them
  pub again : (x : A) (ts rest : List Item) → ItemsMatch (s x) ts rest → begins f.stop rest ≡ false → f.read ts ≡ Some (x, rest)
  -- tokens that match the marks `s x` begin with a token that meets a condition of `f.first`; there may be no tokens only if `f.empty` is true
  pub starts : (x : A) (ts rest : List Item) → ItemsMatch (s x) ts rest → (begins f.first ts ≡ true) ⊎ ((f.empty ≡ true) × (ts ≡ rest))
