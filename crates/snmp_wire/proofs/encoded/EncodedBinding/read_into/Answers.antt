use Rattle.std.proofs.Common.{arith, ◌≡◌, ◌∷◌, [], true, false, List, Bool, refl, sym, ◌∙◌}
use Rattle.std.proofs.lemmas.Grind.{common_steps}
use Rattle.snmp_wire.specs.Message.{VarBind}
use Rattle.snmp_wire.proofs.Kept.{are_bindings, one_binding}
use Rattle.snmp_wire.proofs.encoded.EncodedBinding.read_into.Goals as goal

pub new-requires : goal.new-requires
new-requires c = grind (arith, common_steps, are_bindings)

one : (all : List VarBind) (p q : VarBind) (rest : List VarBind) (read : Bool) → all ≡ p ∷ []
    → (read ≡ true → all ≡ q ∷ rest) → (read ≡ false → all ≡ []) → q ≡ p
one all p q rest true is some none = let e : q ∷ rest ≡ p ∷ [] = sym (some refl) ∙ is in cc
one all p q rest false is some none = let e : p ∷ [] ≡ [] = sym is ∙ none refl in absurd (cc)

pub returns : goal.returns
returns c = grind (arith, common_steps, one_binding, one)
