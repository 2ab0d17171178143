use Rattle.std.proofs.Common.{◌≡◌, ◌≤◌, List, ℕ, [], ◌∷◌, length, refl, subst, ◌∙◌, arith}
use Rattle.std.specs.Bool.{Decides, one_answer}
use Rattle.snmp_oid.specs.Identifier.{IsBelow, wire}
use Rattle.snmp_walk.proofs.Names.{below_decided}
use Rattle.snmp_walk.proofs.root.Root.is_above.Goals as goal

-- a root of at least two numbers is its own wire form
sent_as_it_is : (o : List ℕ) → 2 ≤ length o → wire o ≡ o
sent_as_it_is [] long = absurd (omega (arith, long))
sent_as_it_is (x ∷ []) long = absurd (omega (arith, long))
sent_as_it_is (x ∷ y ∷ rest) long = refl

pub returns : goal.returns
returns c =
    let root : c.name.result ≡ c.args.self.now = c.name.ensures ∙ c.self.invariant
    ∙ sent_as_it_is c.self.inside.oid (omega (arith, c.if-len-lt2.false, c.len.ensures.value)) ∙ c.self.view_is in
    one_answer _ _ (subst (λ (r : List ℕ). Decides c.is_below.result (IsBelow c.args.name.now r)) root c.is_below.ensures)
    (below_decided c.args.self.now c.args.name.now)
