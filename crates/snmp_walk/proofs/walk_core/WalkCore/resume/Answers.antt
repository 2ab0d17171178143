use Rattle.std.proofs.Common.{arith, ap, sym, List, ℕ, ◌++◌, ◌≡◌, ◌⊎◌, ◌∙◌, refl, rules}
use Rattle.std.proofs.lemmas.Grind.{common_steps}
use Rattle.snmp_oid.specs.Identifier.{IsBelow}
use Rattle.snmp_walk.proofs.Names.{wire_begins_at}
use Rattle.snmp_walk.proofs.walk_core.WalkCore.resume.Goals as goal
use Rattle.snmp_walk.proofs.walk_core.WalkCore.resume.Goals.{else-ne-via-then-ne+else-not-is_below, else-ne-via-else-ne}

pub returns-clause-fresh : goal.returns-clause-fresh
returns-clause-fresh c =
    let at : (c.args.after.now ≡ c.args.root) ⊎ IsBelow c.args.after.now c.args.root =
    elim c.else-ne.branch [ else-ne-via-then-ne+else-not-is_below w ↦ search rules | else-ne-via-else-ne w ↦ search rules ] in
    let h = wire_begins_at c.args.root c.args.after.now at in
    record { phase = refl; count = refl; begins = (h.0, c.in-Ok-sendable.ensures.ok ∙ h.1 ∙ ap (λ (r : List ℕ). r ++ h.0) (sym c.new.ensures)) }

pub returns-clause-walk : goal.returns-clause-walk
returns-clause-walk c = grind (arith, common_steps)
