use Rattle.std.proofs.{Common.arith, Common.◌∙◌, Common.◌++◌, Common.refl, Common.sym, Common.ap, Common.List, Common.ℕ, lemmas.Grind.common_steps}
use Rattle.snmp_walk.proofs.{Variables.variables_are, OneTable.walk_from_wire, Names.wire_begins}
use Rattle.snmp_walk.proofs.walk_core.WalkCore.start.Goals as goal

pub returns-clause-fresh : goal.returns-clause-fresh
returns-clause-fresh c =
    let h = wire_begins c.args.root in
    record { phase = c.first_phase.ensures; count = refl; begins = (h.0, c.in-Ok.ensures.ok ∙ h.1 ∙ ap (λ (r : List ℕ). r ++ h.0) (sym c.new.ensures)) }

pub returns-clause-walk : goal.returns-clause-walk
returns-clause-walk c = grind (arith, common_steps, walk_from_wire, variables_are)
