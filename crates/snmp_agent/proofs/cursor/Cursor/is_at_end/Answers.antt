use Rattle.std.proofs.Common.{arith, ◌≡◌, ◌↔◌, Bool, true, List, [], ℕ, ap, ◌∙◌}
use Rattle.std.proofs.lemmas.Grind.{common_steps}
use Rattle.snmp_wire.specs.Message.{Datum}
use Rattle.snmp_agent.specs.private.Cursor.{has_none, is_over}
use Rattle.snmp_agent.proofs.cursor.Cursor.is_at_end.Goals as goal

tested : (b : Bool) (es : List (List ℕ × Datum)) → (b ≡ true) ↔ (es ≡ []) → b ≡ has_none es
tested b es h = grind (arith, common_steps)

pub returns : goal.returns
returns c = tested _ c.self.inside.rows c.is_empty.ensures ∙ ap is_over c.self.view_is
