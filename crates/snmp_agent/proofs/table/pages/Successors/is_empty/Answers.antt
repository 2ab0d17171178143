use Rattle.std.proofs.{lemmas.Grind.common_steps, lemmas.Bool.eqb-true}
use Rattle.std.proofs.Common.{◌≡◌, ◌≤◌, ◌++◌, ◌∷◌, [], List, ℕ, length, refl, arith, eq-eqb}
use Rattle.snmp_wire.specs.Message.{Datum, VarBind}
use Rattle.snmp_agent.specs.{declared.table.page.Page.Page, table.Pages.entries_in, table.Pages.entries_of}
use Rattle.snmp_agent.proofs.table.pages.Successors.is_empty.Goals as goal

none : (rows : List VarBind) (pages : List Page) → length rows ≡ 0 → length pages ≡ 0 → entries_of rows ++ entries_in pages ≡ []
none rows pages rows_none pages_none = grind (arith, common_steps)

page_left : (rows : List VarBind) (more : List (List ℕ × Datum)) → 1 ≤ length rows → entries_of rows ++ more ≡ [] → ⊥
page_left [] more some e = omega (arith, some)
page_left (row ∷ rows) more some e = cc

none_left : (rows : List VarBind) (pages : List Page) → entries_of rows ++ entries_in pages ≡ [] → (length rows ≡ 0) × (length pages ≡ 0)
none_left [] [] e = (refl, refl)
none_left [] (page ∷ pages) e = absurd (page_left page.rows.items (entries_in pages) page.some e)
none_left (row ∷ rows) pages e = let never : ⊥ = cc in absurd never

pub returns-then-is_empty : goal.returns-then-is_empty
returns-then-is_empty c = grind (arith, common_steps, eqb-true, none, eq-eqb, none_left)

pub returns-else-is_empty : goal.returns-else-is_empty
returns-else-is_empty c = grind (arith, common_steps, eq-eqb, none_left)
