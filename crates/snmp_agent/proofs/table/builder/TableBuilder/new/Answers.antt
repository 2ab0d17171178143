use Rattle.std.proofs.Common.{◌≡◌, ◌∙◌, ◌++◌, ℕ, List, [], ap, map, refl, subst, sym}
use Rattle.std.specs.{List.Sorted.IsPermutation, FinMap.entries}
use Rattle.std.proofs.lemmas.List.Sorted.{IsPermutation-refl}
use Rattle.snmp_wire.specs.Message.{Datum}
use Rattle.snmp_agent.specs.table.Pages.{entries_of}
use Rattle.snmp_agent.proofs.TableDrafts.{holds_no_lines}
use Rattle.snmp_agent.proofs.table.builder.TableBuilder.new.Goals as goal

pub returns-clause-draft : goal.returns-clause-draft
returns-clause-draft c = λ format.
    let late = entries_of c.new-2.result.items in
    let none : entries c.new.result ++ late ≡ [] =
    ap (λ es. es ++ late) c.new.ensures ∙ ap entries_of c.new-2.ensures.items in
    let P : List (List ℕ × Datum) → Type 0 = λ es. IsPermutation [] es in (
      [],
      holds_no_lines format [] _ refl (ap (map (λ o. o.items)) c.new-3.ensures.empty),
      subst P (sym none) (IsPermutation-refl []),
    )
