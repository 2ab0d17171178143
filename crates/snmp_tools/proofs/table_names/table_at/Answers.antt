use Rattle.std.proofs.Common.{ℕ, List, inr, refl, subst}
use Rattle.std.specs.Str.Lines.{lines}
use Rattle.snmp_agent.specs.table.Stated.{IsFirstFault, IsTableOf}
use Rattle.snmp_tools.specs.serve.TableFile.{names_in}
use Rattle.snmp_tools.proofs.table_names.table_at.Goals as goal

pub returns-in-Ok-read_with-clause-table : goal.returns-in-Ok-read_with-clause-table
returns-in-Ok-read_with-clause-table g c =
    let tree = c.args.tree.now in (
      names_in tree,
      c.names_are_meant.ensures tree,
      c.in-Ok.text.items,
      c.in-Ok.ensures.text_held,
      subst (λ (t : List ℕ). IsTableOf (names_in tree) (lines t) c.in-Ok-read_with.table) c.deref.ensures.value c.in-Ok-read_with.ensures.table,
    )

pub returns-clause-err : goal.returns-clause-err
returns-clause-err g c =
    let tree = c.args.tree.now in
    inr (inr (
      names_in tree,
      c.names_are_meant.ensures tree,
      c.in-Ok.text.items,
      c.in-Err.fault,
      c.in-Ok.ensures.text_held,
      subst (λ (t : List ℕ). IsFirstFault (names_in tree) (lines t) c.in-Err.fault) c.deref.ensures.value c.in-Err.ensures.fault,
      refl,
    ))
