use Rattle.std.proofs.Common.{List, ap, subst, sym, ℕ, ◌∙◌}
use Rattle.snmp_words.specs.{Command.is_taken, Words.StateJob, Words.snmpwalk}
use Rattle.snmp_tools.specs.{private.Planned.numeric_walk, serve.TableFile.names_in}
use Rattle.smi_tree.specs.Bare.{bare}
use Rattle.snmp_tools.proofs.TableWalks.{prints_rows, words_are}
use Rattle.snmp_tools.proofs.laws.table_walks.Goals as goal

pub returns-clause-taken : goal.returns-clause-taken
returns-clause-taken c = λ path root. ap is_taken (words_are path root) ∙ c.walks_are_taken.ensures.joined path _

pub returns-clause-stated : goal.returns-clause-stated
returns-clause-stated c = λ path root.
    subst (λ (words : List (List ℕ)). StateJob words (snmpwalk (numeric_walk path root))) (sym (words_are path root))
    (c.walks_are_taken.ensures.joined_job path _)

pub returns-clause-printed : goal.returns-clause-printed
returns-clause-printed c =
    prints_rows c.bare_tree.ensures c.numbers_are_read.ensures (c.names_are_meant.ensures bare) c.instances_below.ensures.below
    c.instances_below.ensures.ordered c.one_answer.ensures.get (c.table_of_lines.ensures (names_in bare))
    (c.unmarked_table.ensures.table (names_in bare)) c.short_rows_have_room.ensures
