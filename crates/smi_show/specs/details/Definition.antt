-- The clauses of a definition as details show them: each begins a line with two blanks, its word
-- and a tab.
use Rattle.std.specs.Prelude.{ℕ, List, [], ◌++◌, codes, Option, Some, None}
use Rattle.smi_text.specs.{declared.trees.tree.DefKind.DefKind, declared.trees.tree.Status.Status}
use Rattle.smi_text.specs.declared.trees.tree.DefKind.TheVariants as D
use Rattle.smi_text.specs.declared.trees.tree.ObjectType.{ObjectType}
use Rattle.smi_show.specs.details.Syntax.{syntax_text}

abbrev pub clause_text : List ℕ → List ℕ → List ℕ
clause_text word text = codes "  " ++ word ++ codes "\t" ++ text ++ codes "\n"

abbrev pub units_clause : Option (List ℕ) → List ℕ
units_clause None = []
units_clause (Some units) = clause_text (codes "UNITS") units

abbrev pub status_text : Status → List ℕ
status_text s =
    clause_text (codes "STATUS") s.status ++ clause_text (codes "DESCRIPTION") s.description

abbrev pub object_type_text : ObjectType → List ℕ
object_type_text d =
    clause_text (codes "SYNTAX") (syntax_text d.syntax) ++ units_clause d.units
    ++ clause_text (codes "MAX-ACCESS") d.max_access ++ status_text d.status

-- the clauses SYNTAX, UNITS, MAX-ACCESS, STATUS and DESCRIPTION as far as the definition has them,
-- strings with their quotes; none for a type, or if the clauses are stored as tokens
abbrev pub definition_text : DefKind → List ℕ
definition_text (D.ObjectIdentifier value) = []
definition_text (D.ModuleIdentity d) = clause_text (codes "DESCRIPTION") d.description
definition_text (D.ObjectIdentity d) = status_text d.status
definition_text (D.ObjectType d) = object_type_text d
definition_text (D.NotificationType d) = status_text d.status
definition_text (D.ObjectGroup d) = status_text d.status
definition_text (D.NotificationGroup d) = status_text d.status
definition_text (D.ModuleCompliance d) = []
definition_text (D.AgentCapabilities d) = []
definition_text (D.TextualConvention d) = []
definition_text (D.TypeAssignment d) = []
definition_text (D.Sequence fields) = []
definition_text (D.Choice tokens) = []
definition_text (D.Macro tokens) = []
