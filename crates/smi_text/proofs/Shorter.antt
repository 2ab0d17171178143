-- Productions that can occur several times in a row take at least one token.
use Rattle.std.proofs.Common.{◌≡◌, ◌<◌, false, List, Result, Ok, Err, length, refl}
use Rattle.std.specs.Prelude.{OnOk}
use Rattle.smi_text.specs.{lexer.Token.Item, declared.error.Stop.Stop, trees.Mark.Mark, private.Format.Format, private.Format.lower}
use Rattle.smi_text.specs.private.Returned.{ReturnsReading}
use Rattle.smi_text.specs.private.Grammar as g
use Rattle.smi_text.proofs.{Productions.all, Lawful.Lawful, Many.reading-shorter, Laws.lower-law, RawLaws.before_assign-law, RawLaws.before_end-law}
use Rattle.smi_text.proofs.ProductionLaws.{part-law, later_part-law, named_number-law, range-law, field-law, revision-law, imported_symbol-law}
use Rattle.smi_text.proofs.ProductionLaws.{import_clause-law}

-- if the format reads a part, then fewer tokens are left than before
abbrev pub TakesSome : {A : Type 0} → Format A → Type 0
TakesSome {A} f = (r : Result A Stop) (ts rest : List Item) → ReturnsReading r rest (f.read ts) → OnOk r (length rest < length ts)

gives-shorter : {A : Type 0} {s : A → List Mark} {f : Format A} → Lawful s f → f.empty ≡ false → TakesSome f
gives-shorter law solid (Ok x) ts rest h = reading-shorter law solid x ts rest h
gives-shorter law solid (Err e) ts rest h = tt

pub part_shorter : TakesSome g.part
part_shorter = unfold all in gives-shorter part-law refl

pub later_part_shorter : TakesSome g.later_part
later_part_shorter = unfold all in gives-shorter later_part-law refl

pub named_number_shorter : TakesSome g.named_number
named_number_shorter = unfold all in gives-shorter named_number-law refl

pub range_shorter : TakesSome g.range
range_shorter = unfold all in gives-shorter range-law refl

pub field_shorter : TakesSome g.field
field_shorter = unfold all in gives-shorter field-law refl

pub name_shorter : TakesSome lower
name_shorter = unfold all in gives-shorter lower-law refl

pub revision_shorter : TakesSome g.revision
revision_shorter = unfold all in gives-shorter revision-law refl

pub before_assign_shorter : TakesSome g.before_assign
before_assign_shorter = unfold all in gives-shorter before_assign-law refl

pub before_end_shorter : TakesSome g.before_end
before_end_shorter = unfold all in gives-shorter before_end-law refl

pub symbol_shorter : TakesSome g.imported_symbol
symbol_shorter = unfold all in gives-shorter imported_symbol-law refl

pub import_clause_shorter : TakesSome g.import_clause
import_clause_shorter = unfold all in gives-shorter import_clause-law refl

pub definition-solid : g.definition.empty ≡ false
definition-solid = unfold all in refl

pub module_text-solid : g.module_text.empty ≡ false
module_text-solid = unfold all in refl
