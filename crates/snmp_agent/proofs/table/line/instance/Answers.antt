use Rattle.std.proofs.Common.{◌≡◌, ℕ, List, Some, true, false, sym, subst, ap}
use Rattle.std.specs.Option.{option_map}
use Rattle.snmp_wire.specs.Message.{Datum, VarBind, datum}
use Rattle.snmp_agent.specs.{table.Exact.IsOnly, table.Exact.IsOnlyThere, table.Form.IsInstanceText, table.Format.IsNameIn, table.Text.IsValueText}
use Rattle.snmp_agent.specs.private.table.Row.{datum_of, tag_text}
use Rattle.snmp_agent.proofs.{ValidRows.instance_value, ValidRows.value_in_range, table.line.instance.Given.Over}
use Rattle.snmp_agent.proofs.table.line.instance.Goals as goal
use Rattle.snmp_agent.proofs.table.line.instance.Goals.{In-Some, In-Some-true}

number : (g : Over) (c : In-Some-true g)
    → IsValueText (g.F.LineFormat.format c.args.format.now) (tag_text c.args.tag) c.args.value_text.now (datum c.read_plain.new.into)
number g c =
    let format = g.F.LineFormat.format c.args.format.now in
    let only = c.in-Some-true.ensures.plain format in
    let value : IsOnlyThere (IsValueText format (tag_text c.args.tag) c.args.value_text.now) true (datum c.read_plain.new.into) =
    rw c.in-Some-true.field-0-test at only in value.0

text : (g : Over) (c : In-Some g)
    → IsValueText (g.F.LineFormat.format c.args.format.now) (tag_text c.args.tag) c.args.value_text.now (datum_of c.in-Some.stated)
text g c =
    let format = g.F.LineFormat.format c.args.format.now in
    let value : IsOnly (IsValueText format (tag_text c.args.tag) c.args.value_text.now) (option_map datum_of
    (Some c.in-Some.stated)) = rw c.in-Some.is at c.in_ok-stated-in-None.ensures in value.0

pub new-requires-clause-value : goal.new-requires-clause-value
new-requires-clause-value g c =
    let format = g.F.LineFormat.format c.args.format.now in
    let value = datum c.read_plain.new.into in
    value_in_range value (instance_value format (tag_text c.args.tag) c.args.value_text.now value (number g
    (goal.at.new-requires-clause-value g c).In-Some-true))

pub encoded_text-requires-clause-value : goal.encoded_text-requires-clause-value
encoded_text-requires-clause-value g c =
    let format = g.F.LineFormat.format c.args.format.now in
    let value = datum_of c.in-Some.stated in
    value_in_range value (instance_value format (tag_text c.args.tag) c.args.value_text.now value (text g
    (goal.at.encoded_text-requires-clause-value g c).In-Some))

pub returns-in_ok-row-in-Some-true : goal.returns-in_ok-row-in-Some-true
returns-in_ok-row-in-Some-true g c =
    let format = g.F.LineFormat.format c.args.format.now in
    let row : VarBind = c.in_ok-row-in-Some-true.row in
    let named : IsOnly (IsNameIn format c.args.text.now) (Some c.name.new.into) = rw c.if-not-name.false at c.name.ensures in
    let name : row.name ≡ c.name.new.into = ap (λ (p : VarBind). p.name) c.in_ok-row-in-Some-true.ensures in
    let value : row.value ≡ datum c.read_plain.new.into = ap (λ (p : VarBind). p.value) c.in_ok-row-in-Some-true.ensures in (
      subst (λ (o : List ℕ). IsInstanceText format c.args.text.now o) (sym name)
          (named.0, c.is_instance_name.ensures.0 c.if-not-is_instance_name.false),
      subst (λ (v : Datum). IsValueText format (tag_text c.args.tag) c.args.value_text.now v) (sym value)
          (number g (goal.at.returns-in_ok-row-in-Some-true g c).In-Some-true),
    )

pub returns-in-Some-false : goal.returns-in-Some-false
returns-in-Some-false g c =
    let format = g.F.LineFormat.format c.args.format.now in
    let named : IsOnly (IsNameIn format c.args.text.now) (Some c.name.new.into) = rw c.if-not-name.false at c.name.ensures in
    let only = c.in-Some-false.ensures.plain format in
    let none : IsOnlyThere (IsValueText format (tag_text c.args.tag) c.args.value_text.now) false (datum c.read_plain.new.into) =
    rw c.in-Some-false.field-0-test at only in
    ((c.name.new.into, (named.0, c.is_instance_name.ensures.0 c.if-not-is_instance_name.false)), none)
