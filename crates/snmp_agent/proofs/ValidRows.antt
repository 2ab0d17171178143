-- What lines define can be in a table: the view of a draft is a MIB view (`is_view`), and the
-- table of its lines (`table_of`).
use Rattle.std.proofs.{Common.arith, Common.◌≡◌, Common.ℕ, Common.true, Common.List, Common.sym, Common.◌∙◌, lemmas.Grind.common_steps}
use Rattle.std.specs.{Ordering.nat_cmp, Cmp.Lexicographic.slice_cmp, Cmp.Lexicographic.nat_list_cmp_total, FinSet.contains, FinSet.contains-from_list}
use Rattle.std.specs.FinMap.{FinMap, entries, entries_sorted, entries-from_sorted, from_sorted, same_entries_map, get, get-from_sorted, find}
use Rattle.snmp_oid.specs.Identifier.{IsIdentifier}
use Rattle.snmp_wire.specs.{Message.Datum, Message.VarBind, Range.IsInRange, Message.Datum.object_id}
use Rattle.snmp_agent.specs.table.Table.{IsRow, IsInstanceName, IsInstanceValue, IsMibView, MibView}
use Rattle.snmp_agent.specs.{table.Entries.view_of, table.Stated.IsTableIn, private.table.TableBuilder.HoldsTable, table.Format.Format, table.Format.IsName}
use Rattle.snmp_agent.specs.{table.Format.IsNameIn, table.Text.HasPrefix, table.Text.HasRow, table.Text.IsValueText}
use Rattle.snmp_agent.proofs.Statements.{name_numbers}

identifier : (text o : List ℕ) → IsName text o → IsIdentifier o
identifier text o h = record { short = h.short; numbers = name_numbers text o h.named }

-- if `text` is a name of `o`, then `o` is an identifier
is_identifier : (format : Format) (text o : List ℕ) → IsNameIn format text o → IsIdentifier o
is_identifier format text o h = grind (arith, common_steps, identifier)

pub instance_value : (format : Format) (tag text : List ℕ) (v : Datum) → IsValueText format tag text v → IsInstanceValue v
instance_value format tag text v h = grind (arith, common_steps, is_identifier)

-- the name of an instance has an encoding
pub name_in_range : (o : List ℕ) → IsInstanceName o → IsInRange (object_id o)
name_in_range o h = (h.wire, h.identifier)

pub value_in_range : (v : Datum) → IsInstanceValue v → IsInRange v
value_in_range v h = grind (arith, common_steps)

-- the view of these entries and object prefixes
abbrev pub view_from : List (List ℕ × Datum) → List (List ℕ) → MibView
view_from entries objects = view_of (from_sorted entries) objects

module _ (format : Format) (lines : List (List ℕ)) (entries : List (List ℕ × Datum)) (objects : List (List ℕ))
    (h : HoldsTable format lines entries objects) where
  value_at : (o : List ℕ) → get (view_from entries objects).rows o ≡ find (slice_cmp nat_cmp) o entries
  value_at o = get-from_sorted (slice_cmp nat_cmp) entries o h.rising

  row_stated : (p : VarBind) → IsRow (view_from entries objects) p → HasRow format lines p
  row_stated p row = (h.rows p).0 (sym (value_at p.name) ∙ row)

  stated_row : (p : VarBind) → HasRow format lines p → IsRow (view_from entries objects) p
  stated_row p stated = value_at p.name ∙ (h.rows p).1 stated

  object_stated : (o : List ℕ) → contains (view_from entries objects).objects o ≡ true → HasPrefix format lines o
  object_stated o has = (h.prefixes o).0 (sym (contains-from_list nat_list_cmp_total objects o) ∙ has)

  stated_has : (o : List ℕ) → HasPrefix format lines o → contains (view_from entries objects).objects o ≡ true
  stated_has o stated = contains-from_list nat_list_cmp_total objects o ∙ (h.prefixes o).1 stated

  pub is_view : IsMibView (view_from entries objects)
  is_view = grind (arith, common_steps, row_stated, instance_value, object_stated, is_identifier)

  pub table_of : IsTableIn format lines (view_from entries objects)
  table_of = grind (arith, common_steps, row_stated, stated_row, object_stated, stated_has)

-- the map made from the entries of a map is that map
pub of_entries : (m : FinMap (slice_cmp nat_cmp) Datum) → from_sorted {R = slice_cmp nat_cmp} (entries m) ≡ m
of_entries m = same_entries_map (from_sorted (entries m)) m (entries-from_sorted (slice_cmp nat_cmp) (entries m) (entries_sorted m))
