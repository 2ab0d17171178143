-- Rows sorted by name, and what agents return for a GetNext and a Get, by tests of names and values. What agents of MIB views return passes these tests
-- (`views_answer`).
use Rattle.std.proofs.Common.{◌≡◌, ℕ, ◌≤◌, true, false, List, [], ◌∷◌, length, arith, inl, inr, refl, sym, ap, subst}
use Rattle.snmp_wire.specs.Message.{VarBind, end_of_mib_view, Datum, no_such_object, no_such_instance}
use Rattle.snmp_walk.specs.{Names.is_end, Names.is_missing, Names.comes_after, private.ComputedStep.if_present, Walk.rows_after, Walk.rows_named}
use Rattle.snmp_walk.specs.{WalkState.WalkState, Link.Agents, Link.OneOf, Link.IsNextFrom, Link.IsGotFrom, Link.AreViews}
use Rattle.std.proofs.lemmas.Grind.{common_steps}
use Rattle.std.specs.Ordering.{is_lt}
use Rattle.snmp_agent.specs.table.Table.{MibView, IsInstanceValue, IsMibView, IsGet, variable, unknown_object, unknown_instance, IsNext, successor}
use Rattle.snmp_agent.specs.table.Table.{end_of_view}
use Rattle.snmp_walk.proofs.Names.{less_precedes}

-- the name of each row comes after o
abbrev pub AreAfter : List ℕ → List VarBind → Type 0
AreAfter o [] = Unit {0}
AreAfter o (row ∷ rows) = (comes_after o row.name ≡ true) × AreAfter o rows

-- the names of the rows increase
abbrev pub AreIncreasing : List VarBind → Type 0
AreIncreasing [] = Unit {0}
AreIncreasing (row ∷ rows) = AreAfter row.name rows × AreIncreasing rows

-- each row has a name of at least three numbers, and a value
abbrev pub AreInstances : List VarBind → Type 0
AreInstances [] = Unit {0}
AreInstances (row ∷ rows) =
    (3 ≤ length row.name) × (is_end row.value ≡ false) × (is_missing row.value ≡ false) × AreInstances rows

-- the first of the rows or, if there are none, the name o with endOfMibView
abbrev pub or_end : List ℕ → List VarBind → VarBind
or_end o [] = record { name = o; value = end_of_mib_view }
or_end o (p ∷ more) = p

-- What holds of the answers of agents (RFC 3416, sections 4.2.1 and 4.2.2). An answer to a GetNext has endOfMibView or a name that comes after the requested
-- one, and not noSuchObject or noSuchInstance. An answer to a Get has the requested name, and not endOfMibView.
pub record AreLawfulReplies (Next Got : List ℕ → VarBind → Type 0) : Type 0 where
  pub rises : (o : List ℕ) (p : VarBind) → Next o p → is_end p.value ≡ false → comes_after o p.name ≡ true
  pub is_value : (o : List ℕ) (p : VarBind) → Next o p → is_missing p.value ≡ false
  pub same_name : (o : List ℕ) (p : VarBind) → Got o p → p.name ≡ o
  pub is_answer : (o : List ℕ) (p : VarBind) → Got o p → is_end p.value ≡ false

-- The agents serve one table. Its rows are sorted by name. Its answer to a GetNext is the first row after the name or, if there is none, that name with
-- endOfMibView. `got` is its answer to a Get of the name that the walk begins from: the only row with this name if it has a value, and otherwise there is no
-- such row.
pub record IsOneTable (rows : List VarBind) (got : VarBind)
    (Next Got : List ℕ → VarBind → Type 0) (first : WalkState) : Type 0 where
  pub rising : AreIncreasing rows
  pub instances : AreInstances rows
  pub next : (o : List ℕ) (p : VarBind) → Next o p → p ≡ or_end o (rows_after o rows)
  pub answer : (p : VarBind) → Got first.asked p → p ≡ got
  pub row : if_present got ≡ rows_named first.asked rows

-- ---- the answers of MIB views

pub value_no_end : (v : Datum) → IsInstanceValue v → is_end v ≡ false
value_no_end end_of_mib_view h = absurd h
value_no_end v h = refl

pub value_no_miss : (v : Datum) → IsInstanceValue v → is_missing v ≡ false
value_no_miss no_such_object h = absurd h
value_no_miss no_such_instance h = absurd h
value_no_miss v h = refl

next_rises : (view : MibView) (o : List ℕ) (p : VarBind) → IsNext view o p → is_end p.value ≡ false → comes_after o p.name ≡ true
next_rises view o p (successor s) e = ap is_lt (less_precedes o p.name s.after)
next_rises view o p (end_of_view none is) e = grind (arith, common_steps)

next_value : (view : MibView) → IsMibView view → (o : List ℕ) (p : VarBind) → IsNext view o p → is_missing p.value ≡ false
next_value view good o p (successor s) = value_no_miss p.value (good.values p s.row)
next_value view good o p (end_of_view none is) = ap (λ (b : VarBind). is_missing b.value) is

pub get_name : (view : MibView) (o : List ℕ) (p : VarBind) → IsGet view o p → p.name ≡ o
get_name view o p (variable e row) = e
get_name view o p (unknown_object none unknown is) = ap (λ (b : VarBind). b.name) is
get_name view o p (unknown_instance none has is) = ap (λ (b : VarBind). b.name) is

pub get_value : (view : MibView) → IsMibView view → (o : List ℕ) (p : VarBind) → IsGet view o p → is_end p.value ≡ false
get_value view good o p (variable e row) = value_no_end p.value (good.values p row)
get_value view good o p (unknown_object none unknown is) = ap (λ (b : VarBind). is_end b.value) is
get_value view good o p (unknown_instance none has is) = ap (λ (b : VarBind). is_end b.value) is

pub view_of : (views : List MibView) → AreViews views → (view : MibView) → OneOf views view → IsMibView view
view_of [] h view one = absurd one
view_of (v ∷ views) h view (inl e) = subst IsMibView (sym e) h.0
view_of (v ∷ views) h view (inr one) = view_of views h.1 view one

pub views_answer : (agents : Agents) → AreViews agents.tables → AreLawfulReplies (IsNextFrom agents) (IsGotFrom agents)
views_answer agents h = record {
  rises = λ o p n e. next_rises n.0 o p n.2 e;
  is_value = λ o p n. next_value n.0 (view_of agents.tables h n.0 n.1) o p n.2;
  same_name = λ o p n. get_name n.0 o p n.2;
  is_answer = λ o p n. get_value n.0 (view_of agents.tables h n.0 n.1) o p n.2;
}

-- if the agents have only the table `view`, then each of their tables is `view`
pub only_one : (view v : MibView) (tables : List MibView) → tables ≡ view ∷ [] → OneOf tables v → v ≡ view
only_one view v tables e one = elim (subst (λ (t : List MibView). OneOf t v) e one) [ inl same ↦ same | inr never ↦ absurd never ]
