-- If no row has a name, then a Get returns the exception that the object prefixes decide (`get_no_instance`, `get_no_object`).
use Rattle.std.proofs.Common.{◌≡◌, ℕ, zero, suc, ◌+◌, ◌<◌, List, [], ◌∷◌, map, length, take, Some, None, refl, sym, ◌∙◌, ap, subst, arith}
use Rattle.std.proofs.Common.{◌||◌, true, false, Vec, Global, length-append}
use Rattle.std.specs.{Ordering.nat_cmp, Ordering.is_eq, Ordering.eq_by_cmp, Cmp.Lexicographic.slice_cmp, Cmp.Lexicographic.nat_list_cmp_total}
use Rattle.std.specs.{FinSet.contains, FinSet.contains-from_list, FinSet.from_list, FinMap.get, List.Contains, List.slice_get, List.list_any}
use Rattle.std.proofs.{Math.Seq.take-append_seam, lemmas.List.Elements.Contains-append_right}
use Rattle.snmp_wire.specs.{Message.VarBind, Message.Datum.no_such_object, Message.Datum.no_such_instance}
use Rattle.snmp_agent.specs.table.Table.{HasObject, IsGet, MibView, unknown_object, unknown_instance}
use Rattle.snmp_agent.specs.{table.Entries.HasBeginning, table.Entries.entry_of, table.Pages.entries_of}

pub listed_at : (rows : List VarBind) (k : ℕ) (row : VarBind) → slice_get rows k ≡ Some row → Contains (entries_of rows) (entry_of row)
listed_at [] k row at = let no : ⊥ = cc in absurd no
listed_at (first ∷ rows) zero row at = let same : first ≡ row = cc in (0, omega arith, ap entry_of same)
listed_at (first ∷ rows) (suc k) row at = Contains-append_right (entry_of first ∷ []) (entries_of rows) (entry_of row) (listed_at rows k row at)

-- ---- Get

has_object : (view : MibView) (objects : List (List ℕ)) (o : List ℕ) → view.objects ≡ from_list objects → HasBeginning objects o → HasObject view o
has_object view objects o same h = (h.0, h.1, ap (λ os. contains os h.0) same ∙ contains-from_list nat_list_cmp_total objects h.0 ∙ h.2, h.3)

has_beginning : (view : MibView) (objects : List (List ℕ)) (o : List ℕ) → view.objects ≡ from_list objects → HasObject view o → HasBeginning objects o
has_beginning view objects o same h = (h.0, h.1, sym (ap (λ os. contains os h.0) same ∙ contains-from_list nat_list_cmp_total objects h.0) ∙ h.2, h.3)

pub get_no_instance : (view : MibView) (objects : List (List ℕ)) (o : List ℕ) → view.objects ≡ from_list objects → get view.rows o ≡ None
    → HasBeginning objects o → IsGet view o (record { name = o; value = no_such_instance })
get_no_instance view objects o same nothing h = unknown_instance nothing (has_object view objects o same h) refl

pub get_no_object : (view : MibView) (objects : List (List ℕ)) (o : List ℕ) → view.objects ≡ from_list objects → get view.rows o ≡ None
    → (HasBeginning objects o → ⊥) → IsGet view o (record { name = o; value = no_such_object })
get_no_object view objects o same nothing never = unknown_object nothing (λ h. never (has_beginning view objects o same h)) refl

-- ---- object prefixes

-- a look-up of `o` among the keys finds it if and only if `o` is among the lists of their numbers
pub list_any-items : (o : List ℕ) (keys : List (Vec ℕ Global))
    → list_any (λ key. is_eq (slice_cmp nat_cmp o key.items)) keys ≡ list_any (eq_by_cmp (slice_cmp nat_cmp) o) (map (λ key. key.items) keys)
list_any-items o [] = refl
list_any-items o (key ∷ keys) = ap (λ b. is_eq (slice_cmp nat_cmp o key.items) || b) (list_any-items o keys)

-- if no prefix of the name is an object prefix, then no object prefix equals or begins the name
pub no_beginning : (objects : List (List ℕ)) (o : List ℕ) → ((k : ℕ) → k < length o + 1
    → list_any (eq_by_cmp (slice_cmp nat_cmp) (take k o)) objects ≡ false) → HasBeginning objects o → ⊥
no_beginning objects o never h =
    let object = h.0 in
    let prefix : take (length object) o ≡ object = ap (take (length object)) h.3 ∙ take-append_seam object h.1 in
    let short : length object < length o + 1 = omega (arith, ap length h.3, length-append object h.1) in
    let none : list_any (eq_by_cmp (slice_cmp nat_cmp) object) objects ≡ false =
    subst (λ (p : List ℕ). list_any (eq_by_cmp (slice_cmp nat_cmp) p) objects ≡ false) prefix (never (length object) short) in
    let some : list_any (eq_by_cmp (slice_cmp nat_cmp) object) objects ≡ true = h.2 in
    absurd (cc)
