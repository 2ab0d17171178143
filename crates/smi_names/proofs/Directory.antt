-- The entry of a name has what decides the name's meaning, so names resolve to what their entries resolve to.
use Rattle.std.proofs.{lemmas.Grind.common_steps, lemmas.Bool.cases_lt, lemmas.Bool.eqb-true}
use Rattle.std.proofs.Common.{◌≡◌, ℕ, ◌-◌, ◌≤◌, ◌==◌, ◌&&◌, inl, inr, Bool, true, List, [], ◌∷◌, length, map, unwrap_or, is_some}
use Rattle.std.proofs.Common.{MatchOption, Option, Some, None, refl, sym, ◌∙◌, arith, subst}
use Rattle.std.proofs.lemmas.Option.{slice_get-map, slice_get_past, slice_get_within, get_or_from_slice_get}
use Rattle.std.specs.{List.slice_get, List.find, List.position_from, Option.option_and_then, Option.option_map, Borrow.Bor}
use Rattle.smi_names.specs.{chains.Chain.nowhere, chains.Resolution.ComesTo, meaning.Names.IsSourced, meaning.Directory.index_by}
use Rattle.smi_names.specs.{meaning.Directory.is_entry_of, meaning.Scopes.content_named, meaning.Resolved.IsDirectory, meaning.Resolved.known_names}
use Rattle.smi_names.specs.{meaning.Parents.AreResolved, declared.meaning.entry.Entry.Entry, declared.meaning.directory.Directory.Directory}
use Rattle.smi_names.specs.declared.chains.shared.Resolution.{Resolution}
use Rattle.smi_names.specs.declared.chains.shared.Resolution.TheVariants as R
use Rattle.smi_text.specs.{trees.Mark.same_text, declared.trees.tree.Module.Module}
use Rattle.smi_names.specs.meaning.Meaning.{QualifiedName, Decision, decision, origin, origin_by, origin_in, module_named}
use Rattle.smi_names.specs.meaning.Scopes.{NameIndices, Content, content_of, index_in, known, decided_as, IsDecided}
use Rattle.smi_names.proofs.{Scopes.get_within, Scopes.same, FirstPosition.IsFirst, FirstPosition.is_first}

pub past_get : {X : Type 0} (xs : List X) (i : ℕ) → slice_get xs i ≡ None → length xs ≤ i
past_get xs i e = elim (cases_lt i (length xs)) [ inl l ↦ let r = get_within xs i l in let h = r.1 in absurd (cc) | inr l ↦ l ]

pub find_true : (t : Module → Bool) (ms : List Module) (m : Module) → find t ms ≡ Some m → t m ≡ true
find_true t [] m e = absurd (cc)
find_true t (x ∷ ms) m e = grind (arith, common_steps, find_true t ms m)

-- `c` is the entry of the name `a` in the modules `ms`: it has this name, the first module named `a.home`, and what decides the name's meaning there
pub record IsDecidedBy (ms : List Module) (a : QualifiedName) (c : Content) : Type 0 where
  pub named : module_named ms a.home ≡ Some c.home
  pub by : decision c.home a.name ≡ Some c.decided
  pub name : c.name ≡ a.name
  pub home : c.home.name.octets ≡ a.home

pub is_decided : (ms : List Module) (a : QualifiedName) (c : Content) → content_named ms a ≡ Some c → IsDecidedBy ms a c
is_decided ms a c e = of_module (module_named ms a.home) refl e
  where
    of_decision : (m : Module) → module_named ms a.home ≡ Some m → m.name.octets ≡ a.home → (d : Option Decision) → decision m a.name ≡ d
        → decided_as m a.name d ≡ Some c → IsDecidedBy ms a c
    of_decision m named home d by e = grind (arith, common_steps)

    of_module : (r : Option Module) → module_named ms a.home ≡ r → option_and_then (λ m. decided_as m a.name (decision m a.name)) r ≡ Some c
        → IsDecidedBy ms a c
    of_module None named e = absurd (cc)
    of_module (Some m) named e =
        let home = same m.name.octets a.home (find_true (λ n. same_text n.name.octets a.home) ms m named) in
        of_decision m named home (decision m a.name) refl e

-- what `homes` has for the name `x` is the index of the first module of this name, if there is one
first_named : (ms : List Module) (d : Directory) → IsDirectory ms d → (x : List ℕ) (r : Option ℕ) → index_in d.homes x ≡ r
    → IsFirst (λ (m : Module). same_text m.name.octets x) 0 ms (module_named ms x) r
first_named ms d dir x r e =
    let t = λ (m : Module). same_text m.name.octets x in subst (λ s. IsFirst t 0 ms (module_named ms x) s) (sym (dir.placed x) ∙ e) (is_first t 0 ms)

-- if `a` has a meaning, then the entry at index `index_by d a` has what decides it in the first module named `a.home`; otherwise no entry is at this index
pub entry_at : (ms : List Module) (d : Directory) → IsDirectory ms d → (a : QualifiedName)
    → option_map content_of (slice_get d.entries.items (index_by d a))
    ≡ option_and_then (λ m. decided_as m a.name (decision m a.name)) (module_named ms a.home)
entry_at ms d dir a = by (index_in d.homes a.home) refl
  where
    inner : (m : Module) (scope : NameIndices) → known d.entries.items scope a.name ≡ decided_as m a.name (decision m a.name)
        → (r : Option ℕ) → index_in scope a.name ≡ r
        → option_map content_of (slice_get d.entries.items (unwrap_or r (length d.entries.items))) ≡ decided_as m a.name (decision m a.name)
    inner m scope k r e = grind (arith, common_steps, slice_get_past)

    by : (r : Option ℕ) → index_in d.homes a.home ≡ r
        → option_map content_of (slice_get d.entries.items
        (unwrap_or (option_and_then (λ i. option_and_then (λ scope. index_in scope a.name) (slice_get d.scopes.items i)) r) (length d.entries.items)))
        ≡ option_and_then (λ m. decided_as m a.name (decision m a.name)) (module_named ms a.home)
    by None e =
        let none : module_named ms a.home ≡ None = first_named ms d dir a.home None e in
        rw (slice_get_past d.entries.items (length d.entries.items) (omega arith), none) refl
    by (Some i) e =
        let found = first_named ms d dir a.home (Some i) e in
        let m = found.2 in
        let all : i - 0 ≡ i = omega arith in
        let at : slice_get ms i ≡ Some found.2 = rw all at found.3 in
        let s = get_within d.scopes.items i (omega (arith, found.1, dir.named.long)) in
        rw (s.1, found.4) (inner m s.0 (dir.named.each i m s.0 at s.1 a.name) (index_in s.0 a.name) refl)

-- if nothing decides the name `a` in the module `r`, or `r` is `None`, then the origin of `a` is `nowhere`
pub undecided : (a : QualifiedName) (r : Option Module) → None ≡ option_and_then (λ m. decided_as m a.name (decision m a.name)) r → origin_in a r ≡ nowhere
undecided a None e = refl
undecided a (Some m) e = step (decision m a.name) e
  where
    step : (v : Option Decision) → None ≡ decided_as m a.name v → origin_by a v ≡ nowhere
    step v e = grind (arith, common_steps)

module _ (ms : List Module) (d : Directory) (rs : List Resolution) (dir : IsDirectory ms d) (is : AreResolved (known_names ms d) rs) where
  -- if `p` is the index of the entry of the name `a`, then `a` resolves to what `rs` has at `p`; if `rs` has nothing at `p`, the origin of `a` is `nowhere`
  resolved_at : (p : ℕ) (a : QualifiedName) (r : Option (Bor Resolution)) → slice_get (map content_of d.entries.items) p ≡ content_named ms a
      → slice_get rs p ≡ option_map (λ x. x.now) r → MatchOption r (origin ms a ≡ nowhere) (λ x. ComesTo (origin ms) a x.now)
  resolved_at p a None named e =
      let past = slice_get_past (map content_of d.entries.items) p (omega (arith, past_get rs p e, is.long)) in
      undecided a (module_named ms a.home) (sym past ∙ named)
  resolved_at p a (Some x) named e = rw (get_or_from_slice_get rs p x.now R.Unresolved e) at (is.each p a named)

  pub resolved : (a : QualifiedName) (r : Option (Bor Resolution))
      → slice_get rs (index_by d a) ≡ option_map (λ x. x.now) r → MatchOption r (origin ms a ≡ nowhere) (λ x. ComesTo (origin ms) a x.now)
  resolved a r = resolved_at (index_by d a) a r (slice_get-map content_of d.entries.items (index_by d a) ∙ entry_at ms d dir a)

  -- if module `m`, at index `i`, is the first of its name, and the entry at `p` belongs to the name `x` in `m`, then `x` resolves to what `rs` has at `p`
  pub resolved_entry : (p i : ℕ) (m : Module) (x : List ℕ)
      (r : Option (Bor Resolution)) → slice_get ms i ≡ Some m → module_named ms m.name.octets ≡ Some m
      → is_entry_of (slice_get d.entries.items p) i x ≡ true → slice_get rs p ≡ option_map (λ y. y.now) r
      → MatchOption r (origin ms (record { home = m.name.octets; name = x }) ≡ nowhere)
      (λ y. ComesTo (origin ms) (record { home = m.name.octets; name = x }) y.now)
  resolved_entry p i m x r at named entry =
      resolved_at p (record { home = m.name.octets; name = x }) r (by (slice_get d.entries.items p) refl entry)
    where
      both_true : (a b : Bool) → (a && b) ≡ true → (a ≡ true) × (b ≡ true)
      both_true a b e = grind (arith, common_steps)

      by : (s : Option Entry) → slice_get d.entries.items p ≡ s → is_entry_of s i x ≡ true
          → slice_get (map content_of d.entries.items) p ≡ content_named ms (record { home = m.name.octets; name = x })
      by None there h = absurd (cc)
      by (Some e) there h =
          let both = both_true (e.source.0 == i) (same_text e.name.now x) h in
          let index : e.source.0 ≡ i = eqb-true e.source.0 i both.0 in
          let name : e.name.now ≡ x = same e.name.now x both.1 in
          let within = slice_get_within d.entries.items p e there in
          let sourced : IsSourced ms e = rw (get_or_from_slice_get d.entries.items p e e there) at (dir.named.sourced p e within) in
          let decided : IsDecided e = rw (get_or_from_slice_get d.entries.items p e e there) at (dir.named.decided p e within) in
          let found : slice_get ms i ≡ Some e.«module».now = rw index at sourced.0 in
          let home : e.«module».now ≡ m = cc in
          let here : slice_get (map content_of d.entries.items) p ≡ Some (content_of e) = rw there at (slice_get-map content_of d.entries.items p) in
          let decides : content_named ms (record { home = m.name.octets; name = x }) ≡ Some (content_of e) = rw (named, sym home, sym name, decided) refl in
          here ∙ sym decides

pub decided_at : (x : List ℕ) (s : Option Content) (r : Option Module) → s ≡ option_and_then (λ m. decided_as m x (decision m x)) r
    → option_map (λ c. c.decided) s ≡ option_and_then (λ m. decision m x) r
decided_at x s r e = grind (arith, common_steps)

pub loaded : (t : Module → Bool) (j : ℕ) (ms : List Module) → is_some (position_from t j ms) ≡ is_some (find t ms)
loaded t j ms = by (position_from t j ms) (is_first t j ms)
  where
    by : (r : Option ℕ) → IsFirst t j ms (find t ms) r → is_some r ≡ is_some (find t ms)
    by None f = rw f refl
    by (Some k) f = rw f.4 refl
