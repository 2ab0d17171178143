-- What decides the name at an index also decides which index that name refers to, and what it means.
use Rattle.std.proofs.{lemmas.Grind.common_steps, lemmas.List.get_or_past, lemmas.List.length-map}
use Rattle.std.proofs.Common.{◌≡◌, ℕ, ◌≤◌, ◌⊎◌, List, length, map, MatchOption, Option, Some, None, refl, sym, ap, ◌∙◌, arith}
use Rattle.std.proofs.lemmas.Option.{slice_get_past, slice_get-map, get_or_from_slice_get}
use Rattle.std.specs.{List.slice_get, Option.option_and_then, Option.option_map}
use Rattle.smi_text.specs.{declared.trees.tree.Module.Module, declared.trees.tree.Def.Def, declared.trees.tree.Import.Import}
use Rattle.smi_names.specs.{chains.Chain.HasEnd, chains.Chain.ends, chains.Chain.refers_on, chains.Order.next_at, chains.Order.option_at}
use Rattle.smi_names.specs.{meaning.Scopes.Content, meaning.Scopes.content_of, meaning.Parents.parent_of, meaning.Resolved.IsDirectory}
use Rattle.smi_names.specs.{meaning.Resolved.known_names, declared.meaning.entry.Entry.Entry, meaning.Scopes.KnownNames, meaning.Scopes.content_named}
use Rattle.smi_names.specs.meaning.Meaning.{QualifiedName, Decision, defined, imported, root, module_named}
use Rattle.smi_names.specs.meaning.Directory.{index_by, next_index, KeepsImports}
use Rattle.smi_names.specs.declared.meaning.directory.Directory.{Directory}
use Rattle.smi_names.specs.meaning.Along.{next_by, decided, next_name, IsOwn, Comes, unknown, of_root, through, at_end, after, IsNext, AreNext}
use Rattle.smi_names.specs.meaning.Along.{MeansAt, AreMeant}
use Rattle.smi_names.proofs.Directory.{decided_at, is_decided, entry_at, past_get}

module _ (k : KnownNames) (refers_to : Def → Option (List ℕ)) where
  abbrev Follows : QualifiedName → Option ℕ → Type 0
  Follows a to = MatchOption to (next_name k.modules refers_to a ≡ None)
      (λ q. (b : QualifiedName) × (next_name k.modules refers_to a ≡ Some b) × (slice_get k.names q ≡ content_named k.modules b))

  refers_to_nothing : (a : QualifiedName) (to : Option ℕ) → Follows a to → next_name k.modules refers_to a ≡ None → to ≡ None
  refers_to_nothing a to l e = grind (arith, common_steps)

  pub refers_to_entry : (a b : QualifiedName) (to : Option ℕ) → Follows a to → next_name k.modules refers_to a ≡ Some b
      → (q : ℕ) × (to ≡ Some q) × (slice_get k.names q ≡ content_named k.modules b)
  refers_to_entry a b to l e = grind (arith, common_steps)

  -- if the chain of the name `a` has an end, then the chain of its index `p` has an end
  pub has_end : (next : List (Option ℕ)) → ((p : ℕ) → IsNext k refers_to p (next_at next p)) → {a : QualifiedName} → HasEnd (next_name k.modules refers_to) a
      → (p : ℕ) → slice_get k.names p ≡ content_named k.modules a → HasEnd (next_at next) p
  has_end next are {a} (ends e) p named = ends (refers_to_nothing a (next_at next p) (are p a named) e)
  has_end next are {a} (refers_on {b = b} e h) p named =
      let on = refers_to_entry a b (next_at next p) (are p a named) e in refers_on on.1 (has_end next are h on.0 on.2)

  module _ (p : ℕ) where
    -- if `s` is the entry at index `p`, then it has what decides the meaning of the name at `p`
    by_index : (s : Option Content) → slice_get k.names p ≡ s → (a : QualifiedName) → slice_get k.names p ≡ content_named k.modules a
        → decided k.modules a ≡ option_map (λ c. c.decided) s
    by_index s there a named = sym (decided_at a.name s (module_named k.modules a.home) (sym there ∙ named))

    module _ (c : Content) (there : slice_get k.names p ≡ Some c) where
      by_content : (d : Decision) → c.decided ≡ d → (a : QualifiedName) → slice_get k.names p ≡ content_named k.modules a
          → next_name k.modules refers_to a ≡ next_by refers_to a (Some d)
      by_content d is a named = ap (next_by refers_to a) (by_index (Some c) there a named ∙ ap (λ x. Some x) is)

    module _ {X : Type 0} (means : ℕ × ℕ → Def → Option X → Option X) where
      pub means_none : slice_get k.names p ≡ None → MeansAt k refers_to means p None
      means_none there = λ a named. unknown (by_index None there a named)

      module _ (c : Content) (there : slice_get k.names p ≡ Some c) where
        pub means_root : (n : ℕ) → c.decided ≡ root n → MeansAt k refers_to means p None
        means_root n is = λ a named. of_root {n = n} (by_index (Some c) there a named ∙ rw is refl)

        module _ (to : Option ℕ) (next : IsNext k refers_to p to) (far : Option X) (led : MatchOption to (far
            ≡ None) (λ q. MeansAt k refers_to means q far)) where
          pub means_import : (i : Import) → c.decided ≡ imported i → MeansAt k refers_to means p far
          means_import i is = λ a named.
              let own = is_decided k.modules a c (sym named ∙ there) in
              let b : QualifiedName = record { home = i.source.octets; name = a.name } in
              let on = refers_to_entry a b to (next a named) (by_content c there (imported i) is a named) in
              through {i = i} own.named (own.by ∙ rw is refl) ((rw on.1 at led) b on.2)

          pub means_defined : (d : Def) → c.decided ≡ defined d → (i j : ℕ) → slice_get k.modules i ≡ Some c.home → slice_get c.home.defs j ≡ Some d
              → MeansAt k refers_to means p (means (i, j) d far)
          means_defined d is i j of_module of_def = λ a named.
              let own = is_decided k.modules a c (sym named ∙ there) in
              let decides : IsOwn k.modules a i j d =
              record { home = c.home; named = own.named; decides = own.by ∙ rw is refl; at_module = of_module; there = of_def } in
              by a decides (next a named) (by_content c there (defined d) is a named) (refers_to d) refl
            where
              by : (a : QualifiedName) → IsOwn k.modules a i j d → Follows a to → next_name k.modules refers_to a ≡ next_by refers_to a (Some (defined d))
                  → (x : Option (List ℕ)) → refers_to d ≡ x → Comes k.modules refers_to means a (means (i, j) d far)
              by a own l by_def None e = let none = refers_to_nothing a to l (by_def ∙ rw e refl) in at_end own e (rw (rw none at led) refl)
              by a own l by_def (Some x) e =
                  let b : QualifiedName = record { home = a.home; name = x } in
                  let on = refers_to_entry a b to l (by_def ∙ rw e refl) in
                  after own e ((rw on.1 at led) b on.2) refl

-- if `d.parents` has for each entry the index that the entry refers to by `parent_of`, then it has for an imported name the index of the same name in the
-- module after FROM
pub keeps_imports : (d : Directory) → d.parents.items ≡ map (next_index d parent_of) d.entries.items → KeepsImports d
keeps_imports d is p e i to at by got = grind (arith, common_steps, slice_get-map)

-- ---- an entry refers to the entry of the name that its own name refers to
module _ (ms : List Module) (d : Directory) (dir : IsDirectory ms d) (refers_to : Def → Option (List ℕ)) where
  next_is : (p : ℕ) (a : QualifiedName) → slice_get (known_names ms d).names p ≡ content_named ms a
      → next_at (map (next_index d refers_to) d.entries.items) p ≡ option_map (index_by d) (next_name ms refers_to a)
  next_is p a named = by (slice_get d.entries.items p) refl (sym (slice_get-map content_of d.entries.items p) ∙ named)
    where
      es : List Entry
      es = d.entries.items

      by : (s : Option Entry) → slice_get d.entries.items p ≡ s → option_map content_of s ≡ content_named ms a
          → next_at (map (next_index d refers_to) d.entries.items) p ≡ option_map (index_by d) (next_name ms refers_to a)
      by None at is =
          let none : decided ms a ≡ None = sym (decided_at a.name None (module_named ms a.home) is) in
          rw none (get_or_past (map (next_index d refers_to) es) p None (omega (arith, past_get es p at, length-map es (next_index d refers_to))))
      by (Some e) at is =
          let o = is_decided ms a (content_of e) (sym is) in
          let here : slice_get (map (next_index d refers_to) es) p ≡ Some (next_index d refers_to e) = rw at at (slice_get-map (next_index d refers_to) es p) in
          get_or_from_slice_get (map (next_index d refers_to) es) p (next_index d refers_to e) None here ∙ rw (o.named, o.by, o.home, o.name) refl

  each_next : (p : ℕ) → IsNext (known_names ms d) refers_to p (next_at (map (next_index d refers_to) d.entries.items) p)
  each_next p = λ a named. rw (next_is p a named) (by a (next_name ms refers_to a) refl)
    where
      by : (a : QualifiedName) (r : Option QualifiedName) → next_name ms refers_to a ≡ r
          → MatchOption (option_map (index_by d) r) (next_name ms refers_to a ≡ None)
          (λ q. (b : QualifiedName) × (next_name ms refers_to a ≡ Some b) × (slice_get (known_names ms d).names q ≡ content_named ms b))
      by a r e = grind (arith, common_steps, slice_get-map, entry_at)

  pub are_next : AreNext (known_names ms d) refers_to (map (next_index d refers_to) d.entries.items)
  are_next = record { long = length-map d.entries.items (next_index d refers_to) ∙ sym (length-map d.entries.items content_of); each = each_next }

-- if the value of `found` at index `to` is right, then so is the value that `far_meaning` returns for `to`; if `to` is `None`, it returns `None`
pub far_of : {X : Type 0} (Right : ℕ → Option X → Type 0) (found : List (Option X)) (to : Option ℕ) → ((q : ℕ) → to ≡ Some q → Right q (option_at found q))
    → MatchOption to (option_and_then (λ q. option_at found q) to ≡ None) (λ q. Right q (option_and_then (λ q. option_at found q) to))
far_of Right found to f = grind (arith, common_steps)

module _ {X : Type 0} (k : KnownNames) (refers_to : Def → Option (List ℕ)) (means : ℕ × ℕ → Def → Option X → Option X) (next : List (Option ℕ))
    (are : AreNext k refers_to next) where
  pub none_past : (p : ℕ) → length next ≤ p → MeansAt k refers_to means p None
  none_past p past = means_none k refers_to p means (slice_get_past k.names p (omega (arith, past, are.long)))

  pub are_meant : (found : List (Option X))
      → ((p : ℕ) → MeansAt k refers_to means p (option_at found p) ⊎ ((HasEnd (next_at next) p → ⊥) × (option_at found p ≡ None)))
      → AreMeant k refers_to means found
  are_meant found each = grind (arith, common_steps, has_end)
