-- What a name resolves to follows from its origin, and from the resolution of the name that the origin refers to, if it refers to one.
use Rattle.std.proofs.{lemmas.Grind.common_steps, lemmas.Option.slice_get_past}
use Rattle.std.proofs.Common.{◌≡◌, ℕ, ◌≤◌, ◌⊎◌, inl, inr, nat_le, List, [], ◌++◌, length, Option, Some, None, refl, sym, ap, ◌∙◌, arith}
use Rattle.std.proofs.Common.{length-append}
use Rattle.std.specs.{List.slice_get, Option.option_and_then}
use Rattle.smi_text.specs.declared.trees.tree.Module.{Module}
use Rattle.smi_names.specs.chains.Chain.{Origin, numbers, after, nowhere, next_of, HasEnd, ends, refers_on, HasIdentifier, by_itself, after_another}
use Rattle.smi_names.specs.chains.Chain.{here, further}
use Rattle.smi_names.specs.{chains.Order.next_at, chains.Resolution.ComesTo, declared.chains.shared.Resolution.Resolution, meaning.Scopes.Content}
use Rattle.smi_names.specs.{meaning.Scopes.qualified, meaning.Scopes.KnownNames, meaning.Scopes.content_named, meaning.Along.next_by}
use Rattle.smi_names.specs.{meaning.Along.next_name, meaning.Along.AreNext}
use Rattle.smi_names.specs.chains.Resolution.{extend_identifier, extend_resolution_by, resolution_at, far_at, resolution_by}
use Rattle.smi_names.specs.declared.chains.shared.Resolution.TheVariants as R
use Rattle.smi_names.specs.meaning.Meaning.{QualifiedName, decision, origin, origin_by, origin_in, module_named}
use Rattle.smi_names.specs.meaning.Parents.{parent_of, origin_here, AreResolved}
use Rattle.smi_names.proofs.{Directory.is_decided, Directory.undecided, ReferenceChains.refers_to_entry, ReferenceChains.has_end}

HasEnd-same : {A : Type 0} (f g : A → Option A) → ((a : A) → f a ≡ g a) → {a : A} → HasEnd f a → HasEnd g a
HasEnd-same f g same {a} (ends e) = ends (sym (same a) ∙ e)
HasEnd-same f g same {a} (refers_on e h) = refers_on (sym (same a) ∙ e) (HasEnd-same f g same h)

module _ {A : Type 0} (origin : A → Origin A) where
  below : {a b : A} → HasEnd (λ c. next_of (origin c)) a → next_of (origin a) ≡ Some b → HasEnd (λ c. next_of (origin c)) b
  below h g = grind (arith, common_steps)

  lengthened_comes : (a : A) (o ns : List ℕ) → HasIdentifier origin a (o ++ ns) → ComesTo origin a (extend_identifier o ns)
  lengthened_comes a o ns m = grind (arith, common_steps, nat_le, length-append)

  followed_comes : (a b : A) (ns : List ℕ) (r : Resolution) → origin a ≡ after b ns → ComesTo origin b r → ComesTo origin a (extend_resolution_by r ns)
  followed_comes a b ns (R.Numbers o) e c = lengthened_comes a o ns (after_another e c.0)
  followed_comes a b ns R.Cycle e c = λ h. c (below h (ap next_of e))
  followed_comes a b ns R.Unresolved e c = further e c
  followed_comes a b ns R.TooLong e c = (c.0 ++ ns, after_another e c.1, omega (arith, length-append c.0 ns, c.2))

  step_comes : (a : A) (o : Origin A) (far : Resolution) → origin a ≡ o → ((b : A) → next_of o ≡ Some b → ComesTo origin b far)
      → ComesTo origin a (resolution_by o far)
  step_comes a (numbers ns) far e f = lengthened_comes a [] ns (by_itself e)
  step_comes a (after b ns) far e f = followed_comes a b ns far e (f b refl)
  step_comes a nowhere far e f = here e

-- the name that the origin of `a` refers to is the name that `a` refers to by an import or by `parent_of`
parents : (ms : List Module) (a : QualifiedName) → next_of (origin ms a) ≡ next_name ms parent_of a
parents ms a = of_module (module_named ms a.home)
  where
    of_module : (r : Option Module) → next_of (origin_in a r) ≡ next_by parent_of a (option_and_then (λ m. decision m a.name) r)
    of_module r = grind (arith, common_steps)

-- the name at index `p` resolves to `r`; if `p` is past the end, each name without a meaning does
abbrev pub ResolvesAt : KnownNames → ℕ → Resolution → Type 0
ResolvesAt k p r = (a : QualifiedName) → slice_get k.names p ≡ content_named k.modules a → ComesTo (origin k.modules) a r

module _ (k : KnownNames) where
  origin_is : (s : Option Content) (a : QualifiedName) → s ≡ content_named k.modules a → origin k.modules a ≡ origin_here s
  origin_is None a e = undecided a (module_named k.modules a.home) e
  origin_is (Some c) a e =
      let o = is_decided k.modules a c (sym e) in
      let same : qualified c ≡ a = rw (o.home, o.name) refl in
      rw (o.named, o.by) (ap (λ x. origin_by x (Some c.decided)) (sym same))

  module _ (next : List (Option ℕ)) (are : AreNext k parent_of next) where
    -- if `p` is past the end, then the names without a meaning, which `p` represents, resolve to `Unresolved`
    pub beyond_comes : (p : ℕ) → length next ≤ p → ResolvesAt k p R.Unresolved
    beyond_comes p past = λ a named. here (origin_is None a (sym (slice_get_past k.names p (omega (arith, past, are.long))) ∙ named))

    pub resolves_step : (p : ℕ) (rs : List Resolution) → ((q : ℕ) → next_at next p ≡ Some q → ResolvesAt k q (resolution_at rs q))
        → ResolvesAt k p (resolution_by (origin_here (slice_get k.names p)) (far_at rs (next_at next p)))
    resolves_step p rs right = λ a named.
        let is = origin_is (slice_get k.names p) a named in
        step_comes (origin k.modules) a (origin_here (slice_get k.names p)) (far_at rs (next_at next p)) is (λ b e.
        let on = refers_to_entry k parent_of a b (next_at next p) (are.each p a named) (sym (parents k.modules a) ∙ ap next_of is ∙ e) in
        rw on.1 (right on.0 on.1 b on.2))

    pub are_resolved : (rs : List Resolution) → length rs ≡ length next
        → ((p : ℕ) → ResolvesAt k p (resolution_at rs p) ⊎ ((HasEnd (next_at next) p → ⊥) × (resolution_at rs p ≡ R.Cycle))) → AreResolved k rs
    are_resolved rs long all = record {
      long = long ∙ are.long;
      each = λ p a named. elim (all p) [
        | inl right ↦ right a named
        | inr none ↦ rw none.1 (λ h. none.0 (has_end k parent_of next are.each
            (HasEnd-same (λ b. next_of (origin k.modules b)) (next_name k.modules parent_of) (parents k.modules) h) p named))
      ];
    }
