-- What a type defines itself takes precedence over what it inherits from the type that it refines.
use Rattle.std.proofs.Common.{◌≡◌, ℕ, inl, inr, cond, is_some, List, [], ◌∷◌, Option, Some, None, MatchOption, Vec, refl, ap, ◌∙◌, arith}
use Rattle.std.proofs.{lemmas.Grind.common_steps, lemmas.List.get_or_past, lemmas.Option.slice_get_within, lemmas.Option.get_or_from_slice_get}
use Rattle.std.specs.{Global.Global, Borrow.Bor, List.slice_get, Option.option_and_then, Option.option_copied, Option.option_map}
use Rattle.smi_text.specs.{declared.trees.tree.Module.Module, declared.trees.tree.Def.Def, declared.trees.tree.DefKind.DefKind}
use Rattle.smi_text.specs.{declared.trees.tree.SimpleType.SimpleType, declared.trees.tree.Base.Base}
use Rattle.smi_text.specs.declared.trees.tree.DefKind.TheVariants as D
use Rattle.smi_text.specs.declared.trees.tree.Base.TheVariants as B
use Rattle.smi_names.specs.{meaning.Meaning.QualifiedName, meaning.Meaning.or_else, chains.Order.option_at, declared.meaning.base.TypeBase.TypeBase}
use Rattle.smi_names.specs.meaning.Along.{Comes, unknown, of_root, through, at_end as at_definition, after, IsOwn, IsMeant}
use Rattle.smi_tree.specs.types.Chain.{Layer, at_base, on_name, no_type, TypeChain, at_end, on_type, nearest}
use Rattle.smi_tree.specs.types.Types.{type_origin, base_in, name_in, name_in_base, names_in, sizes_in, simple_in, layer, no_layer, type_hint}
use Rattle.smi_tree.specs.types.Types.{origin_of_base, origin_of_simple, object_syntax, type_syntax, object_in, object_origin, def_at, Facts}
use Rattle.smi_tree.specs.types.Types.{HasSyntax, HasNoSyntax}
use Rattle.smi_tree.specs.types.Kept.{facts_of, facts_at, type_in, names_of, sizes_of, def_of, IsKept, refines, type_at, base_or, refined_by}
use Rattle.smi_tree.specs.types.Kept.{AreKeptOf, AreKeptOfAll}
use Rattle.smi_tree.specs.{declared.syntax.TypeSyntax.TypeSyntax, declared.types.KeptSyntax.KeptSyntax}
use Rattle.smi_tree.proofs.{Pairwise.pair_at, TypeChains.by_decision, TypeChains.has_end, TypeChains.no_syntax, TypeChains.past_get}

pub is_some_copied : {X : Type 0} (r : Option (Bor X)) → is_some r ≡ is_some (option_copied r)
is_some_copied r = grind (arith, common_steps, is_some)

-- if an object has a type in its SYNTAX, that is the type in its definition, which has no hint
pub object_states : (kind : DefKind) (s : SimpleType) → option_and_then simple_in (object_syntax kind) ≡ Some s
    → (type_in kind ≡ Some s) × (type_hint kind ≡ None)
object_states (D.ObjectType o) s e = (e, refl)
object_states _ s e = absurd (cc)

no_syntax_on : (ms : List Module) (l : Layer) (a : QualifiedName) → HasNoSyntax ms (type_origin ms a) → HasNoSyntax ms (on_name l a)
no_syntax_on ms l a none f h = by h.chain
  where
    by : {layers : List Layer} → TypeChain (type_origin ms) (on_name l a) layers f.base → ⊥
    by (on_type {layers = layers} c) = none
        (record { base = f.base; hint = nearest (λ m. m.hint) layers; names = nearest (λ m. m.names) layers; sizes = nearest (λ m. m.sizes) layers })
        (record { layers = layers; chain = c; hint = refl; names = refl; sizes = refl })

module _ (ms : List Module) (at : ℕ × ℕ) (d : Def) (there : def_at ms at.0 at.1 ≡ Some d) (s : SimpleType) (states : type_in d.kind ≡ Some s)
    (hint : Option (List ℕ)) (hinted : type_hint d.kind ≡ hint) where
  abbrev l : Layer
  l = layer hint s.refinement

  abbrev refined : KeptSyntax → KeptSyntax
  refined f = record {
    base = f.base;
    hint = cond (is_some hint) (Some at) f.hint;
    names = cond (is_some (names_in s.refinement)) (Some at) f.names;
    sizes = cond (is_some (sizes_in s.refinement)) (Some at) f.sizes;
  }

  near : {X : Type 0} (field : Def → Option X) (v : Option X) (far : Option (ℕ × ℕ)) → field d ≡ v
      → option_and_then field (def_of ms (cond (is_some v) (Some at) far)) ≡ or_else v (option_and_then field (def_of ms far))
  near field None far e = refl
  near field (Some x) far e = rw there e

  own : (b : TypeBase) → HasSyntax ms (at_base l b) (facts_at ms (refined (record { base = b; hint = None; names = None; sizes = None })))
  own b = record {
    layers = l ∷ [];
    chain = at_end;
    hint = near (λ d. type_hint d.kind) hint None hinted;
    names = near names_of (names_in s.refinement) None (rw states refl);
    sizes = near sizes_of (sizes_in s.refinement) None (rw states refl);
  }

  on : (a : QualifiedName) (far : Option KeptSyntax) → IsKept ms (type_origin ms a) far
      → IsKept ms (on_name l a) (option_map refined far)
  on a None none = no_syntax_on ms l a none
  on a (Some f) h = record {
    layers = l ∷ h.layers;
    chain = on_type h.chain;
    hint = near (λ d. type_hint d.kind) hint f.hint hinted ∙ ap (λ x. or_else hint x) h.hint;
    names = near names_of (names_in s.refinement) f.names (rw states refl) ∙ ap (λ x. or_else (names_in s.refinement) x) h.names;
    sizes = near sizes_of (sizes_in s.refinement) f.sizes (rw states refl) ∙ ap (λ x. or_else (sizes_in s.refinement) x) h.sizes;
  }

  by_base : (home : List ℕ) (c : Base) (t : Option TypeBase) → base_in c ≡ t → (far : Option KeptSyntax)
      → ((x : List ℕ) → name_in_base c t ≡ Some x → IsKept ms (type_origin ms (record { home = home; name = x })) far)
      → IsKept ms (origin_of_base home l c t) (option_map refined (base_or t far))
  by_base home c (Some b) e far named = own b
  by_base home (B.Named x) None e far named = on (record { home = home; name = x.octets }) far (named x.octets refl)
  by_base home _ None e far named = absurd (cc)

  pub refined_right : (home : List ℕ) (far : Option KeptSyntax)
      → ((x : List ℕ) → name_in s.base ≡ Some x → IsKept ms (type_origin ms (record { home = home; name = x })) far)
      → IsKept ms (origin_of_simple home hint (Some s)) (refined_by at (is_some hint) s far)
  refined_right home far named = by_base home s.base (base_in s.base) refl far named

-- a match on the facts of a result (`N` if the result is `None`, otherwise `P` of the facts) is a match on the result
pub by_facts : (N : Type 0) (P : Facts → Type 0) (r : Option TypeSyntax) → MatchOption (option_map facts_of r) N P → MatchOption r N (λ s. P (facts_of s))
by_facts N P r h = grind (arith, common_steps)

-- if the stored syntaxes of each module are right (`AreKeptOfAll`), then so is the syntax that is stored for definition `j` of module `i`
pub are_types : (ms : List Module) (os : List (Vec (Option KeptSyntax) Global)) → AreKeptOfAll ms os → (i j : ℕ)
    → IsKept ms (object_origin ms i j) (option_and_then (λ v. option_at v.items j) (slice_get os i))
are_types ms os are i j = by (slice_get ms i) (slice_get os i) refl refl
  where
    of : (m : Module) (kept : List (Option KeptSyntax)) → AreKeptOf ms m kept → (d : Option Def) → slice_get m.defs j ≡ d
        → IsKept ms (object_in (Some m) d) (option_at kept j)
    of m kept all None e = rw (get_or_past kept j None (omega (arith, all.long, past_get m.defs j e))) (no_syntax ms no_type refl)
    of m kept all (Some d) e =
        let syntax = pair_at _ m.defs kept all j d e in
        rw (get_or_from_slice_get kept j syntax.0 None syntax.1) syntax.2

    by : (m : Option Module) (v : Option (Vec (Option KeptSyntax) Global)) → slice_get ms i ≡ m → slice_get os i ≡ v
        → IsKept ms (object_in m (option_and_then (λ n. slice_get n.defs j) m)) (option_and_then (λ w. option_at w.items j) v)
    by None None e f = no_syntax ms no_type refl
    by None (Some v) e f = absurd (omega (arith, are.long, past_get ms i e, slice_get_within os i v f))
    by (Some m) None e f = absurd (omega (arith, are.long, slice_get_within ms i m e, past_get os i f))
    by (Some m) (Some v) e f = of m v.items (are.each i m v e f) (slice_get m.defs j) refl

-- ---- what a name means

module _ (ms : List Module) where
  by_definition : (a : QualifiedName) (i j : ℕ) (d : Def) → IsOwn ms a i j d → (far : Option KeptSyntax)
      → ((x : List ℕ) → refines d ≡ Some x → IsKept ms (type_origin ms (record { home = a.home; name = x })) far)
      → IsKept ms (type_origin ms a) (type_at (i, j) d far)
  by_definition a i j d own far named =
      let origin : type_origin ms a ≡ origin_of_simple a.home (type_hint d.kind) (option_and_then simple_in (type_syntax d.kind)) =
      rw (own.named, own.decides) refl in
      rw origin (by (option_and_then simple_in (type_syntax d.kind)) refl)
    where
      by : (s : Option SimpleType) → option_and_then simple_in (type_syntax d.kind) ≡ s
          → IsKept ms (origin_of_simple a.home (type_hint d.kind) s) (option_and_then (λ t. refined_by (i, j) (is_some (type_hint d.kind)) t far) s)
      by None e = no_syntax ms no_type refl
      by (Some s) e = refined_right ms (i, j) d (rw own.at_module own.there) s (rw e refl) (type_hint d.kind) refl a.home far (λ x is. named x (rw e is))

  by_import : (a : QualifiedName) (r : Option KeptSyntax) → IsKept ms (type_origin ms a) r → IsKept ms (on_name no_layer a) r
  by_import a None none = no_syntax_on ms no_layer a none
  by_import a (Some f) h = record { layers = no_layer ∷ h.layers; chain = on_type h.chain; hint = h.hint; names = h.names; sizes = h.sizes }

  meant : {a : QualifiedName} {x : Option KeptSyntax} → Comes ms refines type_at a x → IsKept ms (type_origin ms a) x
  meant {a} (unknown e) = no_syntax ms (type_origin ms a) (by_decision ms a ∙ rw e refl)
  meant {a} (of_root e) = no_syntax ms (type_origin ms a) (by_decision ms a ∙ rw e refl)
  meant {a} {x} (through {i = i} named decides c) =
      let b : QualifiedName = record { home = i.source.octets; name = a.name } in
      let origin : type_origin ms a ≡ on_name no_layer b = rw (named, decides) refl in
      rw origin (by_import b x (meant c))
  meant {a} (at_definition {i = i} {k = j} {d = d} own e is) = rw is (by_definition a i j d own None (λ x some. absurd (cc)))
  meant {a} (after {i = i} {k = j} {d = d} {y = y} {far = far} own e c is) =
      rw is (by_definition a i j d own far (λ x some. let same : y ≡ x = cc in rw (← same) (meant c)))

  pub is_meant : (a : QualifiedName) (x : Option KeptSyntax) → IsMeant ms refines type_at a x → IsKept ms (type_origin ms a) x
  is_meant a x m = elim m [ inl c ↦ meant c | inr none ↦ rw none.1 (λ f h. none.0 (has_end ms h.chain a refl)) ]
