-- If an index is stored of a list of named numbers or bits, it is the index of that list (`index_right`).
use Rattle.std.proofs.{lemmas.Grind.common_steps, lemmas.Option.same_Some}
use Rattle.std.proofs.Common.{◌≡◌, ℕ, Bool, true, false, cond, List, Option, Some, None, refl, subst, sym, ap, ◌∙◌, arith}
use Rattle.std.specs.{Prelude.IfSome, List.slice_get, Option.option_and_then, Option.option_map, Ordering.nat_cmp}
use Rattle.std.specs.BTreeMap.{BTreeMap, get, is_at, Updates}
use Rattle.smi_text.specs.{declared.trees.tree.Module.Module, declared.trees.tree.Def.Def, declared.trees.tree.NamedNumber.NamedNumber}
use Rattle.smi_value.specs.{Syntax.IsIndexOf, declared.names.NumberIndex.NumberIndex}
use Rattle.smi_tree.specs.types.Kept.{names_of, def_of, facts_at}
use Rattle.smi_tree.specs.{types.Types.Facts, declared.types.KeptSyntax.KeptSyntax}
use Rattle.smi_tree.specs.types.Numbers.{AreNumbersOf, AreNumbersOfAll, IsIndexIn, index_at}
use Rattle.smi_tree.proofs.Pairwise.{pair_at}

of_names : (r : Option NumberIndex) (stated : Option (List NamedNumber)) (names : List NamedNumber) → stated ≡ Some names
    → IfSome r (λ index. IfSome stated (λ list. IsIndexOf list index)) → IfSome r (IsIndexOf names)
of_names None stated names e h = h
of_names (Some index) stated names e h = rw e at h

pub index_right : (ms : List Module) (all : List (BTreeMap ℕ NumberIndex)) → AreNumbersOfAll ms all → (at : Option (ℕ × ℕ)) (names : List NamedNumber)
    → option_and_then names_of (def_of ms at) ≡ Some names → IfSome (index_at all at) (IsIndexOf names)
index_right ms all are None names e = absurd (cc)
index_right ms all are (Some (i, k)) names e = by (slice_get ms i) refl
  where
    of : (m : Module) → slice_get ms i ≡ Some m → (d : Option Def) → slice_get m.defs k ≡ d → IfSome (index_at all (Some (i, k))) (IsIndexOf names)
    of m f None g = absurd (let none : option_and_then names_of (def_of ms (Some (i, k))) ≡ None = rw (f, g) refl in cc)
    of m f (Some d) g =
        let numbers = pair_at _ ms all are i m f in
        let stated : names_of d ≡ Some names = rw (f, g) at e in
        rw numbers.1 (of_names (get nat_cmp numbers.0 k) (names_of d) names stated (numbers.2 k d g))

    by : (m : Option Module) → slice_get ms i ≡ m → IfSome (index_at all (Some (i, k))) (IsIndexOf names)
    by None f = absurd (let none : option_and_then names_of (def_of ms (Some (i, k))) ≡ None = rw f refl in cc)
    by (Some m) f = of m f (slice_get m.defs k) refl

-- the index that is stored for a syntax, if there is one, is the index of its names
pub kept_right : (ms : List Module) (all : List (BTreeMap ℕ NumberIndex)) → AreNumbersOfAll ms all → (s : Option KeptSyntax) (f : Facts)
    (names : List NamedNumber) → option_map (facts_at ms) s ≡ Some f → f.names ≡ Some names
    → IfSome (option_and_then (λ (kept : KeptSyntax). index_at all kept.names) s) (IsIndexOf names)
kept_right ms all are None f names e h = absurd (cc)
kept_right ms all are (Some s) f names e h = index_right ms all are s.names names (ap (λ (g : Facts). g.names) (same_Some (facts_at ms s) f e) ∙ h)

same_key : (i k : ℕ) → is_at (nat_cmp i) k ≡ true → i ≡ k
same_key i k e = grind (arith, common_steps)

-- if the index of the named numbers or bits of one more definition is inserted, each index still belongs to the definition that its key refers to
pub inserted : (defs : List Def) (old new : BTreeMap ℕ NumberIndex) (i : ℕ) (def : Def) (index : NumberIndex) → AreNumbersOf defs old
    → slice_get defs i ≡ Some def → IsIndexIn def index → Updates nat_cmp old new i (Some index) → AreNumbersOf defs new
inserted defs old new i def index are at right updates k d e = rw (updates.0 k) (by (is_at (nat_cmp i) k) refl)
  where
    by : (b : Bool) → is_at (nat_cmp i) k ≡ b → IfSome (cond b (Some index) (get nat_cmp old k)) (IsIndexIn d)
    by true f = subst (λ x. IsIndexIn x index) (same_Some def d (sym at ∙ ap (slice_get defs) (same_key i k f) ∙ e)) right
    by false f = are k d e
