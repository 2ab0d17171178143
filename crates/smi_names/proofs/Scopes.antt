-- If a name is entered into a scope (a module's map from names to the indices of their entries), then it has an entry there, and other names keep theirs.
use Rattle.std.proofs.{lemmas.Grind.common_steps, lemmas.List.append-nil, lemmas.List.length_push, lemmas.Slice.Eq.bytes_eq-Decides}
use Rattle.std.proofs.{lemmas.Option.slice_get_cases, lemmas.List.Elements.All-nil, lemmas.List.Elements.All-push, lemmas.List.Elements.All-append}
use Rattle.std.proofs.Common.{◌≡◌, ℕ, zero, suc, ◌<◌, ◌≤◌, Bool, true, false, cond, List, [], ◌∷◌, ◌++◌, length, Option, Some, None, unwrap_or}
use Rattle.std.proofs.Common.{refl, sym, ap, ◌∙◌, arith, append_assoc, get_or, inl, inr}
use Rattle.std.specs.List.{slice_get}
use Rattle.indexmap.specs.IndexMap.{hasher_of}
use Rattle.smi_text.specs.{trees.Mark.same_text, declared.trees.tree.Module.Module}
use Rattle.smi_names.specs.{meaning.Meaning.Decision, meaning.Meaning.or_else, declared.meaning.entry.Entry.Entry}
use Rattle.smi_names.specs.meaning.Scopes.{Content, NameIndices, content_of, index_in, known, decided_as, IsWithin, IsEntryOf, KnowsMore}

pub same : (xs ys : List ℕ) → same_text xs ys ≡ true → xs ≡ ys
same xs ys e = (bytes_eq-Decides xs ys).0 e

pub same_itself : (xs : List ℕ) → same_text xs xs ≡ true
same_itself xs = (bytes_eq-Decides xs xs).1 refl

pub get-append : {X : Type 0} (xs ys : List X) (i : ℕ) → i < length xs → slice_get (xs ++ ys) i ≡ slice_get xs i
get-append [] ys i l = absurd (omega arith)
get-append (x ∷ xs) ys zero l = refl
get-append (x ∷ xs) ys (suc i) l = get-append xs ys i (omega arith)

pub get-push_at : {X : Type 0} (xs : List X) (y : X) → slice_get (xs ++ y ∷ []) (length xs) ≡ Some y
get-push_at [] y = refl
get-push_at (x ∷ xs) y = get-push_at xs y

pub get_within : {X : Type 0} (xs : List X) (i : ℕ) → i < length xs → (x : X) × (slice_get xs i ≡ Some x)
get_within xs i l = elim (slice_get_cases xs i).1 [ inl r ↦ (r.0, r.2) | inr r ↦ absurd (omega arith) ]

pub known-append : (old added : List Entry) (scope : NameIndices) (x : List ℕ) → IsWithin old scope → known (old ++ added) scope x ≡ known old scope x
known-append old added scope x within = grind (arith, common_steps, get-append)

or_else_none : {A : Type 0} (o : Option A) → or_else o None ≡ o
or_else_none o = grind (arith, common_steps)

-- if `insert_if_absent` returns `p`, and that is below the index `index` that was to be inserted, then the name had the index `p` before
pub had_index : (r : Option ℕ) (p index : ℕ) → p ≡ unwrap_or r index → p < index → r ≡ Some p
had_index r p index e l = grind (arith, common_steps)

-- if `insert_if_absent` returns `p`, which isn't below the index `index` to be inserted, and any index that the name had before is below `index`, then the
-- name had none
pub had_none : (r : Option ℕ) (p index : ℕ) → p ≡ unwrap_or r index → ((q : ℕ) → r ≡ Some q → q < index) → index ≤ p → r ≡ None
had_none r p index e within l = grind (arith, common_steps)

-- if a name without an index is inserted with the index `index`, then it has this index, and all other names have what they had
pub put_absent : (scope new : NameIndices) (name : List ℕ) (index : ℕ) → index_in scope name ≡ None
    → ((x : List ℕ) → index_in new x ≡ or_else (index_in scope x) (cond (same_text name x) (Some index) None)) → (x : List ℕ)
    → index_in new x ≡ cond (same_text name x) (Some index) (index_in scope x)
put_absent scope new name index none put x = put x ∙ by (same_text name x) refl
  where
    by : (b : Bool) → same_text name x ≡ b → or_else (index_in scope x) (cond b (Some index) None) ≡ cond b (Some index) (index_in scope x)
    by false e = or_else_none (index_in scope x)
    by true e = let at : index_in scope x ≡ None = rw (same name x e) at none in rw at refl

module _ (old : List Entry) (scope : NameIndices) (m : Module) (i : ℕ) (within : IsWithin old scope) where
  -- if the scope has the name already, then its index stays, and the scope knows nothing new
  pub KnowsMore-there : (new : NameIndices) (name : List ℕ) (d : Decision) (p index : ℕ) → index_in scope name ≡ Some p
      → ((x : List ℕ) → index_in new x ≡ or_else (index_in scope x) (cond (same_text name x) (Some index) None)) → hasher_of new ≡ hasher_of scope
      → KnowsMore old scope old new m i (λ x. cond (same_text name x) (Some d) None)
  KnowsMore-there new name d p index there put hashed = record {
    knows = λ x. rw (stays x) (by x (same_text name x) refl);
    added = [];
    grown = sym (append-nil old);
    of = All-nil (IsEntryOf m i);
    there = All-nil (λ e. known old new e.name.now ≡ Some (content_of e));
    within = λ x q at. within x q (sym (stays x) ∙ at);
    hashed = hashed;
  }
    where
      keeps : (x : List ℕ) (b : Bool) → same_text name x ≡ b → or_else (index_in scope x) (cond b (Some index) None) ≡ index_in scope x
      keeps x false e = or_else_none (index_in scope x)
      keeps x true e = let at : index_in scope x ≡ Some p = rw (same name x e) at there in rw at refl

      stays : (x : List ℕ) → index_in new x ≡ index_in scope x
      stays x = put x ∙ keeps x (same_text name x) refl

      by : (x : List ℕ) (b : Bool) → same_text name x ≡ b → known old scope x ≡ or_else (known old scope x) (decided_as m x (cond b (Some d) None))
      by x false e = sym (or_else_none (known old scope x))
      by x true e =
          let is : name ≡ x = same name x e in
          let at : index_in scope x ≡ Some p = rw is at there in
          let found = get_within old p (within x p at) in
          rw (at, found.1) refl

  -- if a name that isn't in the scope is entered with the entry `e`, then the scope has `e` for that name, and for any other name what it had before
  pub KnowsMore-entered : (new : NameIndices) (name : List ℕ) (e : Entry) → index_in scope name ≡ None
      → ((x : List ℕ) → index_in new x ≡ cond (same_text name x) (Some (length old)) (index_in scope x)) → e.module.now ≡ m → e.name.now ≡ name
      → IsEntryOf m i e → hasher_of new ≡ hasher_of scope
      → KnowsMore old scope (old ++ e ∷ []) new m i (λ x. cond (same_text name x) (Some (content_of e).decided) None)
  KnowsMore-entered new name e none indices home named is_of hashed = record {
    knows = λ x. by x (same_text name x) refl;
    added = e ∷ [];
    grown = refl;
    of = All-push (IsEntryOf m i) [] e (All-nil (IsEntryOf m i)) is_of;
    there = All-push (λ d. known (old ++ e ∷ []) new d.name.now ≡ Some (content_of d)) [] e
        (All-nil (λ d. known (old ++ e ∷ []) new d.name.now ≡ Some (content_of d))) itself;
    within = λ x p at. inside x p (same_text name x) (sym (indices x) ∙ at);
    hashed = hashed;
  }
    where
      by : (x : List ℕ) (b : Bool) → same_text name x ≡ b
          → known (old ++ e ∷ []) new x ≡ or_else (known old scope x) (decided_as m x (cond b (Some (content_of e).decided) None))
      by x false t =
          let at : index_in new x ≡ index_in scope x = indices x ∙ rw t refl in
          rw at (known-append old (e ∷ []) scope x within ∙ sym (or_else_none (known old scope x)))
      by x true t =
          let is : name ≡ x = same name x t in
          let at : index_in new x ≡ Some (length old) = indices x ∙ rw t refl in
          let before : index_in scope x ≡ None = rw is at none in
          let says : content_of e ≡ record { home = m; name = x; decided = (content_of e).decided } = rw (sym home, sym is, sym named) refl in
          rw (at, before, get-push_at old e) (ap (λ v. Some v) says)

      itself : known (old ++ e ∷ []) new e.name.now ≡ Some (content_of e)
      itself = grind (arith, common_steps, same_itself, get-push_at)

      inside : (x : List ℕ) (p : ℕ) (b : Bool) → cond b (Some (length old)) (index_in scope x) ≡ Some p → p < length (old ++ e ∷ [])
      inside x p true at = let is : length old ≡ p = cc in omega (arith, length_push old e)
      inside x p false at = omega (arith, within x p at, length_push old e)

-- if names are added to a scope as `f` decides, and then as `g` decides, and `h` decides as `f` does or, if `f` decides nothing, as `g` does, then together
-- the names are added as `h` decides
pub KnowsMore-then : (e0 e1 e2 : List Entry) (s0 s1 s2 : NameIndices) (m : Module) (i : ℕ) (f g h : List ℕ → Option Decision)
    → KnowsMore e0 s0 e1 s1 m i f → KnowsMore e1 s1 e2 s2 m i g → ((x : List ℕ) → or_else (f x) (g x) ≡ h x) → KnowsMore e0 s0 e2 s2 m i h
KnowsMore-then e0 e1 e2 s0 s1 s2 m i f g h a b same = record {
  knows = λ x. b.knows x ∙ rw (a.knows x, sym (same x)) (both x (known e0 s0 x) (f x));
  added = a.added ++ b.added;
  grown = b.grown ∙ rw a.grown (append_assoc e0 a.added b.added);
  of = All-append (IsEntryOf m i) a.added b.added a.of b.of;
  there = All-append (λ e. known e2 s2 e.name.now ≡ Some (content_of e)) a.added b.added
      (λ k e l. b.knows (get_or a.added k e).name.now ∙ rw (a.there k e l) refl) b.there;
  within = b.within;
  hashed = b.hashed ∙ a.hashed;
}
  where
    both : (x : List ℕ) (k : Option Content) (d : Option Decision)
        → or_else (or_else k (decided_as m x d)) (decided_as m x (g x)) ≡ or_else k (decided_as m x (or_else d (g x)))
    both x k d = grind (arith, common_steps)
