-- The field `decider` of each entry holds what decides the meaning of the entry's name in its module, by the definition `decision`.
use Rattle.std.proofs.Common.{arith, ◌≡◌, ℕ, List, get_or, All, Option, Some, None, refl, sym, ◌∙◌}
use Rattle.std.proofs.lemmas.Grind.{common_steps}
use Rattle.smi_text.specs.declared.trees.tree.Module.{Module}
use Rattle.smi_names.specs.{meaning.Meaning.Decision, meaning.Meaning.decision, declared.meaning.entry.Entry.Entry}
use Rattle.smi_names.specs.meaning.Scopes.{NameIndices, content_of, decision_of, index_in, known, decided_as, IsDecided, KnowsMore}

-- if module `m`, the name of entry `e` and the decision `r` make the content of `e`, then `r` is the decision of `e`
decided_by : (m : Module) (e : Entry) (r : Option Decision) → e.module.now ≡ m → decided_as m e.name.now r ≡ Some (content_of e)
    → r ≡ Some (decision_of e.decider)
decided_by m e r home says = grind (arith, common_steps)

-- if the entries `a.added` were added to the empty scope `s0` as `f` decides, and `f x` is what decides each name `x` in module `m`, then each of these
-- entries has what decides its name
pub decided_all : (e0 e1 : List Entry) (s0 s1 : NameIndices) (m : Module) (i : ℕ) (f : List ℕ → Option Decision) → (a : KnowsMore e0 s0 e1 s1 m i f)
    → ((x : List ℕ) → index_in s0 x ≡ None) → ((x : List ℕ) → f x ≡ decision m x) → All IsDecided a.added
decided_all e0 e1 s0 s1 m i f a empty same = λ k e l.
    let is = a.of k e l in
    let x = (get_or a.added k e).name.now in
    let unknown : known e0 s0 (get_or a.added k e).name.now ≡ None = rw (empty (get_or a.added k e).name.now) refl in
    let says : decided_as m (get_or a.added k e).name.now (f (get_or a.added k e).name.now) ≡ Some (content_of (get_or a.added k e)) =
    sym (a.knows x ∙ rw unknown refl) ∙ a.there k e l in
    rw is.0 (sym (same x) ∙ decided_by m (get_or a.added k e) (f x) is.0 says)
