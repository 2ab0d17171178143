-- A chain of GetNext answers is a trail up to the first answer that isn't an instance below the root.
use Rattle.std.proofs.Common.{◌≡◌, ◌≢◌, ℕ, ◌+◌, ◌≤◌, false, List, [], ◌∷◌, ◌++◌, length, length-append, refl, sym, ◌∙◌, arith}
use Rattle.std.proofs.{lemmas.List.Elements.All-head, lemmas.List.Elements.All-tail, lemmas.Bool.or_from, lemmas.Bool.false≢true}
use Rattle.std.specs.{Prelude.All, Prelude.flat_map, List.list_any}
use Rattle.snmp_wire.specs.Message.{VarBind}
use Rattle.snmp_walk.specs.{Names.is_missing, Trail.last_name, Trail.IsTrail, Trail.IsAtEnd, Progress.IsChain}
use Rattle.snmp_walk.specs.private.ReplyRows.{After, nothing, leaving, falling, ReplyRows, reply_rows}
use Rattle.snmp_walk.proofs.{ReplyRows.prefixes_by, SortedRows.AreLawfulReplies}
use Rattle.snmp_walk.proofs.Names.{inside_decided, inside_value, outside}

pub last_name-append : (o : List ℕ) (xs ys : List VarBind) → last_name o (xs ++ ys) ≡ last_name (last_name o xs) ys
last_name-append o [] ys = refl
last_name-append o (x ∷ xs) ys = last_name-append x.name xs ys

longer : (rows : List VarBind) (more : List (List VarBind)) → rows ≢ [] → length more ≤ length (flat_map (λ r. r) more)
    → length more + 1 ≤ length (rows ++ flat_map (λ r. r) more)
longer [] more some few = absurd (some refl)
longer (p ∷ rows) more some few = omega (arith, few, length-append rows (flat_map (λ r. r) more))

-- if each reply has a row, there are at least as many rows as replies
pub few_replies : (replies : List (List VarBind)) → All (λ rows. rows ≢ []) replies → length replies ≤ length (flat_map (λ rows. rows) replies)
few_replies [] some = omega arith
few_replies (rows ∷ more) some =
    let rest = few_replies more (All-tail (λ (r : List VarBind). r ≢ []) rows more some) in
    let all = longer rows more (All-head (λ (r : List VarBind). r ≢ []) rows more some) rest in omega (arith, all)

module _ (Next : List ℕ → VarBind → Type 0) (root : List ℕ) where
  pub trail-append : (o : List ℕ) (xs ys : List VarBind) → IsTrail Next root o xs → IsTrail Next root (last_name o xs) ys → IsTrail Next root o (xs ++ ys)
  trail-append o [] ys h k = k
  trail-append o (x ∷ xs) ys h k = (h.0, h.1, trail-append x.name xs ys h.2 k)

  -- if o begins with the root, so does the last name of a trail from o
  pub trail_begins : (o s : List ℕ) (trail : List VarBind) → o ≡ root ++ s → IsTrail Next root o trail → (u : List ℕ) × (last_name o trail ≡ root ++ u)
  trail_begins o s [] at h = (s, at)
  trail_begins o s (p ∷ trail) at h = trail_begins p.name h.1.below.0 trail h.1.below.2 h.2

-- what can follow the rows at the start of a chain: nothing, or an answer that ends the walk
abbrev pub EndsChain : (Next : List ℕ → VarBind → Type 0) (root last : List ℕ) → After → Type 0
EndsChain Next root last nothing = Unit {0}
EndsChain Next root last leaving = IsAtEnd Next root last
EndsChain Next root last (falling name) = ⊥

-- the rows at the start of a chain are a trail, and what follows them, if anything, ends the walk
pub record IsTrailPrefix (Next : List ℕ → VarBind → Type 0) (root o : List ℕ) (prefix : ReplyRows) : Type 0 where
  pub is_trail : IsTrail Next root o prefix.rows
  pub ends : EndsChain Next root (last_name o prefix.rows) prefix.after

module _ (Next Got : List ℕ → VarBind → Type 0) (laws : AreLawfulReplies Next Got) (root : List ℕ) where
  pub chain_prefix : (o : List ℕ) (bindings : List VarBind) → IsChain Next o bindings → IsTrailPrefix Next root o (reply_rows root o bindings)
  chain_prefix = prefixes_by root (λ o all prefix. IsChain Next o all → IsTrailPrefix Next root o prefix) (λ o h. record { is_trail = tt; ends = tt })
      (λ o p more prefix i u later h. let rest = later h.1 in
      record { is_trail = (h.0, (inside_decided root p).0 i, rest.is_trail); ends = rest.ends })
      (λ o p more i f h. absurd (false≢true (sym f ∙ laws.rises o p h.0 (inside_value root p i))))
      (λ o p more f h. record { is_trail = tt; ends = (p, h.0, outside root p f) })

  pub chain_has_values : (o : List ℕ) (bindings : List VarBind) → IsChain Next o bindings → list_any (λ p. is_missing p.value) bindings ≡ false
  chain_has_values o [] h = refl
  chain_has_values o (p ∷ more) h = or_from _ _ (laws.is_value o p h.0) (chain_has_values p.name more h.1)
