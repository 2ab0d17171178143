-- Which table of a `MemoryLink` replies, and what its next receive delivers.
use Rattle.std.proofs.{lemmas.Grind.common_steps, lemmas.Option.slice_get-get_or, lemmas.List.take_more, lemmas.List.take-append-le}
use Rattle.std.proofs.Common.{◌≡◌, inl, inr, ℕ, zero, suc, ◌+◌, ◌-◌, ◌<◌, ◌≤◌, List, [], ◌∷◌, ◌++◌, length, get_or, take, refl, sym, ◌∙◌, ap, arith}
use Rattle.std.proofs.Common.{Option, Some, None}
use Rattle.std.specs.Prelude.{IfSome, IfNone}
use Rattle.snmp_agent.specs.table.Table.{MibView, IsMibView}
use Rattle.snmp_walk.specs.{Link.Agents, Link.OneOf, Link.AreViews, Moves.AreUsed, Memory.IsNextNumber, Memory.IsTableFor}
use Rattle.snmp_walk.specs.Traffic.{datagram_at, latest, received, Gives, Receives}

pub one_got : (views : List MibView) (index : ℕ) (d : MibView) → index < length views → OneOf views (get_or views index d)
one_got [] index d h = absurd (omega (arith, h))
one_got (view ∷ views) zero d h = inl refl
one_got (view ∷ views) (suc index) d h = inr (one_got views index d (omega (arith, h)))

views_push : (views : List MibView) (v : MibView) → AreViews views → IsMibView v → AreViews (views ++ v ∷ [])
views_push [] v h good = (good, tt)
views_push (u ∷ views) v h good = (h.0, views_push views v h.1 good)

-- if the first i of these tables are MIB views, and the table at the index i is one too, then the first i + 1 are
pub views_more : (views : List MibView) (i : ℕ) (v : MibView) → i < length views → v ≡ get_or views i v → IsMibView v → AreViews (take i views)
    → AreViews (take (i + 1) views)
views_more views i v less is good h = grind (arith, common_steps, take_more, views_push)

latest_found : (sent : List (List ℕ)) → datagram_at sent (length sent) ≡ latest sent
latest_found [] = refl
latest_found (d ∷ []) = refl
latest_found (d ∷ e ∷ sent) = latest_found (e ∷ sent)

-- if the next receive is for datagram `number`, or for none if that is 0, and the agents may return `reply` for it (`Gives`), then the receive delivers
-- `reply`
pub received_at : (agents : Agents) (sent : List (List ℕ)) (ahead : List (Option ℕ)) (number : ℕ) (left : List (Option ℕ)) (reply : Option (List ℕ))
    → IsNextNumber sent ahead number left
    → Gives agents (datagram_at sent number) reply → Receives agents sent ahead reply left
received_at agents sent ahead number left reply (inl e) given = grind (arith, common_steps)
received_at agents sent ahead number left reply (inr (inl h)) given = grind (arith, common_steps)
received_at agents sent ahead number left reply (inr (inr h)) given = grind (arith, common_steps, latest_found)

-- what a receive returned is the same in the whole buffer `out ++ rest` as in its start `out`
pub received_prefix : (r : Option ℕ) (out rest : List ℕ) → IfSome r (λ n. n ≤ 65507) → length out ≡ 65507 → received r (out ++ rest) ≡ received r out
received_prefix None out rest h e = refl
received_prefix (Some n) out rest h e = ap Some (take-append-le n out rest (omega (arith, h, e)))

pub within_more : (r : Option ℕ) (m : ℕ) → IfSome r (λ n. n ≤ 65507) → 65507 ≤ m → IfSome r (λ n. n ≤ m)
within_more None m h k = tt
within_more (Some n) m h k = omega (arith, h, k)

-- if the reply to the next number is at the start of `out`, it is at the start of the buffer `out ++ rest` too
pub brought_by : (r : Option ℕ) (out rest : List ℕ) (number : ℕ) (Next : ℕ → Type 0) (Reply : ℕ → List ℕ → Type 0) → IfSome r (λ n. n ≤ 65507)
    → length out ≡ 65507 → Next number → IfSome r (λ n. Reply number (take n out)) → IfSome r (λ n. (k : ℕ) × Next k × Reply k (take n (out ++ rest)))
brought_by None out rest number Next Reply h e next reply = tt
brought_by (Some n) out rest number Next Reply h e next reply = grind (arith, common_steps, take-append-le)

-- if nothing was received, the receive is for some number k (`Next k`) that has no reply (`NoReply k`)
pub silent_by : (r : Option ℕ) (number : ℕ) (Next NoReply : ℕ → Type 0) → Next number → IfNone r (NoReply number) → IfNone r ((k : ℕ) × Next k × NoReply k)
silent_by None number Next NoReply next none = (number, next, none)
silent_by (Some n) number Next NoReply next none = tt

-- the table for datagram `number` is at the index `uses[number - 1]`, if `uses` has at least `number` items
pub table_found : (tables : List MibView) (uses : List ℕ) (number i index : ℕ) (d : MibView) → 0 < number → i ≡ number - 1 → i < length uses
    → index ≡ get_or uses i index → index < length tables → IsTableFor tables uses number (get_or tables index d)
table_found tables uses number i index d some at within is low = inl (
  i,
  index,
  omega (arith, some, at),
  slice_get-get_or uses i index within ∙ ap Some (sym is),
  slice_get-get_or tables index d low,
)

-- the number of a datagram that was sent isn't 0
pub counted : (sent : List (List ℕ)) (number : ℕ) (d : List ℕ) → datagram_at sent number ≡ Some d → 0 < number
counted sent zero d e = let no : ⊥ = cc in absurd no
counted sent (suc k) d e = omega arith

-- a receive uses at most one delivery
pub used_by : (sent : List (List ℕ)) (ahead : List (Option ℕ)) (number : ℕ) (left : List (Option ℕ)) → IsNextNumber sent ahead number left
    → AreUsed ahead 1 left
used_by sent ahead number left (inl e) = (Some number ∷ [], e, omega arith)
used_by sent ahead number left (inr (inl h)) = (None ∷ [], h.0, omega arith)
used_by sent ahead number left (inr (inr h)) = ([], h.0 ∙ sym h.1, omega arith)
