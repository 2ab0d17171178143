-- The whole Response that is computed for a request is the one that the standard describes (`whole_response`), and the length
-- that is computed for a Response is that of its encoding (`response_size`).
use Rattle.std.proofs.{lemmas.Grind.common_steps, lemmas.Int.to_z-of_z}
use Rattle.std.specs.Cmp.Lexicographic.{pointwise, same_text, other_text}
use mir.Syntax.{w32}
use mir.Val.{of_z, to_z, SFits}
use Rattle.std.proofs.Common.{◌≡◌, ℕ, ℤ, pos, Bool, true, false, not, nat_eq, ◌⊎◌, ◌+◌, ◌≤◌, List, [], ◌∷◌, ◌++◌, length, map, take, refl}
use Rattle.std.proofs.Common.{sym, ap, ◌∙◌, ◌↔◌, ⊎_elim, arith, Option, IsSome, IfSome}
use Rattle.snmp_wire.specs.{declared.kind.Kind.Kind, Message.VarBind, Message.Message, Laws.HasPieces, Sizes.MessageSizes}
use Rattle.snmp_wire.specs.declared.kind.Kind.TheVariants as kind
use Rattle.snmp_wire.specs.Canon.{canon, canon_bindings, canon_fields, canon_prefix, canon_head, canon_opening}
use Rattle.snmp_agent.specs.table.Table.{MibView, IsGet, IsNext}
use Rattle.snmp_agent.specs.Reply.{IsServed, AreAnswers, IsWhole, got, got_next, unwritten, response, not_writable, failed_index}
use Rattle.snmp_agent.specs.private.Answering.{IsWritten, answer_to, answers_to, whole_size, whole_status, whole_index}
use Rattle.snmp_agent.proofs.{Each.is_got, NextEntries.IsOrder, Cursors.returned_there}

-- for the same `total`, the head of a message doesn't depend on its bindings
same_head : (m : Message) (total : ℕ) → canon_head (record m { bindings = [] }) total ≡ canon_head m total
unfolding canon_head canon_prefix canon_opening canon_fields
same_head m total = refl

-- if `f` returns an answer to each binding, then `map f` returns answers to a list of bindings
each : (R : VarBind → VarBind → Type 0) (f : VarBind → VarBind) → ((asked : VarBind) → R asked (f asked))
    → (asked : List VarBind) → AreAnswers R asked (map f asked)
each R f one [] = tt
each R f one (p ∷ asked) = (one p, each R f one asked)

-- the answers to the bindings of a Set are these bindings
own : (view : MibView) (asked : List VarBind) → answers_to view kind.SetRequest asked ≡ asked
own view [] = refl
own view (p ∷ asked) = ap (λ ps. p ∷ ps) (own view asked)

by_kind : IsOrder → (view : MibView) (q : Message) (k : Kind) → q.kind ≡ k → IsServed k → (k ≡ kind.GetBulkRequest → ⊥)
    → IsWhole view q (response q (whole_status k) (whole_index k q.bindings) (answers_to view k q.bindings))
by_kind order view q kind.GetRequest e h other =
    got (answers_to view kind.GetRequest q.bindings) e (each (λ asked returned. IsGet view asked.name returned) (answer_to view kind.GetRequest)
    (λ (asked : VarBind). is_got view asked.name) q.bindings) refl
by_kind order view q kind.GetNextRequest e h other =
    got_next (answers_to view kind.GetNextRequest q.bindings) e (each (λ asked returned. IsNext view asked.name returned) (answer_to view kind.GetNextRequest)
    (λ (asked : VarBind). returned_there order view 0 asked.name) q.bindings) refl
by_kind order view q kind.SetRequest e h other = unwritten e (ap (λ bs. response q not_writable (failed_index q.bindings) bs) (own view q.bindings))
by_kind order view q kind.GetBulkRequest e h other = absurd (other refl)
by_kind order view q _ e h other = absurd h

-- the whole Response to a request other than a GetBulk is the one that is computed
pub whole_response : IsOrder → (view : MibView) (q : Message) → IsServed q.kind → (q.kind ≡ kind.GetBulkRequest → ⊥)
    → IsWhole view q (response q (whole_status q.kind) (whole_index q.kind q.bindings) (answers_to view q.kind q.bindings))
whole_response order view q h other = by_kind order view q q.kind refl h other

-- ---- sizes

-- the computed length of a Response is the length of its encoding
pub response_size : MessageSizes → (q : Message) (status index : ℤ) (returned : List VarBind)
    → whole_size (response q status index []) (length (canon_bindings returned)) ≡ length (canon (response q status index returned))
response_size sizes q status index returned =
    ap (λ head. length head + length (canon_bindings returned)) (same_head (response q status index returned) (length (canon_bindings returned)))
    ∙ sym (sizes.whole (response q status index returned))

-- `out` begins with the bindings of the message `r`, which take `total` octets; `part` is the first `limit` octets of the output. If `part` begins with the
-- head of `r` and these bindings whenever they fit, then `r` was written, or it is longer than `limit` (`is_written`).
module _ (sizes : MessageSizes) (pieces : HasPieces) (limit total : ℕ) (m r : Message) (out part rest : List ℕ) (parts : m ≡ record r { bindings = [] })
    (octets : take total out ≡ canon_bindings r.bindings) (long : length (take total out) ≡ total) (room : length part ≡ limit) where
  total_size : total ≡ length (canon_bindings r.bindings)
  total_size = sym long ∙ ap length octets

  head : canon_head m total ≡ canon_head r (length (canon_bindings r.bindings))
  head = ap (λ (x : Message). canon_head x total) parts ∙ same_head r total ∙ ap (canon_head r) total_size

  size : whole_size m total ≡ length (canon r)
  size = omega (arith, ap length head, total_size, sizes.whole r)

  pub is_written : (result : Option ℕ) → IsSome result ↔ (whole_size m total ≤ limit)
      → IfSome result (λ n. (n ≡ whole_size m total) × (take n part ≡ canon_head m total ++ take total out)) → IsWritten limit r result (part ++ rest)
  is_written result fits h = grind (arith, common_steps, ⊎_elim, size, head)

-- ---- the tests of a request

-- if `handed` equals `z` and fits in a signed word of 32 bits, and that word is 1, then `z` is 1
pub is_one : {handed z : ℤ} → SFits w32 handed → handed ≡ z → of_z w32 handed ≡ 1 → z ≡ pos 1
is_one {handed} {z} fits e one = sym e ∙ sym (to_z-of_z w32 handed fits) ∙ ap (to_z w32) one

flip : (a b : Bool) → a ≡ not b → not a ≡ b
flip a b h = grind (arith, common_steps)

pub other_community : {found : List ℕ} {own theirs : List ℕ} → found ≡ theirs → true ≡ not (pointwise nat_eq found own) → theirs ≡ own → ⊥
other_community {found} {own} e differs same = other_text found own (flip true (pointwise nat_eq found own) differs) (e ∙ same)

pub same_community : {found : List ℕ} {own theirs : List ℕ} → found ≡ theirs → false ≡ not (pointwise nat_eq found own) → theirs ≡ own
same_community {found} {own} e agrees = sym e ∙ same_text found own (flip false (pointwise nat_eq found own) agrees)

pub served_kinds : {found theirs : Kind} → found ≡ theirs
    → (found ≡ kind.GetRequest) ⊎ ((found ≡ kind.GetNextRequest) ⊎ ((found ≡ kind.GetBulkRequest) ⊎ (found ≡ kind.SetRequest))) → IsServed theirs
served_kinds {found} {theirs} e h = grind (arith, common_steps)

pub other_kind : {found theirs : Kind} → found ≡ theirs → (found ≡ kind.GetRequest → ⊥) → (found ≡ kind.GetNextRequest → ⊥) → (found ≡ kind.GetBulkRequest
    → ⊥) → (found ≡ kind.SetRequest → ⊥) → IsServed theirs → ⊥
other_kind {found} {theirs} e get next bulk set served = grind (arith, common_steps)
