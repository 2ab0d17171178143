-- Which replies an honest link can deliver while a request is tried, for proofs.
use Rattle.std.specs.Prelude.{◌≡◌, ℕ, ◌⊎◌, List}
use Rattle.snmp_wire.specs.Canon.{canon}
use Rattle.snmp_walk.specs.{WalkState.WalkState, Request.IsOfLowerId, Request.request_of}
use Rattle.snmp_walk.specs.Link.{Agents, IsReplyFrom, OneOf}

-- `Other` holds of no reply of the agents to q, and of each reply of theirs to a datagram in `sent`
-- other than q
pub record IsAsked (agents : Agents) (Other : List ℕ → Type 0) (q : List ℕ) (sent : List
    (List ℕ)) : Type 0 where
  pub own : (octets : List ℕ) → IsReplyFrom agents q octets → Other octets → ⊥
  pub others : (d : List ℕ) → OneOf sent d → (d ≡ q)
      ⊎ ((octets : List ℕ) → IsReplyFrom agents d octets → Other octets)

-- the datagram is the waiting request, or a request with a lower id
abbrev pub IsSentBefore : WalkState → List ℕ → Type 0
IsSentBefore w d = (d ≡ canon (request_of w)) ⊎ IsOfLowerId w.id d

-- each of these datagrams is the waiting request, or a request with a lower id
abbrev pub IsEarlier : List (List ℕ) → WalkState → Type 0
IsEarlier sent w = (d : List ℕ) → OneOf sent d → IsSentBefore w d
