-- The traffic of a link: the datagrams sent over it, and what its next receives deliver.
use Rattle.std.specs.Prelude.{◌≡◌, ◌≢◌, ℕ, zero, suc, ◌+◌, ◌⊎◌, List, [], ◌∷◌, ◌++◌, take, Option}
use Rattle.std.specs.Prelude.{Some, None}
use Rattle.std.specs.List.{slice_get}
use Rattle.snmp_walk.specs.Link.{Agents, IsReplyFrom, IsUnanswered}

-- the datagrams sent over a link, and the deliveries to come
pub record Traffic : Type 0 where
  -- the datagrams sent, in order
  pub sent : List (List ℕ)
  -- What the next receives deliver, in order: nothing, or the reply to the k-th datagram sent,
  -- counted from 1. After these, each receive delivers the reply to the latest datagram. Nothing is
  -- delivered if the datagram doesn't exist or has no reply.
  pub ahead : List (Option ℕ)

-- the k-th datagram sent, counted from 1; none if k is 0 or greater than their number
abbrev pub datagram_at : List (List ℕ) → ℕ → Option (List ℕ)
datagram_at sent zero = None
datagram_at sent (suc k) = slice_get sent k

-- the datagram that was sent last, if any was
abbrev pub latest : List (List ℕ) → Option (List ℕ)
latest [] = None
latest (d ∷ []) = Some d
latest (d ∷ e ∷ more) = latest (e ∷ more)

-- what a receive returned: the first n octets of the buffer, or nothing
abbrev pub received : Option ℕ → List ℕ → Option (List ℕ)
received None buffer = None
received (Some n) buffer = Some (take n buffer)

-- `reply` is what the agents may return for the datagram: a reply of one of them, or nothing if
-- one of them has none. Without a datagram, it is nothing.
abbrev pub Gives : Agents → Option (List ℕ) → Option (List ℕ) → Type 0
Gives agents None reply = reply ≡ None
Gives agents (Some datagram) None = IsUnanswered agents datagram
Gives agents (Some datagram) (Some reply) = IsReplyFrom agents datagram reply

-- one receive delivers `reply`, and `left` are the deliveries after it
abbrev pub Receives : Agents → (sent : List (List ℕ)) → (ahead : List (Option ℕ))
    → Option (List ℕ) → (left : List (Option ℕ)) → Type 0
Receives agents sent [] reply left = (left ≡ []) × Gives agents (latest sent) reply
Receives agents sent (None ∷ next) reply left = (left ≡ next) × (reply ≡ None)
Receives agents sent (Some k ∷ next) reply left = (left ≡ next)
    × Gives agents (datagram_at sent k) reply

-- it is possible that this delivery delivers nothing
abbrev pub IsNothing : Agents → List (List ℕ) → Option ℕ → Type 0
IsNothing agents sent None = Unit {0}
IsNothing agents sent (Some k) = Gives agents (datagram_at sent k) None

-- this delivery can deliver a reply to another datagram than q
abbrev pub IsOther : Agents → List (List ℕ) → List ℕ → Option ℕ → Type 0
IsOther agents sent q None = ⊥
IsOther agents sent q (Some k) =
    (d : List ℕ) × (reply : List ℕ) × (datagram_at sent k ≡ Some d) × (d ≢ q)
    × IsReplyFrom agents d reply

-- the datagrams sent, and then q once more if at least one try is left
abbrev pub resent : List (List ℕ) → List ℕ → ℕ → List (List ℕ)
resent sent q zero = sent
resent sent q (suc t) = sent ++ q ∷ []

-- Exactly `tries` tries of the request q can use up these deliveries without receiving a reply to
-- it. The first of these tries has already received `count` other replies. Each try ends with a
-- receive that returns nothing, or with its 64th receive.
abbrev pub Lost : Agents → List (List ℕ) → List ℕ → List (Option ℕ) → (tries count : ℕ) → Type 0
Lost agents sent q [] tries count = tries ≡ 0
Lost agents sent q (e ∷ more) zero count = ⊥
Lost agents sent q (e ∷ more) (suc t) count =
    (IsNothing agents sent e × Lost agents (resent sent q t) q more t 0)
    ⊎ ((IsOther agents sent q e × (count ≡ 63) × Lost agents (resent sent q t) q more t 0)
    ⊎ (IsOther agents sent q e × (count ≢ 63) × Lost agents sent q more (suc t) (count + 1)))
