-- How the requests of a run change its link.
use Rattle.std.specs.Prelude.{◌≤◌, ◌<◌, ◌+◌, ◌*◌, ℕ, List, length, replicate}
use Rattle.snmp_wire.specs.Message.{VarBind}
use Rattle.snmp_walk.specs.{Moves.Moves, Run.AreTries, Run.IsEachSent, Run.Try, Run.sent_by}
use Rattle.snmp_walk.specs.{WalkState.WalkState, declared.link.Link.Ghosts as LinkFacts}

-- sends of the datagrams `tried`, in order, and at most `receives` receives took the link from
-- `old` to `new`, and `failed` says whether the last of these calls failed
abbrev pub IsMoved : {W : Type 0} → LinkFacts W → W → (tried : List (List ℕ)) → (receives : ℕ)
    → (failed : Type 0) → W → Type 0
IsMoved {W} facts old tried receives failed new = Moves facts.records facts.honest facts.agents
    facts.traffic facts.fault_count facts.ready old tried receives failed new

-- over a link that lists the datagrams sent, there are at most 64 receives for each datagram that
-- was sent between `old` and `new`
abbrev pub AreFew : {W : Type 0} → LinkFacts W → W → (receives : ℕ) → W → Type 0
AreFew {W} facts old receives new = facts.records old
    → receives + 64 * length (facts.traffic old).sent ≤ 64 * length (facts.traffic new).sent

-- Requests of the walk that began as `first` and passed on these rows took the link from `old` to
-- `new`: their ids increase by one, and each was passed to a send 1 to `tries` times. `failed`
-- says whether the last send or receive failed.
pub record IsMovedByRequests {W : Type 0} (facts : LinkFacts W) (tries : ℕ) (first : WalkState)
    (given : List VarBind) (old : W) (failed : Type 0) (new : W) : Type 0 where
  pub requests : List Try
  pub are_tries : AreTries tries first given first.id requests
  pub each_tried : IsEachSent requests
  pub receives : ℕ
  pub moved : IsMoved facts old (sent_by requests) receives failed new
  pub few : AreFew facts old receives new
  -- over any link, there are at most 64 receives for each send, failed ones included
  pub within : receives ≤ 64 * length (sent_by requests)

-- ---- for private functions

-- 1 to `tries` sends of this datagram, and at most 64 receives for each, took the link from `old`
-- to `new`; `failed` says whether the last of these calls failed
abbrev pub IsMovedByTries : {W : Type 0} → LinkFacts W → W → List ℕ → (tries : ℕ)
    → (failed : Type 0) → W → Type 0
IsMovedByTries {W} facts old datagram tries failed new =
    (times : ℕ) × (times ≤ tries) × (0 < times) × (receives : ℕ)
    × IsMoved facts old (replicate times datagram) receives failed new
    × AreFew facts old receives new
    × (receives ≤ 64 * times)
