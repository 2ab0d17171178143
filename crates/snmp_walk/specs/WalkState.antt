-- The state of a walk between two datagrams.
use Rattle.std.specs.Int.{w32}
use Rattle.std.specs.Prelude.{FitsSigned, All, ℕ, pos, ◌≤ℤ◌, ◌*◌, ◌^◌, ◌<◌, ◌≤◌, List, length}
use Rattle.snmp_oid.specs.Identifier.{IsIdentifier, IsWire}
use Rattle.snmp_walk.specs.{declared.mode.Mode.Mode, declared.mode.Phase.Phase}
use Rattle.snmp_walk.specs.declared.mode.Method.{Method}
use Rattle.snmp_walk.specs.declared.mode.Method.TheVariants.{Next, Bulk}

-- the state of a walk, as contracts see it
pub record WalkState : Type 0 where
  pub root : List ℕ
  pub mode : Mode
  pub method : Method
  pub community : List ℕ
  -- the kind of request whose reply the walk waits for, or that the walk is over
  pub phase : Phase
  -- the name that the waiting request asks for, or asks from
  pub asked : List ℕ
  -- the id of the waiting request
  pub id : ℕ
  -- the number of bindings passed on before the waiting request
  pub count : ℕ

-- if the method is GetBulk, its max-repetitions is at least 1
abbrev pub IsMethod : Method → Type 0
IsMethod Next = Unit {0}
IsMethod (Bulk repetitions) = pos 1 ≤ℤ repetitions

-- if the method is GetBulk, its max-repetitions is a signed number of 32 bits, and so at most
-- 2147483647
abbrev pub HasRange : Method → Type 0
HasRange Next = Unit {0}
HasRange (Bulk repetitions) = FitsSigned w32 repetitions

-- what holds of each state w of a walk
pub record IsWalkState (w : WalkState) : Type 0 where
  pub method : IsMethod w.method
  pub community : length w.community ≤ 255
  pub asked : IsWire w.asked
  pub identifier : IsIdentifier w.asked
  pub octets : All (λ octet. octet < 256) w.community
  pub repetitions : HasRange w.method
  pub id : w.id < 2 ^ 31
  pub count : w.count ≤ w.id * 2 ^ 32
