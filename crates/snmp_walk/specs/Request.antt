-- The first state of a walk, and the request that a walk sends in each state (RFC 3416, section
-- 4.2).
use Rattle.std.specs.Prelude.{◌≡◌, ◌<◌, ℕ, ℤ, pos, unsigned_abs, List, [], ◌∷◌}
use Rattle.snmp_oid.specs.Identifier.{wire}
use Rattle.snmp_wire.specs.{Canon.canon, declared.kind.Kind.Kind, Message.Message, Name.asking}
use Rattle.snmp_wire.specs.{Range.IsMessageInRange}
use Rattle.snmp_wire.specs.declared.kind.Kind.TheVariants as kind
use Rattle.snmp_walk.specs.{declared.mode.Mode.Mode, declared.mode.Phase.Phase, WalkState.WalkState}
use Rattle.snmp_walk.specs.declared.mode.Mode.TheVariants as mode
use Rattle.snmp_walk.specs.declared.mode.Method.{Method}
use Rattle.snmp_walk.specs.declared.mode.Method.TheVariants as method
use Rattle.snmp_walk.specs.declared.mode.Phase.TheVariants as phase

-- the phase in which a walk of this mode begins: a Get of its root if the walk includes the root,
-- and otherwise a request for the next instances
abbrev pub first_phase : Mode → Phase
first_phase mode.Include = phase.First
first_phase _ = phase.Rows

-- the state of a walk before its first request
abbrev pub start_state : List ℕ → Mode → Method → List ℕ → ℕ → WalkState
start_state root mode method community id = record {
  root = root;
  mode = mode;
  method = method;
  community = community;
  phase = first_phase mode;
  asked = wire root;
  id = id;
  count = 0;
}

-- the state of a walk that is resumed after a name
abbrev pub resume_state : List ℕ → List ℕ → Method → List ℕ → ℕ → WalkState
resume_state root after method community id = record {
  root = root;
  mode = mode.NoLast;
  method = method;
  community = community;
  phase = phase.Rows;
  asked = wire after;
  id = id;
  count = 0;
}

-- the number of bindings that a request for the next instances asks for
abbrev pub asked_for : Method → ℕ
asked_for method.Next = 1
asked_for (method.Bulk repetitions) = unsigned_abs repetitions

-- the kind of the waiting request: GetNext or GetBulk, by the method, if the request is for the
-- next instances, and Get otherwise
abbrev pub request_kind : Phase → Method → Kind
request_kind phase.Rows method.Next = kind.GetNextRequest
request_kind phase.Rows (method.Bulk repetitions) = kind.GetBulkRequest
request_kind _ method = kind.GetRequest

-- the max-repetitions of the waiting request, or 0 if it has none
abbrev pub request_repetitions : Phase → Method → ℤ
request_repetitions phase.Rows (method.Bulk repetitions) = repetitions
request_repetitions _ method = pos 0

-- the waiting request: one name, with the value NULL
abbrev pub request_of : WalkState → Message
request_of w = record {
  version = pos 1;
  community = w.community;
  kind = request_kind w.phase w.method;
  id = pos w.id;
  a = pos 0;
  b = request_repetitions w.phase w.method;
  bindings = asking w.asked ∷ [];
}

-- The datagram is the shortest encoding of a message with an id below `id` that isn't a Set, such
-- as a request of an earlier run. A reply to it has the same id, so that a late reply isn't taken
-- for one to a request with `id` or a higher id.
pub record IsOfLowerId (id : ℕ) (datagram : List ℕ) : Type 0 where
  pub request : Message
  pub in_range : IsMessageInRange request
  pub no_set : request.kind ≡ kind.SetRequest → ⊥
  pub number : ℕ
  pub id_is : request.id ≡ pos number
  pub lower : number < id
  pub encoding : datagram ≡ canon request
