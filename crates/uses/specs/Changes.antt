-- A Get of one name, and the reply to it (RFC 3416, section 4.2.1).
use Rattle.std.specs.Prelude.{◌≡◌, ℕ, ℤ, pos, List, [], ◌∷◌, length, take, Option, Some}
use Rattle.snmp_wire.specs.{Message.Message, Message.VarBind, Canon.canon, Name.asking}
use Rattle.snmp_wire.specs.declared.kind.Kind.TheVariants as kind
use Rattle.snmp_agent.specs.Reply.{Fits, no_error, response}

-- the Get of `name` by a manager of this community, with the request-id `id`
abbrev pub get_of : List ℕ → ℤ → List ℕ → Message
get_of community id name = record {
  version = pos 1;
  community = community;
  kind = kind.GetRequest;
  id = id;
  a = pos 0;
  b = pos 0;
  bindings = asking name ∷ [];
}

-- the Response, with the one binding `binding`, to the Get of the binding's name by a manager of
-- this community, with the request-id `id`
abbrev pub reply_with : List ℕ → ℤ → VarBind → Message
reply_with community id binding =
    response (get_of community id binding.name) no_error (pos 0) (binding ∷ [])

-- if the shortest encoding of `message` has at most `max_size` octets, then it is at the start of
-- `out`, and `size` is its length
abbrev pub IsSent : ℕ → Message → Option ℕ → List ℕ → Type 0
IsSent max_size message size out = Fits max_size message
    → (size ≡ Some (length (canon message))) × (take (length (canon message)) out ≡ canon message)
