-- How replies are computed: what private functions are proved to find and to write. For contracts
-- of functions that the crate doesn't export.
use Rattle.std.specs.Prelude.{◌≡◌, ◌≢◌, ℕ, zero, suc, ℤ, pos, ◌+◌, ◌≤◌, ◌<◌, List, [], ◌∷◌, ◌++◌}
use Rattle.std.specs.Prelude.{◌-◌, length, map, take, drop, cond, leb, Option, None, Some}
use Rattle.std.specs.List.{list_all}
use Rattle.snmp_oid.specs.Identifier.{IsWire}
use Rattle.snmp_wire.specs.declared.kind.Kind.{Kind}
use Rattle.snmp_wire.specs.declared.kind.Kind.TheVariants as kind
use Rattle.snmp_wire.specs.Message.{Datum, object_id, octet_string, opaque_octets, VarBind, Message}
use Rattle.snmp_wire.specs.Canon.{canon, canon_binding, canon_head}
use Rattle.snmp_agent.specs.{table.Listing.got_at, table.Table.MibView, table.Table.IsNextAfter}
use Rattle.snmp_agent.specs.declared.room.ReplyBindings.{ReplyBindings}
use Rattle.snmp_agent.specs.Reply.{AreAnswers, IsResponse, not_writable, no_error, failed_index}
use Rattle.snmp_agent.specs.Reply.{joined, or_zero}
use Rattle.snmp_agent.specs.private.Cursor.{bindings_in_round, is_over, next_at, cursor_of}
use Rattle.snmp_agent.specs.private.Cursor.{cursors_of}

-- what the reply to a Get, a GetNext or a Set has for `asked`, one binding of the request;
-- `answers_to` is the list of these for all bindings of the request
abbrev pub answer_to : MibView → Kind → VarBind → VarBind
answer_to view kind.GetRequest asked = got_at view asked.name
answer_to view kind.GetNextRequest asked = next_at (cursor_of view 0 asked.name)
answer_to view _ asked = asked

abbrev pub answers_to : MibView → Kind → List VarBind → List VarBind
answers_to view k asked = map (answer_to view k) asked

-- if the value is an identifier, it has an encoding
abbrev pub HasEncoding : Datum → Type 0
HasEncoding (object_id name) = IsWire name
HasEncoding _ = Unit {0}

-- the name of `binding` has an encoding, and so has its value if that is an identifier
pub record IsWritable (binding : VarBind) : Type 0 where
  pub name : IsWire binding.name
  pub value : HasEncoding binding.value

abbrev pub AreWritable : List VarBind → Type 0
AreWritable [] = Unit {0}
AreWritable (binding ∷ more) = IsWritable binding × AreWritable more

-- the value isn't a string of more than 65535 octets
abbrev pub IsShortValue : Datum → Type 0
IsShortValue (octet_string text) = length text ≤ 65535
IsShortValue (opaque_octets text) = length text ≤ 65535
IsShortValue _ = Unit {0}

-- the length in octets that the message `m` would have if its bindings took `total` octets
abbrev pub whole_size : Message → ℕ → ℕ
whole_size m total = length (canon_head m total) + total

-- the error-status of the Response to a request of this kind, unless the Response is replaced
-- because it is too long; `whole_index` is its error-index
abbrev pub whole_status : Kind → ℤ
whole_status kind.SetRequest = not_writable
whole_status _ = no_error

abbrev pub whole_index : Kind → List VarBind → ℤ
whole_index kind.SetRequest bindings = failed_index bindings
whole_index _ bindings = pos 0

-- if the result is `Some n`, the message `r` was written to the start of `out`, and its length is
-- `n`, at most `limit`; if the result is `None`, `r` is longer than `limit`
abbrev pub IsWritten : ℕ → Message → Option ℕ → List ℕ → Type 0
IsWritten limit r None out = limit < length (canon r)
IsWritten limit r (Some n) out =
    (length (canon r) ≤ limit) × (take n out ≡ canon r) × (n ≡ length (canon r))

-- the Response to the request `q` was written to the start of `out`, and `result` has its length;
-- or the Response is longer than `limit`, and `result` is `None`
abbrev pub IsAnswered : MibView → ℕ → Message → Option ℕ → List ℕ → Type 0
IsAnswered view limit q result out =
    (r : Message) × IsResponse view limit q r × IsWritten limit r result out

-- `room` is the greatest number of octets that the bindings of the message can take if the message
-- has at most `limit` octets, or 0 if the message is longer than `limit` even without bindings
pub record IsRoom (m : Message) (limit room : ℕ) : Type 0 where
  pub fits : room ≢ 0 → whole_size m room ≤ limit
  pub most : limit < whole_size m (room + 1)

-- ---- the bindings of a reply

-- the bindings of a reply: their encodings, and the number of octets that further ones may take
pub record Held : Type 0 where
  pub octets : List ℕ
  pub left : ℕ

-- the bindings of a reply that is written to `out`
abbrev pub held : ReplyBindings → List ℕ → Held
held reply out = record { octets = take reply.total out; left = reply.left }

-- the bindings `h` with `octets` appended if there is room for them, otherwise `h` with no room
-- left
abbrev pub put : Held → List ℕ → Held
put h octets = cond (leb (length octets) h.left)
    (record { octets = h.octets ++ octets; left = h.left - length octets })
    (record { octets = h.octets; left = 0 })

-- the bindings `h` with `p` appended if there is room for it, otherwise `h` with no room left
unfoldable pub add : Held → VarBind → Held
add h p = put h (canon_binding p)

-- the bindings `h` with these bindings appended, one after the other, until one has no room
abbrev pub fill : Held → List VarBind → Held
fill h [] = h
fill h (p ∷ more) = fill (add h p) more

-- ---- GetBulk

-- the second list has, for each name in the first list, the result that the standard requires in a
-- round of a GetBulk after `round` earlier rounds
abbrev pub AreInRound : MibView → ℕ → List VarBind → List VarBind → Type 0
AreInRound view round = AreAnswers (λ asked returned. IsNextAfter view round asked.name returned)

-- the rounds of a GetBulk for these names that follow the first `round` rounds: at most `left`
-- more. If no variable was left for any name before a round, that round is the last.
abbrev pub rounds_from : MibView → List VarBind → ℕ → ℕ → List (List VarBind)
rounds_from view names round zero = []
rounds_from view names round (suc left) = bindings_in_round view round names
    ∷ cond (list_all is_over (cursors_of view round names)) []
    (rounds_from view names (round + 1) left)

-- all bindings that a GetBulk asks for
abbrev pub bulk_of : MibView → Message → List VarBind
bulk_of view q = bindings_in_round view 0 (take (or_zero q.a) q.bindings)
    ++ joined (rounds_from view (drop (or_zero q.a) q.bindings) 0 (or_zero q.b))
