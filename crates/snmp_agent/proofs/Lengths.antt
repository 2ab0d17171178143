-- The lengths of messages: with more octets of bindings, a message isn't shorter.
use Rattle.std.proofs.{lemmas.Grind.common_steps, Common.ℕ, Common.◌≢◌, Common.◌+◌, Common.◌≤◌, Common.◌<◌, Common.length, Common.arith}
use Rattle.snmp_wire.specs.{Canon.canon_head, Canon.canon_header, Message.Message, Sizes.MessageSizes}
use Rattle.snmp_agent.specs.private.Answering.{whole_size, IsRoom}

-- a message with more octets of bindings is no shorter
pub longer : MessageSizes → (m : Message) (n k : ℕ) → n ≤ k → whole_size m n ≤ whole_size m k
longer sizes m n k h = omega (arith, h, sizes.heads_rise m n k h)

-- a head has at least one octet
pub some_head : (m : Message) (total : ℕ) → 0 < length (canon_head m total)
unfolding canon_head canon_header
some_head m total = omega arith

-- if the bindings take at least one octet and at most `room`, then the message stays within the limit; with more than `room` it doesn't (`beyond`)

pub within : MessageSizes → (m : Message) (limit room n : ℕ) → IsRoom m limit room → n ≢ 0 → n ≤ room → whole_size m n ≤ limit
within sizes m limit room n h some low = omega (arith, h.fits (λ none. some (omega (arith, none, low))), longer sizes m n room low)

pub beyond : MessageSizes → (m : Message) (limit room n : ℕ) → IsRoom m limit room → room < n → limit < whole_size m n
beyond sizes m limit room n h past = omega (arith, h.most, longer sizes m (room + 1) n (omega (arith, past)))

pub room_within : (m : Message) (limit room : ℕ) → IsRoom m limit room → room ≤ limit
room_within m limit room h = grind (arith, common_steps)
