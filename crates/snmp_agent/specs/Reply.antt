-- The replies of a read-only agent (RFC 3416, section 4.2; RFC 1901, section 3).
use Rattle.std.specs.Prelude.{◌≡◌, ◌≢◌, ℕ, ℤ, pos, negsuc, ◌≤◌, ◌<◌, List, [], ◌∷◌, ◌++◌, length}
use Rattle.std.specs.Prelude.{take, drop}
use Rattle.snmp_wire.specs.{declared.kind.Kind.Kind, Spelling.Spells, Canon.canon}
use Rattle.snmp_wire.specs.declared.kind.Kind.TheVariants as kind
use Rattle.snmp_wire.specs.Message.{VarBind, Message, end_of_mib_view}
use Rattle.snmp_agent.specs.table.Table.{MibView, IsGet, IsNext, IsNextAfter}
use Rattle.snmp_agent.specs.{declared.config.Config.Config, declared.config.DropReason.DropReason}
use Rattle.snmp_agent.specs.declared.config.DropReason.TheVariants as why

-- an agent: what it serves, its community, and the greatest length of its messages in octets
pub record Agent : Type 0 where
  pub view : MibView
  pub community : List ℕ
  pub max_size : ℕ

-- the agent that serves this view with this configuration
abbrev pub agent_of : MibView → Config → Agent
agent_of view config = record {
  view = view;
  community = config.community.now;
  max_size =
      config.max_size;
}

-- ---- requests

-- requests of this kind are served
abbrev pub IsServed : Kind → Type 0
IsServed kind.GetRequest = Unit {0}
IsServed kind.GetNextRequest = Unit {0}
IsServed kind.SetRequest = Unit {0}
IsServed kind.GetBulkRequest = Unit {0}
IsServed _ = ⊥

-- `octets` encode `q`, a request that the agent serves: its version is 1, which stands for
-- SNMPv2c, its community is the agent's, and requests of its kind are served
pub record IsRequest (community octets : List ℕ) (q : Message) : Type 0 where
  pub spelt : Spells q octets
  pub version : q.version ≡ pos 1
  pub named : q.community ≡ community
  pub served : IsServed q.kind

-- ---- responses

-- the Response to the request `q` with this error-status, this error-index and these bindings; its
-- version, community and request-id are those of `q`
abbrev pub response : Message → ℤ → ℤ → List VarBind → Message
response q status index bindings = record {
  version = q.version;
  community = q.community;
  kind = kind.Response;
  id = q.id;
  a = status;
  b = index;
  bindings = bindings;
}

-- the two lists have the same length, and each binding of the second list is an answer to the
-- binding at the same index of the first list
abbrev pub AreAnswers : (VarBind → VarBind → Type 0) → List VarBind → List VarBind → Type 0
AreAnswers IsAnswer [] [] = Unit {0}
AreAnswers IsAnswer (asked ∷ more) (returned ∷ rest) = IsAnswer asked returned
    × AreAnswers IsAnswer more rest
AreAnswers IsAnswer _ _ = ⊥

-- the error-statuses noError, tooBig and notWritable (RFC 3416, section 3)
abbrev pub no_error : ℤ
no_error = pos 0

abbrev pub too_big : ℤ
too_big = pos 1

abbrev pub not_writable : ℤ
not_writable = pos 17

-- the error-index of the Response to a Set with these bindings: 1, which means the first binding,
-- or 0 if there are no bindings
abbrev pub failed_index : List VarBind → ℤ
failed_index [] = pos 0
failed_index (_ ∷ _) = pos 1

-- `r` is the whole Response to the request `q`, whatever its length. `q` isn't a GetBulk, and `r`
-- has one binding for each binding of `q`: for a Get the results of a Get (4.2.1), for a GetNext
-- the results of a GetNext (4.2.2), and for a Set the request's own bindings with an error, since
-- nothing can be written (4.2.5).
pub data IsWhole (view : MibView) (q r : Message) : Type 0 where
  got : (bindings : List VarBind) → q.kind ≡ kind.GetRequest
      → AreAnswers (λ asked returned. IsGet view asked.name returned) q.bindings bindings
      → r ≡ response q no_error (pos 0) bindings → IsWhole view q r
  got_next : (bindings : List VarBind) → q.kind ≡ kind.GetNextRequest
      → AreAnswers (λ asked returned. IsNext view asked.name returned) q.bindings bindings
      → r ≡ response q no_error (pos 0) bindings → IsWhole view q r
  unwritten : q.kind ≡ kind.SetRequest
      → r ≡ response q not_writable (failed_index q.bindings) q.bindings → IsWhole view q r

-- the shortest encoding of the message has at most `max_size` octets
abbrev pub Fits : ℕ → Message → Type 0
Fits max_size m = length (canon m) ≤ max_size

-- ---- GetBulk (4.2.3)

-- the number, or 0 if it is negative
abbrev pub or_zero : ℤ → ℕ
or_zero (pos n) = n
or_zero (negsuc n) = 0

-- each of the bindings has the value endOfMibView
abbrev pub AreEnds : List VarBind → Type 0
AreEnds [] = Unit {0}
AreEnds (p ∷ more) = (p.value ≡ end_of_mib_view) × AreEnds more

-- the bindings of all rounds in one list, one round after the other
abbrev pub joined : List (List VarBind) → List VarBind
joined [] = []
joined (round ∷ more) = round ++ joined more

-- `rounds` are the rounds of a GetBulk for the repeating names. Round n, counted from 0, has for
-- each name the result of the last of n + 1 GetNexts: the first is of the name, and each other is
-- of the name that the previous one returned. A round of nothing but endOfMibView is the last.
-- Without such a round, there are `repetitions` rounds; there are never more.
pub record AreRounds (view : MibView) (repetitions : ℕ) (names : List VarBind) (rounds : List
    (List VarBind)) : Type 0 where
  pub few : length rounds ≤ repetitions
  pub successors : (before later : List (List VarBind)) (round : List VarBind)
      → rounds ≡ before ++ round ∷ later
      → AreAnswers (λ asked returned. IsNextAfter view
      (length before) asked.name returned) names round
  pub last : (before later : List (List VarBind)) (round : List VarBind)
      → rounds ≡ before ++ round ∷ later → AreEnds round → later ≡ []
  pub closed : length rounds < repetitions
      → (before : List (List VarBind)) × (round : List VarBind) × (rounds ≡ before ++ round ∷ [])
      × AreEnds round

-- `bindings` are all that the GetBulk `q` asks for, whatever their length: the results of
-- one GetNext for each of the first non-repeaters names (or for all names if there are fewer),
-- followed by the rounds of the other names, at most max-repetitions rounds (`AreRounds`). A
-- negative non-repeaters or max-repetitions counts as 0.
pub record IsBulk (view : MibView) (q : Message) (bindings : List VarBind) : Type 0 where
  pub singles : List VarBind
  pub rounds : List (List VarBind)
  pub parts : bindings ≡ singles ++ joined rounds
  pub are_singles : AreAnswers (λ asked returned. IsNext view asked.name returned) (take
      (or_zero q.a) q.bindings) singles
  pub are_rounds : AreRounds view (or_zero q.b) (drop (or_zero q.a) q.bindings) rounds

-- `bindings` are the longest prefix of `all` with which the Response to `q` has at most `max_size`
-- octets, or empty if the Response is longer even without bindings
pub record IsLongestPrefix (max_size : ℕ) (q : Message) (all bindings : List VarBind) : Type 0 where
  pub more : List VarBind
  pub prefix : all ≡ bindings ++ more
  pub fits : bindings ≢ [] → Fits max_size (response q no_error (pos 0) bindings)
  pub longest : (longer rest : List VarBind) → all ≡ longer ++ rest
      → Fits max_size (response q no_error (pos 0) longer) → length longer ≤ length bindings

-- ---- sizes

-- `r` is the Response to `q` if messages have at most `max_size` octets: the whole one if it
-- fits, otherwise an error without bindings (4.2.1, 4.2.2, 4.2.5); for a GetBulk, as many of its
-- bindings as fit, from the first on (4.2.3). A Response without bindings may still be longer than
-- `max_size`.
pub data IsResponse (view : MibView) (max_size : ℕ) (q r : Message) : Type 0 where
  whole : IsWhole view q r → Fits max_size r → IsResponse view max_size q r
  shortened : (large : Message) → IsWhole view q large → (Fits max_size large → ⊥)
      → r ≡ response q too_big (pos 0) [] → IsResponse view max_size q r
  bulk : (all bindings : List VarBind) → q.kind ≡ kind.GetBulkRequest → IsBulk view q all
      → IsLongestPrefix max_size q all bindings
      → r ≡ response q no_error (pos 0) bindings → IsResponse view max_size q r

-- ---- replies

-- `reply` is the agent's reply to the datagram `octets`: the shortest encoding of the Response to
-- the request that `octets` encode
pub record IsReply (agent : Agent) (octets reply : List ℕ) : Type 0 where
  pub request : Message
  pub response : Message
  pub is_request : IsRequest agent.community octets request
  pub is_response : IsResponse agent.view agent.max_size request response
  pub fits : Fits agent.max_size response
  pub encoding : reply ≡ canon response

-- the octets aren't a request that an agent with this community serves. The reason is the first
-- that applies: the octets don't encode a message, or it has another version, another community or
-- a PDU that isn't served. `TooLong` is never the reason.
abbrev pub IsRefused : List ℕ → List ℕ → DropReason → Type 0
IsRefused community octets why.Undecodable = (q : Message) → Spells q octets → ⊥
IsRefused community octets why.Version = (q : Message) × Spells q octets × (q.version ≢ pos 1)
IsRefused community octets why.Community = (q : Message) × Spells q octets × (q.version ≡ pos 1)
    × (q.community ≢ community)
IsRefused community octets why.Pdu = (q : Message) × Spells q octets × (q.version ≡ pos 1)
    × (q.community ≡ community) × (IsServed q.kind → ⊥)
IsRefused community octets why.TooLong = ⊥

-- the agent sends no reply to the octets, for this reason: the octets aren't a request that the
-- agent serves, or even a Response without bindings is too long
abbrev pub IsDropped : Agent → List ℕ → DropReason → Type 0
IsDropped agent octets why.TooLong = (q : Message) × (r : Message)
    × IsRequest agent.community octets q × IsResponse agent.view agent.max_size q r
    × (Fits agent.max_size r → ⊥)
IsDropped agent octets why.Undecodable = IsRefused agent.community octets why.Undecodable
IsDropped agent octets why.Version = IsRefused agent.community octets why.Version
IsDropped agent octets why.Community = IsRefused agent.community octets why.Community
IsDropped agent octets why.Pdu = IsRefused agent.community octets why.Pdu
