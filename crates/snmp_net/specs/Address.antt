-- The arguments that name an agent, and the address that a server listens on.
use Rattle.std.specs.Prelude.{◌≡◌, ◌≢◌, ◌≤◌, ◌⊎◌, ◌++◌, ℕ, List, [], ◌∷◌, Contains, codes}
use Rattle.std.specs.Str.Parse.{IsNumeral, digits_value}
use Rattle.snmp_net.specs.declared.address.AgentAddress.{AgentAddress}
use Rattle.snmp_net.specs.declared.address.AgentAddress.TheVariants as agent

-- the address of an agent: the file of the table that it serves in memory, or a UDP port of a host
pub data Address : Type 0 where
  table : (path : List ℕ) → Address
  udp : (host : List ℕ) → (port : ℕ) → Address

-- the octet of `:`
abbrev pub colon : ℕ
colon = 58

-- the text can be a host, a name or an IPv4 address: it isn't empty and has no colon
pub record IsHost (host : List ℕ) : Type 0 where
  pub some : host ≢ []
  pub no_colon : ¬ Contains host colon

-- the decimal digits, perhaps with leading zeros, write the UDP port, which isn't 0
pub record IsPort (digits : List ℕ) (port : ℕ) : Type 0 where
  pub numeral : IsNumeral 10 digits
  pub value : digits_value 10 digits ≡ port
  pub from : 1 ≤ port
  pub to : port ≤ 65535

-- the argument is a port of the host: the host, a colon and the port
pub record IsPortOfHost (word host : List ℕ) (port : ℕ) : Type 0 where
  pub digits : List ℕ
  pub parts : word ≡ host ++ colon ∷ digits
  pub host_stated : IsHost host
  pub port_stated : IsPort digits port

-- the argument is only the host, at the port of SNMP (RFC 3417, section 3.2), or the host and its
-- port
abbrev pub IsTarget : (word host : List ℕ) → (port : ℕ) → Type 0
IsTarget word host port =
    (IsHost word × (host ≡ word) × (port ≡ 161)) ⊎ IsPortOfHost word host port

-- the argument doesn't begin with the prefix
abbrev pub LacksPrefix : (word prefix : List ℕ) → Type 0
LacksPrefix word prefix = (rest : List ℕ) → word ≢ prefix ++ rest

-- The argument is the address that a server listens on: a host and its port. It doesn't begin with
-- `table:` or `udp:`, the prefixes of an argument that names an agent.
abbrev pub IsHostAndPort : (word host : List ℕ) → (port : ℕ) → Type 0
IsHostAndPort word host port =
    LacksPrefix word (codes "table:") × LacksPrefix word (codes "udp:")
    × IsPortOfHost word host port

-- The argument names the agent at this address: `table:` and a path that isn't empty; or a host,
-- perhaps with its port, perhaps after `udp:`. An argument that begins with `table:` or `udp:` has
-- no other meaning than this prefix says.
abbrev pub IsAgent : (word : List ℕ) → Address → Type 0
IsAgent word (table path) = (path ≢ []) × (word ≡ codes "table:" ++ path)
IsAgent word (udp host port) =
    ((rest : List ℕ) × (word ≡ codes "udp:" ++ rest) × IsTarget rest host port)
    ⊎ (LacksPrefix word (codes "table:") × LacksPrefix word (codes "udp:")
    × IsTarget word host port)

-- the address that an `AgentAddress` stands for
abbrev pub address_of : AgentAddress → Address
address_of (agent.Table path) = table path.now
address_of (agent.Udp at) = udp at.host.now at.port
