-- How sends and receives change a link, whatever it delivers.
use Rattle.std.specs.Prelude.{◌≡◌, ◌+◌, ◌≤◌, ℕ, List, [], ◌∷◌, ◌++◌, length, Option}
use Rattle.snmp_io.specs.Count.{HasIncreased}
use Rattle.snmp_walk.specs.{Link.Agents, Traffic.Traffic}

-- the total length of these datagrams in octets
abbrev pub octets_in : List (List ℕ) → ℕ
octets_in [] = 0
octets_in (datagram ∷ more) = length datagram + octets_in more

-- The datagrams `tried` were passed to sends, in order. The list of the datagrams sent was
-- `before`. Now it is `after`: `before` followed by all of `tried` or, if `failed` holds, perhaps
-- by all but the last.
pub record AreSent (tried : List (List ℕ)) (failed : Type 0) (before after : List (List ℕ)) :
    Type 0 where
  pub prefix : List (List ℕ)
  pub left : List (List ℕ)
  pub parts : tried ≡ prefix ++ left
  pub sent : after ≡ before ++ prefix
  pub all : (failed → ⊥) → left ≡ []
  pub but_one : length left ≤ 1

-- `left` are the deliveries that remain of `ahead` once at most `count` of them are used
abbrev pub AreUsed : (ahead : List (Option ℕ)) → ℕ → (left : List (Option ℕ)) → Type 0
AreUsed ahead count left =
    (used : List (Option ℕ)) × (ahead ≡ used ++ left) × (length used ≤ count)

-- Sends of the datagrams `tried`, in order, and at most `receives` receives took the link from
-- `old` to `new`. `failed` says whether the last of these calls failed; no other did.
-- The agents and facts of the link are arguments, since the clauses of the trait `Link` use this
-- definition.
pub record Moves {W : Type 0} (Keeps Honest : W → Type 0) (agents_of : W → Agents)
    (traffic_of : W → Traffic) (faults_of : W → ℕ) (Ready : W → ℕ → ℕ → Type 0) (old : W)
    (tried : List (List ℕ)) (receives : ℕ) (failed : Type 0) (new : W) : Type 0 where
  -- it still lists what is sent, if it did before; it is still honest, if it was; it has the same
  -- agents
  pub keeps : Keeps old → Keeps new
  pub honest : Honest old → Honest new
  pub agents : agents_of new ≡ agents_of old
  -- if it lists what is sent, it sent the datagrams `tried` and nothing else; if a call failed, it
  -- perhaps didn't send the last of them
  pub sent : Keeps old → AreSent tried failed (traffic_of old).sent (traffic_of new).sent
  -- if it is honest, each receive used at most one delivery
  pub used : Honest old → AreUsed (traffic_of old).ahead receives (traffic_of new).ahead
  -- its fault count has increased if a call failed, and is the same if none did
  pub count : (failed → ⊥) → faults_of new ≡ faults_of old
  pub fault : failed → HasIncreased (faults_of old) (faults_of new)
  -- if it was ready for these sends and for `sends` others, of `octets` octets in total, then no
  -- call failed, and it is ready for the others
  pub ready : (sends octets : ℕ) → Ready old (sends + length tried) (octets + octets_in tried)
      → (failed → ⊥) × Ready new sends octets
