-- The content of an OBJECT IDENTIFIER (X.690, 8.19).
use Rattle.std.specs.Prelude.{◌≡◌, ◌≢◌, ℕ, ◌+◌, ◌*◌, ◌%◌, ◌<◌, ◌≤◌, List, [], ◌∷◌, ◌++◌, map}
use Rattle.std.specs.Prelude.{slice_index, All}
use Rattle.snmp_oid.specs.Identifier.{IsIdentifier, IsWire}
use Rattle.snmp_wire.specs.ber.Number.{number_of}

-- `octets` encode the subidentifier `n` (8.19.2): they are its digits to the base 128, with the
-- high bit set on each but the last, and without a leading zero
pub record IsSubidentifier (octets : List ℕ) (n : ℕ) : Type 0 where
  pub prefix : List ℕ
  pub last : ℕ
  pub parts : octets ≡ prefix ++ last ∷ []
  pub goes_on : All (λ octet. 128 ≤ octet) prefix
  pub ends : last < 128
  pub minimal : slice_index octets 0 ≢ 128
  pub value : number_of 128 (map (λ octet. octet % 128) octets) ≡ n

-- `octets` encode the subidentifiers in turn
abbrev pub AreSubidentifiers : List ℕ → List ℕ → Type 0
AreSubidentifiers octets [] = octets ≡ []
AreSubidentifiers octets (n ∷ more) =
    (first : List ℕ) × (rest : List ℕ) × (octets ≡ first ++ rest)
    × IsSubidentifier first n × AreSubidentifiers rest more

-- the subidentifiers of an identifier (8.19.4): one for its first two numbers together, and one
-- for each of the others; none if it has fewer than two numbers
abbrev pub subidentifiers : List ℕ → List ℕ
subidentifiers [] = []
subidentifiers (x ∷ []) = []
subidentifiers (x ∷ y ∷ more) = (40 * x + y) ∷ more

-- `content` encodes the identifier `name`, which has an encoding and at most 128 numbers of 32
-- bits
pub record IsObjectId (content name : List ℕ) : Type 0 where
  pub wire : IsWire name
  pub identifier : IsIdentifier name
  pub parts : AreSubidentifiers content (subidentifiers name)
