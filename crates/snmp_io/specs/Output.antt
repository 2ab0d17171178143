-- What is known of an output.
use Rattle.std.specs.Prelude.{◌≡◌, ◌⊎◌, ◌++◌, ℕ, List, Option, option_map}
use Rattle.snmp_io.specs.Count.{HasIncreased}

-- an output: the octets that it took, if they are known, and the number of writes that failed
pub record Stream : Type 0 where
  pub taken : Option (List ℕ)
  pub faults : ℕ

-- the octets taken before, followed by the text, if they are known
abbrev pub octets_after : Option (List ℕ) → List ℕ → Option (List ℕ)
octets_after before text = option_map (λ taken. taken ++ text) before

-- the stream `before` after it also took the text
abbrev pub stream_after : Stream → List ℕ → Stream
stream_after before text = record { taken = octets_after before.taken text; faults = before.faults }

-- `after` has taken what `before` had and then a prefix of the text, perhaps empty or all of it;
-- nothing is said of its faults
pub record TakesPrefix (before : Stream) (text : List ℕ) (after : Stream) : Type 0 where
  pub prefix : List ℕ
  pub rest : List ℕ
  pub parts : text ≡ prefix ++ rest
  pub taken : after.taken ≡ octets_after before.taken prefix

-- a write failed, and was counted, after the stream had taken a prefix of the text
pub record FailsWithin (before : Stream) (text : List ℕ) (after : Stream) : Type 0 where
  pub begun : TakesPrefix before text after
  pub counted : HasIncreased before.faults after.faults

-- the stream took the whole text, or a write failed after a prefix of it
abbrev pub IsWritten : Stream → List ℕ → Stream → Type 0
IsWritten before text after = (after ≡ stream_after before text) ⊎ FailsWithin before text after
