-- What is known of the world outside at one time: of files, network and outputs.
use Rattle.snmp_io.specs.{Files.Holdings, Output.Stream}

-- what the files hold, the state of the network, and what the outputs took
pub record Seen (N : Type 0) : Type 0 where
  pub files : Holdings
  pub links : N
  pub out : Stream
  pub err : Stream

-- the `Seen` with these fields: the files, the network `links`, and the outputs `out` and `err`
abbrev pub seen : {N : Type 0} → Holdings → (links : N) → (out err : Stream) → Seen N
seen {N} files links out err =
    record { files = files; links = links; out = out; err = err }
