-- The most octets that a file may have, and which failed reads mean that memory ran out.
use Rattle.std.specs.{Prelude.◌≡◌, Prelude.ℕ, IoError.error_kind}
use Rattle.std.specs.declared.io.ErrorKind.TheVariants.{OutOfMemory}
use Rattle.snmp_io.specs.declared.machine.ReadError.{ReadError}
use Rattle.snmp_io.specs.declared.machine.ReadError.TheVariants.{Failed, TooLong}

-- the most octets that a file may have: 256 MiB
abbrev pub most_octets : ℕ
most_octets = 268435456

-- the read failed because memory ran out
abbrev pub IsWantOfMemory : ReadError → Type 0
IsWantOfMemory (Failed error) = error_kind error ≡ OutOfMemory
IsWantOfMemory TooLong = ⊥
