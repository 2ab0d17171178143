-- Names as the keys of maps.
use Rattle.std.specs.{Prelude.ℕ, Prelude.List, Prelude.[], Prelude.◌∷◌, Hash.HashWrites}

-- what a name writes to a hasher: its octets, in one write
abbrev pub name_writes : List ℕ → HashWrites
name_writes octets = octets ∷ []
