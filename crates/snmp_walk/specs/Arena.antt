-- Datagrams stored one after the other in one buffer.
use Rattle.std.specs.Prelude.{ℕ, List, take, drop, map}
use Rattle.snmp_walk.specs.declared.arena.Span.{Span}

pub record Store : Type 0 where
  pub datagrams : List (List ℕ)
  -- the numbers of further datagrams and of further octets for which memory is reserved
  pub free_spans : ℕ
  pub room : ℕ

abbrev pub cut_at : List ℕ → Span → List ℕ
cut_at octets span = take span.len (drop span.start octets)

abbrev pub cut : List ℕ → List Span → List (List ℕ)
cut octets spans = map (cut_at octets) spans
