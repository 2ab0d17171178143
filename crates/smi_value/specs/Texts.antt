-- Octets and times as text, in forms that no letter changes.
use Rattle.std.specs.Prelude.{ℕ, ◌+◌, ◌/◌, ◌%◌, Bool, ◌&&◌, ◌||◌, ◌==◌, nat_le, nat_lt}
use Rattle.std.specs.Prelude.{if◌then◌else◌, List, [], ◌∷◌, ◌++◌, codes, decimal}
use Rattle.std.specs.List.{flat_map, enumerate_from}
use Rattle.snmp_io.specs.Draft.{hexadecimal_octet}

-- ---- octets

-- whether an octet is a character of printable ASCII
abbrev pub is_printable : ℕ → Bool
is_printable octet = nat_le 32 octet && nat_le octet 126

-- the octet, with a backslash before it if it is a double quote or a backslash
abbrev pub escape_octet : ℕ → List ℕ
escape_octet octet = if (octet == 34) || (octet == 92) then 92 ∷ octet ∷ [] else octet ∷ []

-- the octet at index `index` as two hexadecimal digits and a blank; a newline comes before them if
-- `index` is a multiple of 16 other than 0
abbrev pub hex_dump_octet : ℕ × ℕ → List ℕ
hex_dump_octet (index, octet) =
    (if nat_lt 0 index && (index % 16 == 0) then 10 ∷ [] else [])
    ++ hexadecimal_octet octet ++ codes " "

-- the octets in hexadecimal, sixteen a line
abbrev pub hexadecimal_text : List ℕ → List ℕ
hexadecimal_text octets = flat_map hex_dump_octet (enumerate_from 0 octets)

-- the octets of an address as numbers, with dots between them
abbrev pub address_text : List ℕ → List ℕ
address_text [] = []
address_text (first ∷ more) = decimal first ++ flat_map (λ n. 46 ∷ decimal n) more

-- ---- hundredths of a second

-- the mark, and `n`, which is below 100, as two decimal digits
abbrev pub two_digits : ℕ → ℕ → List ℕ
two_digits mark n = mark ∷ (48 + n / 10) ∷ (48 + n % 10) ∷ []

-- a number of days with a comma and a blank, or nothing if it is 0
abbrev pub days_text : ℕ → List ℕ
days_text days =
    if days == 0 then [] else
    (if days == 1 then codes "1 day, " else decimal days ++ codes " days, ")

-- `ticks`, hundredths of a second, as a time within a day: hours, minutes, seconds and hundredths
abbrev pub clock_text : ℕ → List ℕ
clock_text ticks =
    decimal (ticks / 360000 % 24)
    ++ two_digits 58 (ticks / 6000 % 60)
    ++ two_digits 58 (ticks / 100 % 60)
    ++ two_digits 46 (ticks % 100)
