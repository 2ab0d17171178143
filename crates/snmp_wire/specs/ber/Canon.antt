-- The encoding that is written of values. If a value is in range, no strict encoding of it is
-- shorter (X.690, 8.1.3, 8.3 and 8.19; RFC 3417, section 8).
use Rattle.std.specs.Prelude.{ℕ, ℤ, pos, negsuc, ◌+◌, ◌-◌, ◌*◌, ◌/◌, ◌%◌, ◌^◌, ◌<◌, ◌≤◌, suc, zero}
use Rattle.std.specs.Prelude.{List, [], ◌∷◌, ◌++◌, length, get_or, map, nat_lt, if◌then◌else◌}
use Rattle.std.specs.List.{flat_map}
use Rattle.snmp_oid.specs.Identifier.{IsWire}
use Rattle.snmp_wire.specs.{ber.Identifier.subidentifiers, ber.Spelling.value_tag}
use Rattle.snmp_wire.specs.ber.Value.{Datum, integer_value, octet_string, object_id, ip_address}
use Rattle.snmp_wire.specs.ber.Value.{counter32, gauge32, time_ticks, opaque_octets, counter64}

-- the number of digits to the base `base` that `n` takes: 1 if `n` is below `limit`, 2 if it is
-- below `limit * base`, and so on; at most `1 + more`
abbrev pub digit_count : ℕ → ℕ → ℕ → ℕ → ℕ
digit_count base limit zero n = 1
digit_count base limit (suc more) n =
    if nat_lt n limit then 1 else 1 + digit_count base (limit * base) more n

-- the lowest `count` digits of `n` to the base `base`, with the most significant first
unfoldable pub digits : ℕ → ℕ → ℕ → List ℕ
digits base zero n = []
digits base (suc count) n = (n / base ^ count % base) ∷ digits base count n

-- the lowest `count` octets of `n`, with the most significant first
abbrev pub octets : ℕ → ℕ → List ℕ
octets count n = digits 256 count n

-- the number of octets that `n` takes in two's complement (the first bit is the sign), or 9 if `n`
-- takes more
unfoldable pub number_size : ℕ → ℕ
number_size n = digit_count 256 128 8 n

-- a whole number in the fewest octets of two's complement, if nine are enough (X.690, 8.3)
unfoldable pub canon_number : ℤ → List ℕ
canon_number (pos n) = octets (number_size n) n
canon_number (negsuc n) = octets (number_size n) (256 ^ number_size n - (n + 1))

-- the number of octets that the length `n` takes in the long form after the first octet, or 4 if
-- `n` takes more
unfoldable pub length_size : ℕ → ℕ
length_size n = digit_count 256 256 3 n

-- the shortest form of a length below 2 ^ 32 (X.690, 8.1.3)
unfoldable pub canon_length : ℕ → List ℕ
canon_length n = if nat_lt n 128 then n ∷ [] else (128 + length_size n) ∷ octets (length_size n) n

-- the number of octets that the subidentifier `n` takes, seven bits in each, or 5 if `n` takes more
unfoldable pub subidentifier_size : ℕ → ℕ
subidentifier_size n = digit_count 128 128 4 n

-- the lowest `count` digits of `n` to the base 128, each with the bit that says that more digits
-- follow
unfoldable pub septets : ℕ → ℕ → List ℕ
septets count n = map (λ digit. 128 + digit) (digits 128 count n)

-- a subidentifier below 2 ^ 35 in the fewest octets (X.690, 8.19.2)
unfoldable pub canon_subidentifier : ℕ → List ℕ
canon_subidentifier n = septets (subidentifier_size n - 1) (n / 128) ++ (n % 128) ∷ []

-- the tag and the length before a content of `size` octets
unfoldable pub canon_header : ℕ → ℕ → List ℕ
canon_header tag size = tag ∷ canon_length size

-- an element: tag, length, content
unfoldable pub canon_element : ℕ → List ℕ → List ℕ
canon_element tag content = canon_header tag (length content) ++ content

-- the content of a value; NULL and the exceptions have none (X.690, 8.8)
unfoldable pub canon_content : Datum → List ℕ
canon_content (integer_value z) = canon_number z
canon_content (octet_string text) = text
canon_content (object_id name) = flat_map canon_subidentifier (subidentifiers name)
canon_content (ip_address address) = address
canon_content (counter32 n) = canon_number (pos n)
canon_content (gauge32 n) = canon_number (pos n)
canon_content (time_ticks n) = canon_number (pos n)
canon_content (opaque_octets text) = text
canon_content (counter64 n) = canon_number (pos n)
canon_content value = []

unfoldable pub canon_value : Datum → List ℕ
canon_value value = canon_element (value_tag value) (canon_content value)

-- the value can be written: it is an identifier that has an encoding, a string of at most 65535
-- octets, or any value of another type
abbrev pub IsEncodableValue : Datum → Type 0
IsEncodableValue (octet_string text) = length text ≤ 65535
IsEncodableValue (object_id name) = IsWire name
IsEncodableValue (opaque_octets text) = length text ≤ 65535
IsEncodableValue value = Unit {0}

-- ---- for private functions

-- the number, or its complement if it is below zero: both take the same number of octets in two's
-- complement
abbrev pub magnitude_of : ℤ → ℕ
magnitude_of (pos n) = n
magnitude_of (negsuc n) = n

-- the eight numbers from index `from` on take one octet each; a missing number counts as 0
pub record AreShort (numbers : List ℕ) (from : ℕ) : Type 0 where
  pub first : get_or numbers from 0 < 128
  pub second : get_or numbers (from + 1) 0 < 128
  pub third : get_or numbers (from + 2) 0 < 128
  pub fourth : get_or numbers (from + 3) 0 < 128
  pub fifth : get_or numbers (from + 4) 0 < 128
  pub sixth : get_or numbers (from + 5) 0 < 128
  pub seventh : get_or numbers (from + 6) 0 < 128
  pub eighth : get_or numbers (from + 7) 0 < 128

-- the eight numbers from index `from` on, with 0 for a missing number
abbrev pub eight_from : List ℕ → ℕ → List ℕ
eight_from numbers from =
    get_or numbers from 0 ∷ get_or numbers (from + 1) 0
    ∷ get_or numbers (from + 2) 0 ∷ get_or numbers (from + 3) 0
    ∷ get_or numbers (from + 4) 0 ∷ get_or numbers (from + 5) 0
    ∷ get_or numbers (from + 6) 0 ∷ get_or numbers (from + 7) 0 ∷ []
