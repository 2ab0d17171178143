-- The lengths of encodings (X.690, 8.1 and 8.3).
use Rattle.std.specs.Prelude.{◌≡◌, ℕ, ℤ, pos, ◌+◌, ◌<◌, ◌≤◌, List, length, FitsSigned}
use Rattle.std.specs.Int.{w32}
use Rattle.snmp_wire.specs.ber.Canon.{canon_element, canon_header, canon_length, canon_number}
use Rattle.snmp_wire.specs.ber.Canon.{canon_value, digit_count, length_size, number_size}
use Rattle.snmp_wire.specs.ber.Value.{integer_value}

-- how many octets the encodings of lengths, whole numbers and elements take
pub record ElementSizes : Type 0 where
  -- the short form of a length
  pub short_length : (n : ℕ) → n < 128 → length (canon_length n) ≡ 1
  -- the long form of a length: one octet, and then `length_size` octets
  pub long_length : (n : ℕ) → 128 ≤ n → length (canon_length n) ≡ 1 + length_size n
  -- there is at least one digit
  pub digits : (base limit more n : ℕ) → 1 ≤ digit_count base limit more n
  -- a number that isn't negative takes `number_size` octets
  pub number : (n : ℕ) → length (canon_number (pos n)) ≡ number_size n
  -- an INTEGER of 32 bits takes at most 6 octets, its header included
  pub integer : (z : ℤ) → FitsSigned w32 z → length (canon_value (integer_value z)) ≤ 6
  -- a header is a tag and a length
  pub header : (tag size : ℕ) → length (canon_header tag size) ≡ 1 + length (canon_length size)
  -- an element is a tag, a length and the content
  pub element : (tag : ℕ) (content : List ℕ)
      → length (canon_element tag content)
      ≡ 1 + length (canon_length (length content)) + length content
  -- a greater number doesn't have fewer digits
  pub digits_rise : (base limit more m n : ℕ)
      → m ≤ n → digit_count base limit more m ≤ digit_count base limit more n
  -- a greater length doesn't take fewer octets
  pub lengths_rise : (m n : ℕ) → m ≤ n → length (canon_length m) ≤ length (canon_length n)
