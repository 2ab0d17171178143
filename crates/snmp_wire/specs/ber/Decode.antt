-- Decoding of lengths, numbers, identifiers and values from their start, with the first fault that
-- is found: what the functions of `src/ber` are proved to compute. Spelling.antt says what octets
-- encode; that both agree is proved (`value_gives` and `value_again`).
use Rattle.std.specs.Prelude.{◌≡◌, ℕ, zero, suc, ℤ, ◌+◌, ◌-◌, ◌*◌, ◌/◌, ◌%◌, ◌^◌, ◌<◌, ◌++◌, All}
use Rattle.std.specs.Prelude.{Bool, true, false, ◌&&◌, ◌||◌, ◌==◌, nat_lt, nat_le, if◌then◌else◌}
use Rattle.std.specs.Prelude.{List, [], ◌∷◌, length, take, drop, Result, Ok, Err}
use Rattle.std.specs.Result.{result_unwrap_or}
use Rattle.snmp_wire.specs.declared.ber.error.BerError.{BerError}
use Rattle.snmp_wire.specs.declared.ber.error.BerError.TheVariants as error
use Rattle.snmp_wire.specs.ber.Number.{unsigned, twos_complement}
use Rattle.snmp_wire.specs.ber.Value.{Datum, integer_value, octet_string, null_value, object_id}
use Rattle.snmp_wire.specs.ber.Value.{ip_address, counter32, gauge32, time_ticks, opaque_octets}
use Rattle.snmp_wire.specs.ber.Value.{counter64, no_such_object, no_such_instance, end_of_mib_view}

infixl 10 ◌>>=◌
abbrev pub ◌>>=◌ : {A B : Type 0} → Result A BerError → (A → Result B BerError) → Result B BerError
(Ok x) >>= f = f x
(Err e) >>= f = Err e

-- the fault of a decoding, or `e` if the decoding succeeded
abbrev pub fault_or : {A : Type 0} → Result A BerError → BerError → BerError
fault_or (Ok x) e = e
fault_or (Err d) e = d

-- ---- lengths and elements; `cut` is the fault if the octets end too early

unfoldable pub long_length_at : BerError → ℕ → List ℕ → Result (ℕ × List ℕ) BerError
long_length_at cut first rest =
    if nat_lt 128 first && nat_lt first 133
    then (if nat_lt (length rest) (first - 128)
    then Err cut
    else Ok (unsigned (take (first - 128) rest), drop (first - 128) rest))
    else Err error.Length

unfoldable pub length_at : BerError → List ℕ → Result (ℕ × List ℕ) BerError
length_at cut [] = Err cut
length_at cut (first ∷ rest) =
    if nat_lt first 128 then Ok (first, rest) else long_length_at cut first rest

-- the content of an element, and the octets after the element; the argument is what follows its tag
unfoldable pub content_at : BerError → List ℕ → Result (List ℕ × List ℕ) BerError
content_at cut octets = do
  n ← length_at cut octets
  if nat_lt (length n.1) n.0 then Err cut else Ok (take n.0 n.1, drop n.0 n.1)

-- the content of an inner element with this tag, and the octets after it
unfoldable pub inner_at : ℕ → List ℕ → Result (List ℕ × List ℕ) BerError
inner_at tag [] = Err error.Length
inner_at tag (found ∷ rest) = if found == tag then content_at error.Length rest else Err error.Tag

-- the tag and the content of an inner element, and the octets after it
unfoldable pub element_at : List ℕ → Result (ℕ × List ℕ × List ℕ) BerError
element_at [] = Err error.Length
element_at (tag ∷ rest) = do
  c ← content_at error.Length rest
  Ok (tag, c.0, c.1)

-- ---- numbers

unfoldable pub integer_of : List ℕ → Result ℤ BerError
integer_of content =
    if nat_lt 0 (length content) && nat_lt (length content) 5
    then Ok (twos_complement content)
    else Err error.Content

abbrev pub has_width : ℕ → List ℕ → Bool
has_width width [] = false
has_width width (first ∷ rest) =
    nat_le (length (first ∷ rest)) width || (length (first ∷ rest) == width + 1 && first == 0)

unfoldable pub unsigned_of : ℕ → List ℕ → Result ℕ BerError
unsigned_of width content =
    if has_width width content then Ok (unsigned content) else Err error.Content

-- ---- identifiers

-- the largest subidentifier: 80 plus the largest number
abbrev pub largest_subidentifier : ℕ
largest_subidentifier = 4294967375

-- a subidentifier, and the octets after it: the digits already read make the number `n`, and the
-- octets begin with the remaining digits
unfoldable pub subidentifier_from : ℕ → List ℕ → Result (ℕ × List ℕ) BerError
subidentifier_from n [] = Err error.Content
subidentifier_from n (octet ∷ rest) =
    if nat_lt largest_subidentifier (n * 128 + octet % 128) then Err error.Content
    else (if nat_lt octet 128
    then Ok (n * 128 + octet % 128, rest)
    else subidentifier_from (n * 128 + octet % 128) rest)

unfoldable pub subidentifier_at : List ℕ → Result (ℕ × List ℕ) BerError
subidentifier_at [] = Err error.Content
subidentifier_at (first ∷ rest) =
    if first == 128 then Err error.Content else subidentifier_from 0 (first ∷ rest)

unfoldable pub number_at : List ℕ → Result (ℕ × List ℕ) BerError
number_at octets = do
  n ← subidentifier_at octets
  if nat_lt n.0 (2 ^ 32) then Ok n else Err error.Content

-- the numbers that the octets encode, one after the other; a fault if there are more than `room`
unfoldable pub numbers_of : ℕ → List ℕ → Result (List ℕ) BerError
numbers_of room [] = Ok []
numbers_of zero (octet ∷ rest) = Err error.Content
numbers_of (suc room) (octet ∷ rest) = do
  n ← number_at (octet ∷ rest)
  more ← numbers_of room n.1
  Ok (n.0 ∷ more)

abbrev pub first_number : ℕ → ℕ
first_number n = if nat_lt n 80 then n / 40 else 2

abbrev pub second_number : ℕ → ℕ
second_number n = if nat_lt n 80 then n % 40 else n - 80

unfoldable pub identifier_of : List ℕ → Result (List ℕ) BerError
identifier_of content = do
  first ← subidentifier_at content
  more ← numbers_of 126 first.1
  Ok (first_number first.0 ∷ second_number first.0 ∷ more)

-- ---- values

abbrev pub empty_of : Datum → List ℕ → Result Datum BerError
empty_of value content = if length content == 0 then Ok value else Err error.Content

abbrev pub ip_address_of : List ℕ → Result Datum BerError
ip_address_of content = if length content == 4 then Ok (ip_address content) else Err error.Content

unfoldable pub typed_value : ℕ → List ℕ → Result Datum BerError
typed_value tag content =
    if tag == 0x02 then integer_of content >>= (λ z. Ok (integer_value z))
    else (if tag == 0x04 then Ok (octet_string content)
    else (if tag == 0x05 then empty_of null_value content
    else (if tag == 0x06 then identifier_of content >>= (λ name. Ok (object_id name))
    else (if tag == 0x40 then ip_address_of content
    else (if tag == 0x41 then unsigned_of 4 content >>= (λ n. Ok (counter32 n))
    else (if tag == 0x42 then unsigned_of 4 content >>= (λ n. Ok (gauge32 n))
    else (if tag == 0x43 then unsigned_of 4 content >>= (λ n. Ok (time_ticks n))
    else (if tag == 0x44 then Ok (opaque_octets content)
    else (if tag == 0x46 then unsigned_of 8 content >>= (λ n. Ok (counter64 n))
    else (if tag == 0x80 then empty_of no_such_object content
    else (if tag == 0x81 then empty_of no_such_instance content
    else (if tag == 0x82 then empty_of end_of_mib_view content
    else Err error.Tag))))))))))))

-- ---- for private functions

-- the result of a function agrees with `read`, the result of a definition: both are the same fault,
-- or both succeed and the value of `read` is `view` of the function's value
abbrev pub AgreesBy : {X Y : Type 0} → (X → Y) → Result X BerError → Result Y BerError → Type 0
AgreesBy view (Ok x) read = read ≡ Ok (view x)
AgreesBy view (Err e) read = read ≡ Err e

-- `read` without its value: `Ok tt`, or the fault of `read`
abbrev pub checked : {A : Type 0} → Result A BerError → Result (Unit {0}) BerError
checked read = read >>= λ _. Ok tt

-- `Ok` if the content is allowed, otherwise the fault `Content`
abbrev pub allowed : Bool → Result (Unit {0}) BerError
allowed true = Ok tt
allowed false = Err error.Content

unfoldable pub integer_at : List ℕ → Result (ℤ × List ℕ) BerError
integer_at octets = do
  element ← inner_at 0x02 octets
  z ← integer_of element.0
  Ok (z, element.1)

-- if a number in two's complement begins with `octet`: the octet that can be added before it
-- without changing the number
abbrev pub sign_of : ℕ → ℕ
sign_of octet = if nat_lt octet 128 then 0 else 255

-- the numbers that the octets encode, or `[]` if they don't encode at most 126 numbers
abbrev pub numbers_in : List ℕ → List ℕ
numbers_in octets = result_unwrap_or (numbers_of 126 octets) []

-- `octets` begin with `numbers`, which are `count` numbers of one octet each, and `rest` follows
abbrev pub IsPlainPrefix : ℕ → List ℕ → List ℕ → List ℕ → Type 0
IsPlainPrefix count numbers rest octets =
    (octets ≡ numbers ++ rest) × (length numbers ≡ count) × All (λ n. n < 128) numbers
