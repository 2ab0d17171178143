-- The text of a value or an exception, with a case for each type.
use Rattle.std.specs.Prelude.{◌≡◌, ℕ, ℤ, pos, ◌⊎◌, List, ◌++◌, Option, Some, None, codes, decimal}
use Rattle.std.specs.Prelude.{MatchBool}
use Rattle.std.specs.Fmt.{signed_decimal}
use Rattle.smi_value.specs.hint.Hint.{IsOfNumbers, IsOfOctets, ShowsNumber}
use Rattle.smi_value.specs.{hint.Pieces.ShowsOctets, Texts.address_text, Texts.hexadecimal_text}
use Rattle.smi_value.specs.declared.letters.Letters.{Letters}
use Rattle.snmp_wire.specs.ber.Value.{Datum, integer_value, octet_string, null_value, object_id}
use Rattle.snmp_wire.specs.ber.Value.{ip_address, counter32, gauge32, time_ticks, opaque_octets}
use Rattle.snmp_wire.specs.ber.Value.{counter64, no_such_object, no_such_instance, end_of_mib_view}
use Rattle.smi_value.specs.declared.base.ValueBase.TheVariants as base
use Rattle.smi_value.specs.Syntax.{ObjectSyntax, syntax_at, is_of_bits, name_of_number}
use Rattle.smi_value.specs.Pieces.{IsBitsText, type_word, units_text, named_text, ticks_text}
use Rattle.smi_value.specs.Pieces.{string_text}

-- `text` is `n` as the hint shows it, if it is a hint of integers, otherwise `n` in decimal digits
abbrev pub IsNumberText : Option (List ℕ) → ℤ → List ℕ → Type 0
IsNumberText None n text = text ≡ signed_decimal n
IsNumberText (Some hint) n text =
    ShowsNumber hint n text ⊎ ((IsOfNumbers hint → ⊥) × (text ≡ signed_decimal n))

-- `text` is `word`, the word of a type, then `n` as `IsNumberText` says, then the units; the
-- letters may leave out the word and the units
pub record IsTypedNumber (letters : Letters) (word : List ℕ) (hint units : Option (List ℕ)) (n : ℤ)
    (text : List ℕ) : Type 0 where
  pub shown : List ℕ
  pub is_number : IsNumberText hint n shown
  pub whole : text ≡ type_word letters word ++ shown ++ units_text letters units

-- `text` shows the INTEGER `n`. If `n` has a name, `text` is the word of the type and what
-- `named_text` returns; otherwise it is as `IsTypedNumber` says, with the hint and the units of
-- `syntax`.
abbrev pub IsIntegerText : Letters → ObjectSyntax → ℤ → Option (List ℕ) → List ℕ → Type 0
IsIntegerText letters syntax n None text =
    IsTypedNumber letters (codes "INTEGER: ") syntax.hint syntax.units n text
IsIntegerText letters syntax n (Some name) text =
    text ≡ type_word letters (codes "INTEGER: ") ++ named_text letters name (signed_decimal n)

-- `text` is the word of a string, unless with q or Q, and `octets` as `hint` shows them
pub record IsHintedString (letters : Letters) (hint octets text : List ℕ) : Type 0 where
  pub shown : List ℕ
  pub shows : ShowsOctets hint octets shown
  pub whole : text ≡ type_word letters (codes "STRING: ") ++ shown

-- `text` shows an OCTET STRING that isn't of BITS: by its hint if that is a hint of octets,
-- otherwise as a string without a hint
abbrev pub IsStringText : Letters → Option (List ℕ) → List ℕ → List ℕ → Type 0
IsStringText letters None octets text = text ≡ string_text letters octets
IsStringText letters (Some hint) octets text =
    IsHintedString letters hint octets text
    ⊎ ((IsOfOctets hint → ⊥) × (text ≡ string_text letters octets))

-- `text` shows `octets`: as BITS if the object is of that type, otherwise as a string
abbrev pub IsOctetsText : Letters → Option ObjectSyntax → List ℕ → List ℕ → Type 0
IsOctetsText letters syntax octets text =
    MatchBool (is_of_bits syntax)
    (IsBitsText letters (syntax_at base.Bits syntax).names octets text)
    (IsStringText letters (syntax_at base.OctetString syntax).hint octets text)

-- the value isn't an OBJECT IDENTIFIER
abbrev pub IsNoIdentifier : Datum → Type 0
IsNoIdentifier (object_id _) = ⊥
IsNoIdentifier _ = Unit {0}

-- the text of a number without a hint: the word of its type, `n` in decimal digits, and the units;
-- the letters may leave out the word and the units
abbrev pub counter_text : Letters → List ℕ → Option (List ℕ) → ℕ → List ℕ
counter_text letters word units n = type_word letters word ++ decimal n ++ units_text letters units

-- `text` shows a value by the letters and by the syntax of its object, if that is known; `names`
-- maps each identifier to its name
abbrev pub ShowsValue : (List ℕ → List ℕ) → Letters → Option ObjectSyntax → Datum → List ℕ → Type 0
ShowsValue names letters syntax (integer_value n) text =
    let at = syntax_at base.Integer syntax in
    IsIntegerText letters at n (name_of_number at.names n) text
ShowsValue names letters syntax (octet_string octets) text =
    IsOctetsText letters syntax octets text
ShowsValue names letters syntax null_value text = text ≡ codes "NULL"
ShowsValue names letters syntax (object_id name) text =
    text ≡ type_word letters (codes "OID: ") ++ names name
ShowsValue names letters syntax (ip_address octets) text =
    text ≡ type_word letters (codes "IpAddress: ") ++ address_text octets
ShowsValue names letters syntax (counter32 n) text =
    text ≡ counter_text letters (codes "Counter32: ") (syntax_at base.Counter32 syntax).units n
ShowsValue names letters syntax (gauge32 n) text =
    let at = syntax_at base.Gauge32 syntax in
    IsTypedNumber letters (codes "Gauge32: ") at.hint at.units (pos n) text
ShowsValue names letters syntax (time_ticks n) text =
    text ≡ ticks_text letters n ++ units_text letters (syntax_at base.TimeTicks syntax).units
ShowsValue names letters syntax (opaque_octets octets) text =
    text ≡ type_word letters (codes "OPAQUE: ") ++ hexadecimal_text octets
ShowsValue names letters syntax (counter64 n) text =
    text ≡ counter_text letters (codes "Counter64: ") (syntax_at base.Counter64 syntax).units n
ShowsValue names letters syntax no_such_object text =
    text ≡ codes "No Such Object available on this agent at this OID"
ShowsValue names letters syntax no_such_instance text =
    text ≡ codes "No Such Instance currently exists at this OID"
ShowsValue names letters syntax end_of_mib_view text =
    text ≡ codes "No more variables left in this MIB View (It is past the end of the MIB tree)"
