-- The line of a row, as `-On` shows it if no module is loaded: `.NUMBERS = TYPE: VALUE`, without a
-- type for an empty string, for NULL and for the exceptions.
use Rattle.std.specs.Prelude.{ℕ, ◌/◌, if◌then◌else◌, List, [], ◌∷◌, ◌++◌, codes, decimal}
use Rattle.std.specs.{List.flat_map, List.list_all, Fmt.signed_decimal}
use Rattle.snmp_oid.specs.Numeric.{numeric_text}
use Rattle.snmp_wire.specs.ber.Value.{Datum, integer_value, octet_string, null_value, object_id}
use Rattle.snmp_wire.specs.ber.Value.{ip_address, counter32, gauge32, time_ticks, opaque_octets}
use Rattle.snmp_wire.specs.ber.Value.{counter64, no_such_object, no_such_instance, end_of_mib_view}
use Rattle.snmp_wire.specs.Message.{VarBind}
use Rattle.smi_value.specs.Texts.{address_text, clock_text, days_text, escape_octet}
use Rattle.smi_value.specs.Texts.{hexadecimal_text}
use Rattle.smi_value.specs.Texts.{is_printable}

-- a string: in quotes if each octet is printable, otherwise in hexadecimal
abbrev pub string_text : List ℕ → List ℕ
string_text [] = codes "\"\""
string_text (octet ∷ more) =
    if list_all is_printable (octet ∷ more)
    then codes "STRING: \"" ++ flat_map escape_octet (octet ∷ more) ++ codes "\""
    else codes "Hex-STRING: " ++ hexadecimal_text (octet ∷ more)

-- a value after the name of its type; for an empty string, NULL and the exceptions, no type is
-- named
abbrev pub value_text : Datum → List ℕ
value_text (integer_value n) = codes "INTEGER: " ++ signed_decimal n
value_text (octet_string octets) = string_text octets
value_text (object_id name) = codes "OID: " ++ numeric_text name
value_text (ip_address octets) = codes "IpAddress: " ++ address_text octets
value_text (counter32 n) = codes "Counter32: " ++ decimal n
value_text (gauge32 n) = codes "Gauge32: " ++ decimal n
value_text (time_ticks n) =
    codes "Timeticks: (" ++ decimal n ++ codes ") " ++ days_text (n / 8640000) ++ clock_text n
value_text (opaque_octets octets) = codes "OPAQUE: " ++ hexadecimal_text octets
value_text (counter64 n) = codes "Counter64: " ++ decimal n
value_text null_value = codes "NULL"
value_text no_such_object = codes "No Such Object available on this agent at this OID"
value_text no_such_instance = codes "No Such Instance currently exists at this OID"
value_text end_of_mib_view =
    codes "No more variables left in this MIB View (It is past the end of the MIB tree)"

abbrev pub row_line : VarBind → List ℕ
row_line row = numeric_text row.name ++ codes " = " ++ value_text row.value ++ codes "\n"
