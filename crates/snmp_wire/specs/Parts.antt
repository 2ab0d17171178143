-- The message that a program passes to be encoded.
use Rattle.std.specs.Prelude.{List}
use Rattle.snmp_wire.specs.declared.message.Parts.{Parts}
use Rattle.snmp_wire.specs.Message.{Message, VarBind, var_binds}

-- the message of `parts`, regardless of where its strings and bindings are in memory
abbrev pub parts_message : Parts → Message
parts_message parts = record {
  version = parts.version;
  community = parts.community.now;
  kind = parts.kind;
  id = parts.id;
  a = parts.a;
  b = parts.b;
  bindings = var_binds parts.bindings.now;
}

-- the message of `parts` with `bindings` instead of its own bindings
abbrev pub with_bindings : Parts → List VarBind → Message
with_bindings parts bindings = record (parts_message parts) { bindings = bindings }
