use Rattle.std.proofs.Common.{List, length, refl, subst, sym, ℕ, ◌≤◌}
use Rattle.snmp_wire.specs.ber.Value.{octet_string}
use Rattle.snmp_wire.proofs.ElementLaws.{content_text, value_content_fits, value_header_fits, writes_value}
use Rattle.snmp_wire.proofs.WritingLaws.{writes_same}
use Rattle.snmp_wire.proofs.message.put_text_element.Goals as goal

pub put_text-start-requires-clause-room : goal.put_text-start-requires-clause-room
put_text-start-requires-clause-room c = subst (λ (text : List ℕ). length text ≤ c.args.end) (content_text c.args.text.now)
    (value_content_fits c.args.end (octet_string c.args.text.now) c.requires.room)

pub put_header-requires-clause-room : goal.put_header-requires-clause-room
put_header-requires-clause-room c = value_header_fits 4 (octet_string c.args.text.now) refl
    (writes_same c.put_text-start.ensures (sym (content_text c.args.text.now))) c.requires.room

pub returns : goal.returns
returns c = writes_value 4 (octet_string c.args.text.now) refl (writes_same c.put_text-start.ensures (sym (content_text c.args.text.now))) c.put_header.ensures
