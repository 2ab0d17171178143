use Rattle.std.proofs.{Common.arith, lemmas.Grind.common_steps}
use Rattle.snmp_wire.specs.{Encoded.octets_of, Message.datum}
use Rattle.snmp_wire.proofs.Kept.{encodable, is_kept, read_again}
use Rattle.snmp_wire.proofs.encoded.EncodedBinding.new.Goals as goal

pub encode_pair-requires : goal.encode_pair-requires
encode_pair-requires c = encodable (record { name = c.args.name.now; value = datum c.args.value.now }) c.requires.name c.requires.value

pub invariant_of-result : goal.invariant_of-result
invariant_of-result c =
    is_kept _ (record { name = c.requires.name; value = c.requires.value }) (octets_of c.in_ok-octets.octets) c.in_ok-octets.ensures

pub returns : goal.returns
returns c = grind (arith, common_steps, read_again)
