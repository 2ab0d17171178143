use Rattle.std.proofs.{lemmas.Grind.common_steps, lemmas.Int.to_z_pos, lemmas.Int.to_z-of_z}
use Rattle.std.proofs.Common.{◌≡◌, arith, w32, to_z, of_z}
use Rattle.std.proofs.Math.Seq.{take-append_seam}
use Rattle.snmp_wire.specs.{Message.Message, Message.var_binds}
use Rattle.snmp_walk.specs.Loose.{with_repetitions}
use Rattle.snmp_walk.proofs.loose.put_request.Goals.{In-Some}
use Rattle.snmp_walk.proofs.loose.put_request.Goals as goal

-- the message that is written
abbrev written : In-Some → Message
written c = record {
  version = to_z w32 (of_z w32 c.version.result);
  community = c.community.result.now;
  kind = c.kind.result;
  id = to_z w32 (of_z w32 c.id.result);
  a = to_z w32 (of_z w32 c.a.result);
  b = to_z w32 (of_z w32 c.from.result);
  bindings = var_binds c.from_ref.result.now;
}

is_request : (c : In-Some) → written c ≡ with_repetitions c.args.repetitions c.args.request.now
is_request c = grind (arith, common_steps, to_z, to_z_pos, of_z, to_z-of_z)

pub returns-clause-octets : goal.returns-clause-octets
returns-clause-octets c = grind (arith, common_steps, is_request, take-append_seam)
