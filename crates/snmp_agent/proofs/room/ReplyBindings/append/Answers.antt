use Rattle.std.proofs.{Common.arith, lemmas.Grind.common_steps, lemmas.Slice.take-put_mid_below}
use Rattle.snmp_wire.specs.Message.{var_bind}
use Rattle.snmp_agent.specs.private.Answering.{held}
use Rattle.snmp_agent.proofs.{Encodings.long_binding, ReplyBindings.held_more, ReplyBindings.held_full}
use Rattle.snmp_agent.proofs.room.ReplyBindings.append.Goals as goal

pub returns-then-not-is_short : goal.returns-then-not-is_short
returns-then-not-is_short c = grind (arith, common_steps, long_binding, held_full)

pub returns-in-Some : goal.returns-in-Some
returns-in-Some c = held_more (held c.args.self c.args.out.now) (var_bind c.args.binding.now) _ _ (grind (arith, common_steps, c.in-Some.ensures.some))
    (grind (arith, common_steps, c.in-Some.ensures.some, c.in-Some.ensures.variant))

pub returns : goal.returns
returns c = grind (arith, common_steps, held_full, common_steps, take-put_mid_below)
