use Rattle.std.proofs.Common.{◌≡◌, ◌++◌, IfSome, arith, option_map, subst, take}
use Rattle.snmp_io.proofs.ReadTexts.{all_is_left}
use Rattle.snmp_io.proofs.machine.read_whole.Goals as goal

pub returns-in-Ok-clause-whole : goal.returns-in-Ok-clause-whole
returns-in-Ok-clause-whole g c =
    all_is_left (g.R.Read.remaining c.args.from) c.take.result.limit c.new-text.result.items c.read_to_end.new.buf.items c.new-text.ensures.items (omega arith)
    (subst (λ r. IfSome (option_map (take c.take.result.limit) (g.R.Read.remaining r))
    (λ xs. c.read_to_end.new.buf.items ≡ c.new-text.result.items ++ xs)) c.take.ensures.inner c.in-Ok.ensures.bytes)
