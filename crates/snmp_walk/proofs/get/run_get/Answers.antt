use Rattle.std.proofs.Common.{◌+◌, arith}
use Rattle.snmp_walk.proofs.{GetEnds.no_names, GetEnds.some_names, Gets.got_none, Gets.got_too_long}
use Rattle.snmp_walk.proofs.get.run_get.Goals as goal

pub returns-then-is_empty : goal.returns-then-is_empty
returns-then-is_empty g c =
    record {
      ran = got_none g.L.Link c.args.link.now (c.args.retries + 1) c.args.community.now c.args.id c.args.names.now g.S.Sink.takes c.args.sink.now
          (no_names c.args.names.now c.is_empty.result c.is_empty.ensures c.if-is_empty.true);
    }

pub returns-in_default : goal.returns-in_default
returns-in_default g c =
    record {
      ran = got_too_long g.L.Link c.args.link.now (c.args.retries + 1) c.args.community.now c.args.id c.args.names.now g.S.Sink.takes c.args.sink.now
          c.codec.ensures
          (g.met.L.Link.lawful c.args.link.now) (omega arith) (some_names c.args.names.now c.is_empty.result c.is_empty.ensures c.if-is_empty.false)
          c.in_default.ensures.none;
    }
