use Rattle.std.proofs.Common.{inr}
use Rattle.snmp_walk.proofs.MemoryLinks.{counted}
use Rattle.snmp_walk.proofs.memory.MemoryLink.reply_to.Goals as goal

pub returns-in-Reply-clause-reply : goal.returns-in-Reply-clause-reply
returns-in-Reply-clause-reply c = rw c.in_ok-datagram.ensures.some
    (c.table_for-table.result.now, c.table_for-table.ensures.one, c.answer_near.ensures.reply c.in-Reply.length c.in-Reply.is)

pub returns-in-Dropped-clause-reply : goal.returns-in-Dropped-clause-reply
returns-in-Dropped-clause-reply c = rw c.in_ok-datagram.ensures.some (record {
  view = c.table_for-table.result.now;
  one = c.table_for-table.ensures.one;
  why = _;
  dropped = c.answer_near.ensures.dropped _ c.in-Dropped.is;
})

pub returns-in-Reply-clause-table : goal.returns-in-Reply-clause-table
returns-in-Reply-clause-table c = record {
  datagram = c.in_ok-datagram.datagram.now;
  found = c.in_ok-datagram.ensures.some;
  view = c.table_for-table.result.now;
  serves = c.table_for-table.ensures.index (counted _ _ _ c.in_ok-datagram.ensures.some);
  reply = c.answer_near.ensures.reply c.in-Reply.length c.in-Reply.is;
}

pub returns-in-Dropped-clause-none : goal.returns-in-Dropped-clause-none
returns-in-Dropped-clause-none c = inr (
  c.in_ok-datagram.datagram.now,
  c.table_for-table.result.now,
  _,
  c.in_ok-datagram.ensures.some,
  c.table_for-table.ensures.index (counted _ _ _ c.in_ok-datagram.ensures.some),
  c.answer_near.ensures.dropped _ c.in-Dropped.is,
)
