use Rattle.std.proofs.Common.{rules, arith, ◌≡◌, ◌≤◌, ◌++◌, List, ℕ, length, take, refl, sym, subst}
use Rattle.std.proofs.lemmas.List.{take-append-le}
use Rattle.snmp_agent.specs.Reply.{IsReply}
use Rattle.uses.specs.Direct.{agent_at}
use Rattle.uses.proofs.direct.DirectLink.receive.Goals as goal

first_of : (n : ℕ) (xs ys : List ℕ) → n ≤ 65507 → length xs ≡ 65507 → take n xs ≡ take n (xs ++ ys)
first_of n xs ys short long =
    let h : n ≤ length xs = omega arith in
    let e : take n (xs ++ ys) ≡ take n xs = rw take-append-le in sym e

pub returns-in-Some-reply_into-clause-delivers : goal.returns-in-Some-reply_into-clause-delivers
returns-in-Some-reply_into-clause-delivers c = record {
  agent = refl;
  now = refl;
  datagram = c.args.self.now.last.items;
  waits = search rules;
  reply = subst (λ (octets : List ℕ). IsReply (agent_at c.args.self.now) c.args.self.now.last.items octets)
      (first_of c.in-Some-reply_into.length c.reply_into.new.out _ c.in-Some-reply_into.ensures.length c.reply_into.ensures.room)
      c.in-Some-reply_into.ensures.reply;
}
