use Rattle.std.proofs.Common.{◌≡◌, ◌≤◌, ◌↔◌, ℕ, List, ◌++◌, length, take, drop, arith, Option, Some, None}
use Rattle.std.specs.Prelude.{IfSome, IsSome}
use Rattle.std.proofs.lemmas.Grind.{common_steps}
use Rattle.snmp_wire.specs.{Canon.canon, Message.Message}
use Rattle.snmp_agent.specs.Reply.{Fits}
use Rattle.snmp_walk.specs.Loose.{failed}
use Rattle.snmp_walk.proofs.loose.fail.Goals as goal

-- if a message was written to the start of the output, then it fits, and the output begins with its encoding
wrote : (r : Option ℕ) (new post old : List ℕ) (max : ℕ) (m other : Message) → m ≡ other
    → IfSome r (λ n. (n ≡ length (canon m)) × (new ≡ canon m ++ drop n old)) → (IsSome r ↔ (length (canon m) ≤ length old)) → length old ≤ max
    → IfSome r (λ n. Fits max other × (take n (new ++ post) ≡ canon other))
wrote None new post old max m other same some variant size = tt
wrote (Some n) new post old max m other same some variant size = grind (arith, common_steps)

pub returns-clause-some : goal.returns-clause-some
returns-clause-some c =
    wrote c.encode.result c.encode.new.out _ _ c.args.config.now.max_size _ (failed c.args.request.now) (grind (arith, common_steps)) c.encode.ensures.some
    c.encode.ensures.variant (grind (arith, common_steps))
