use Rattle.std.proofs.Common.{◌≡◌, ℕ, List, ◌++◌, take, length, arith}
use Rattle.std.proofs.{lemmas.Bool.lt-ltb, lemmas.Grind.common_steps}
use Rattle.snmp_wire.proofs.WrittenBindings.{encoded}
use Rattle.snmp_wire.proofs.encoded.encode_pair.Goals as goal

prefix : (text rest all : List ℕ) (n : ℕ) → all ≡ text ++ rest → n ≡ length text → take n all ≡ text
prefix text rest all n e size = grind (arith, common_steps)

pub returns : goal.returns
returns c = grind (arith, common_steps, lt-ltb, prefix, encoded)
