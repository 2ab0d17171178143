use Rattle.std.proofs.{Common.arith, lemmas.Grind.common_steps, lemmas.List.Sorted.IsPermutation-put_mid, lemmas.List.Sorted.IsPermutation-trans}
use Rattle.snmp_agent.proofs.table.pending.sort_ties.Goals as goal

pub ties-preserved-then-sort_tie : goal.ties-preserved-then-sort_tie
ties-preserved-then-sort_tie c = grind (arith, common_steps, IsPermutation-trans, IsPermutation-put_mid)

pub ties-preserved : goal.ties-preserved
ties-preserved c = grind (arith, common_steps, IsPermutation-trans, IsPermutation-put_mid)
