use Rattle.std.proofs.{lemmas.Grind.common_steps, Common.rules, Common.arith}
use Rattle.smi_value.proofs.HintPieces.{groups_begin, groups_end, groups_alone, group_then_next, group_then_again, group_no_longer, group_shorter}
use Rattle.smi_value.proofs.HintPieces.{last_takes}
use Rattle.smi_value.proofs.Drafts.{none_left}
use Rattle.smi_value.proofs.hint.octets.append_octets.Goals as goal

pub groups-init : goal.groups-init
groups-init c = groups_begin c.args.hint.now c.args.octets.now c.args.draft.now _ _ c.requires.0 c.requires.1 c.requires.2

pub returns-then-is_single : goal.returns-then-is_single
returns-then-is_single c =
    let adds = rw c.last_mark.ensures at c.append_singles.ensures in
    groups_alone c.args.hint.now c.args.octets.now c.args.draft.now c.groups.spec c.groups.ahead.now c.groups.left.now c.groups.draft _ (search rules)
    (search rules) adds c.groups.invariant

pub groups-smaller-then-not-is_empty : goal.groups-smaller-then-not-is_empty
groups-smaller-then-not-is_empty c = grind (arith, common_steps, group_no_longer)

pub groups-preserved-then-not-is_empty : goal.groups-preserved-then-not-is_empty
groups-preserved-then-not-is_empty c = grind (arith, common_steps, group_then_next)

pub groups-smaller : goal.groups-smaller
groups-smaller c = grind (arith, common_steps, last_takes, group_shorter)

pub groups-preserved : goal.groups-preserved
groups-preserved c = grind (arith, common_steps, group_then_again)

pub returns : goal.returns
returns c =
    groups_end c.args.hint.now c.args.octets.now c.args.draft.now c.groups.spec c.groups.ahead.now c.groups.left.now c.groups.draft
    (none_left _ _ c.is_empty.ensures c.groups-test.false) c.groups.invariant
