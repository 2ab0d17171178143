use Rattle.std.proofs.{Common.◌+◌, Common.◌-◌, Common.arith, Common.drop, Common.length, Common.rules, Common.take, lemmas.Grind.common_steps}
use Rattle.smi_show.proofs.IndexValues.{as_computed}
use Rattle.smi_show.proofs.index.shown.reads_some_text.Goals as goal

pub returns-then-may_be_text-clause-read : goal.returns-then-may_be_text-clause-read
returns-then-may_be_text-clause-read c =
    let reported = as_computed c.reads.result (take (length c.args.parts.now - (c.parts.at + 1)) (drop (c.parts.at + 1) c.args.parts.now))
    c.in-Some.rest.now c.reads.ensures in
    first_of (search rules, grind (arith, common_steps))

pub returns-then-may_be_text-clause-none : goal.returns-then-may_be_text-clause-none
returns-then-may_be_text-clause-none c =
    let reported = as_computed c.reads.result (take (length c.args.parts.now - (c.parts.at + 1)) (drop (c.parts.at + 1) c.args.parts.now))
    c.in-Some.rest.now c.reads.ensures in
    first_of (search rules, grind (arith, common_steps))
