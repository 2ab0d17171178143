use Rattle.std.proofs.{Common.◌≡◌, Common.is_some, Common.arith, Common.false, lemmas.Grind.common_steps}
use Rattle.smi_show.specs.private.index.IndexValues.{values_of}
use Rattle.smi_show.proofs.IndexValues.{as_stated}
use Rattle.smi_show.proofs.index.reads.Goals as goal

pub returns-in-None : goal.returns-in-None
returns-in-None c =
    let none : false ≡ is_some (values_of c.args.parts.now c.args.numbers.now) = grind (arith, common_steps) in
    as_stated false c.args.parts.now c.args.numbers.now none

pub returns : goal.returns
returns c =
    let all : c.is_empty.result ≡ is_some (values_of c.args.parts.now c.args.numbers.now) = grind (arith, common_steps) in
    as_stated c.is_empty.result c.args.parts.now c.args.numbers.now all
