use Rattle.std.proofs.{Common.ap, Common.◌∙◌, lemmas.Map.Text.is_eq-slice_cmp}
use Rattle.std.specs.Ordering.{is_eq}
use Rattle.snmp_walk.proofs.walk_core.are_same.Goals as goal

pub returns : goal.returns
returns c = c.is_eq.ensures ∙ ap is_eq c.compare.ensures ∙ is_eq-slice_cmp c.args.name.now c.args.other.now
