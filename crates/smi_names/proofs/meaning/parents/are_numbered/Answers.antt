-- All parts have numbers if and only if the test of each part passes.
use Rattle.std.proofs.{Common.rules, Common.tests, Common.is_some, Common.◌∙◌, lemmas.Iterator.YieldsList-from_slice}
use Rattle.std.proofs.lemmas.Iterator.Search.{all_from_yields_List}
use Rattle.smi_text.specs.trees.Lookup.{part_number}
use Rattle.smi_names.proofs.FirstPosition.{numbered}
use Rattle.smi_names.proofs.meaning.parents.are_numbered.Goals as goal

pub returns : goal.returns
returns c =
    let ps = c.args.parts.now in
    all_from_yields_List (λ p. is_some (part_number p)) _ _ c.all.result c.all.ensures.ran (YieldsList-from_slice ps cc) (λ x b q k. search (rules, tests))
    ∙ numbered ps
