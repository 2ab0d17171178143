use Rattle.std.proofs.Common.{ℕ, List, Result, Ok, Err, IfErr, OnOk, sym, subst}
use Rattle.smi_show.specs.{declared.name.error.NameError.NameError, name.Meant.TextMeans, private.name.NameResult.read_to}
use Rattle.smi_show.proofs.MeantTexts.{means}
use Rattle.smi_tree.specs.Tree.{Contents}
use Rattle.smi_show.proofs.name.meaning.resolve_into.Goals as goal

reported : (tree : Contents) (text o : List ℕ) (result : Result (Unit {0}) NameError) → TextMeans tree text (read_to result o)
    → OnOk result (TextMeans tree text (Ok o)) × IfErr result (λ why. TextMeans tree text (Err why))
reported tree text o (Ok done) h = (h, tt)
reported tree text o (Err why) h = (tt, h)

pub returns : goal.returns
returns c =
    let tree = c.args.tree.now in
    let text = c.args.text.now in
    let means_so = subst (TextMeans tree text) (sym c.read_meaning.ensures) (means tree text) in
    let is = reported tree text c.read_meaning.new.oid c.read_meaning.result means_so in
    record { found = is.0; fault = is.1 }
