use Rattle.std.proofs.{Common.◌≡◌, Common.◌++◌, Common.OnOk, Common.rules, lemmas.Result.on_ok_weaker}
use Rattle.smi_show.specs.private.name.Shown.{name_text}
use Rattle.smi_show.proofs.NamesStated.{name_stated}
use Rattle.smi_show.proofs.text.name_text.Goals as goal

pub returns-clause-ok : goal.returns-clause-ok
returns-clause-ok c =
    let tree = c.args.tree.now in
    let form = c.args.letters.now.names in
    let index = c.args.letters.now.numeric_index in
    let text = name_text tree form index c.args.oid.now in
    let appended : OnOk c.finish.result (c.finish.new.out.items ≡ c.args.out.now.items ++ text) = search rules in
    on_ok_weaker c.finish.result (λ w. (text, name_stated tree form index c.args.oid.now, w)) appended
