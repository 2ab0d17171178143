use Rattle.std.proofs.{Common.◌≡◌, Common.◌++◌, Common.OnOk, Common.refl, Common.rules, lemmas.Result.on_ok_weaker}
use Rattle.smi_show.specs.{details.Detail.detail_text, private.name.Shown.name_text}
use Rattle.smi_show.proofs.NamesStated.{name_stated}
use Rattle.smi_show.proofs.text.detail.Goals as goal

pub returns-clause-ok : goal.returns-clause-ok
returns-clause-ok c =
    let tree = c.args.tree.now in
    let form = c.args.letters.now.names in
    let index = c.args.letters.now.numeric_index in
    let o = c.args.oid.now in
    let text = detail_text tree form index o in
    let appended : OnOk c.finish.result (c.finish.new.out.items ≡ c.args.out.now.items ++ text) = search rules in
    on_ok_weaker c.finish.result (λ w. (
      text,
      record { name = name_text tree form index o; is_name = name_stated tree form index o; whole = refl },
      w,
    )) appended
