use Rattle.std.proofs.{Common.◌≡◌, Common.ℕ, Common.List, Common.◌++◌, Common.OnOk, Common.rules, lemmas.Result.on_ok_weaker}
use Rattle.smi_value.specs.Value.{ShowsValue}
use Rattle.snmp_wire.specs.ber.Value.{datum}
use Rattle.smi_show.specs.Line.{names_by}
use Rattle.smi_show.proofs.NamesStated.{name_stated}
use Rattle.smi_tree.specs.Naming.{nearest_syntax}
use Rattle.smi_show.proofs.binding.value_text.Goals as goal

pub returns-clause-ok : goal.returns-clause-ok
returns-clause-ok c =
    let tree = c.args.tree.now in
    let letters = c.args.letters.now in
    let syntax = nearest_syntax c.args.tree.now c.args.name.now in
    let appended : OnOk c.finish.result ((text : List ℕ) × ShowsValue (names_by tree letters) letters syntax (datum c.args.value.now) text
    × (c.finish.new.out.items ≡ c.args.out.now.items ++ text)) = search rules in
    on_ok_weaker c.finish.result (λ w. (
      w.0,
      record { names = names_by tree letters; are_names = name_stated tree letters.names letters.numeric_index; shows = w.1 },
      w.2,
    )) appended
