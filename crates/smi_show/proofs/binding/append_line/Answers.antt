use Rattle.std.proofs.Common.{◌++◌, codes, refl}
use Rattle.smi_show.specs.Line.{text_before_value, names_by}
use Rattle.smi_show.proofs.{NamesStated.name_stated, Texts.adds_both}
use Rattle.smi_show.proofs.binding.append_line.Goals as goal

pub returns : goal.returns
returns c =
    let letters = c.args.letters.now in
    let tree = c.args.tree.now in
    let shown_name = names_by tree letters c.args.name.now in
    let prefix = text_before_value letters shown_name in
    let value = c.append_parts.ensures in (
      prefix ++ value.0 ++ codes "\n",
      record {
        shown_name = shown_name;
        is_name = name_stated tree letters.names letters.numeric_index c.args.name.now;
        shown = value.0;
        is_value = record {
          names = names_by tree letters;
          are_names = name_stated tree letters.names letters.numeric_index;
          shows = value.1;
        };
        whole = refl;
      },
      adds_both c.args.draft.now c.append_parts.new.draft c.octets.new.self (prefix ++ value.0) (codes "\n") value.2 c.octets.ensures,
    )
