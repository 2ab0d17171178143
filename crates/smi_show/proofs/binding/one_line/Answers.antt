use Rattle.std.proofs.Common.{◌++◌, codes, sym, ◌∙◌}
use Rattle.smi_show.specs.Line.{text_before_value}
use Rattle.smi_show.proofs.NamesStated.{same_name}
use Rattle.smi_show.proofs.binding.one_line.Goals as goal

pub returns : goal.returns
returns c = λ tree letters name value text other h k. (
    let prefix = same_name tree letters.names letters.numeric_index name h.shown_name k.shown_name h.is_name k.is_name in
    let value = c.one_value.ensures tree letters name value h.shown k.shown h.is_value k.is_value in
    h.whole ∙ (λ i. text_before_value letters (prefix i) ++ value i ++ codes "\n") ∙ sym k.whole
    )
