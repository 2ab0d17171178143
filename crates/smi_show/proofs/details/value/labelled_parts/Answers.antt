use Rattle.std.proofs.Common.{ℕ, List, [], ◌∷◌, ◌++◌, get_or, codes, sym, ◌∙◌, ap, subst}
use Rattle.std.proofs.lemmas.List.{take_more}
use Rattle.snmp_io.specs.Draft.{Grows}
use Rattle.smi_show.specs.details.Value.{labelled_number, labelled_parts}
use Rattle.smi_show.proofs.Beginnings.{text_more}
use Rattle.smi_tree.specs.Naming.{nearest_node}
use Rattle.smi_show.proofs.details.value.labelled_parts.Goals as goal

pub each-preserved : goal.each-preserved
each-preserved c =
    let tree = c.args.tree.now in
    let so_far = c.each.invariant in
    let n = get_or c.args.numbers.now c.each.number-index 0 in
    let next = c.push_with_room.new.self in
    record {
      here = c.push_with_room.ensures ∙ ap (λ (t : List ℕ). t ++ n ∷ []) so_far.here
          ∙ sym (take_more c.args.numbers.now c.each.number-index 0 c.each-test.true);
      grows = subst (λ (t : List ℕ). Grows c.args.draft.now t c.labelled_part.new.draft)
          (text_more (λ o m. labelled_number (nearest_node tree o) o m ++ codes " ") c.each.here next n c.push_with_room.ensures)
          (c.labelled_part.ensures.goes_on c.args.draft.now (labelled_parts tree c.each.here) so_far.grows);
    }
