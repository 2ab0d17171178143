use Rattle.std.proofs.Common.{ℕ, List, [], ◌∷◌, ◌++◌, get_or, codes, sym, ◌∙◌, ap, subst}
use Rattle.std.proofs.lemmas.List.{take_more}
use Rattle.snmp_io.specs.Draft.{Grows}
use Rattle.smi_show.specs.name.Name.{arc_text, path_text}
use Rattle.smi_show.proofs.Beginnings.{text_more}
use Rattle.smi_tree.specs.Naming.{nearest_node}
use Rattle.smi_show.proofs.name.path.Goals as goal

pub numbers-preserved : goal.numbers-preserved
numbers-preserved c =
    let tree = c.args.tree.now in
    let so_far = c.numbers.invariant in
    let n = get_or c.args.numbers.now c.numbers.number-index 0 in
    let next = c.push_with_room.new.self in
    record {
      here = c.push_with_room.ensures ∙ ap (λ (t : List ℕ). t ++ n ∷ []) so_far.here
          ∙ sym (take_more c.args.numbers.now c.numbers.number-index 0 c.numbers-test.true);
      grows = subst (λ (t : List ℕ). Grows c.args.draft.now t c.arc.new.draft)
          (text_more (λ o m. codes "." ++ arc_text (nearest_node tree o) o m) c.numbers.here next n c.push_with_room.ensures)
          (c.arc.ensures.goes_on c.args.draft.now (path_text tree c.numbers.here) so_far.grows);
    }
