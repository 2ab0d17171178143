use Rattle.std.proofs.Common.{[], get_or, ◌++◌, refl, sym, ◌∙◌, ap, append_assoc, List, ℕ}
use Rattle.std.proofs.lemmas.List.{append-nil}
use Rattle.smi_tree.specs.declared.columns.index_part.IndexPart.TheVariants.{Number}
use Rattle.smi_show.specs.{index.Pieces.shown_pieces, index.Pieces.value_pieces}
use Rattle.smi_show.proofs.Pieces.{next_value}
use Rattle.smi_show.proofs.index.shown.values_text.Goals as goal

pub parts-init : goal.parts-init
parts-init c = λ values h. record {
  done = [];
  ahead = values;
  grows = record { before = refl; added = λ whole e. (whole, e, sym (append-nil whole)) };
  left = h;
  whole = refl;
}

pub parts-preserved : goal.parts-preserved
parts-preserved c = λ values h. (
    let so_far = c.parts.invariant values h in
    let next = next_value c.args.parts.now c.parts.part-index c.parts.left.now c.in-Some.value.now c.in-Some.rest.now so_far.ahead
    c.parts-test.true (sym c.in-Some.ensures.reads) so_far.left in
    record {
      done = so_far.done ++ shown_pieces (value_pieces (get_or c.args.parts.now c.parts.part-index Number) c.in-Some.value.now);
      ahead = next.more;
      grows = c.value_text.ensures.goes_on c.args.draft.now so_far.done so_far.grows;
      left = next.left;
      whole = append_assoc so_far.done (shown_pieces (value_pieces (get_or c.args.parts.now c.parts.part-index Number) c.in-Some.value.now)) _
          ∙ ap (λ (t : List ℕ). so_far.done ++ t) (sym next.text) ∙ so_far.whole;
    }
    )
