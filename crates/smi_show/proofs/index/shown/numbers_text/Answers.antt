use Rattle.std.proofs.Common.{◌++◌, get_or, codes, decimal, take, sym, ap, ◌∙◌, append_assoc, arith}
use Rattle.std.proofs.lemmas.List.{take_more}
use Rattle.smi_show.specs.index.Pieces.{as_numbers, shown_pieces}
use Rattle.smi_show.proofs.LeadingNumbers.{shown_more}
use Rattle.smi_show.proofs.index.shown.numbers_text.Goals as goal

pub numbers-preserved : goal.numbers-preserved
numbers-preserved c =
    let so_far = c.numbers.invariant in
    let moved = c.with_room-filled.ensures.moved in
    let numbers = c.args.numbers.now in
    let i = c.numbers.at in
    let n = get_or numbers i 0 in
    let left = take c.with_room-filled.result c.numbers.room in
    record {
      done = so_far.done ++ moved.0;
      within = omega (arith, c.put_number-filled.ensures.within, c.with_room-filled.ensures.room);
      grows = moved.1.goes_on c.args.draft.now so_far.done so_far.grows;
      text = ap (λ t. (so_far.done ++ moved.0) ++ t) c.put_number-filled.ensures.text
          ∙ sym (append_assoc (so_far.done ++ moved.0) left (codes "." ++ decimal n))
          ∙ ap (λ t. t ++ (codes "." ++ decimal n))
          (append_assoc so_far.done moved.0 left ∙ ap (λ t. so_far.done ++ t) moved.2 ∙ so_far.text)
          ∙ shown_more (take i numbers) n ∙ ap (λ t. shown_pieces (as_numbers t)) (sym (take_more numbers i 0 (omega (arith, c.numbers.auto.at-end))));
    }
