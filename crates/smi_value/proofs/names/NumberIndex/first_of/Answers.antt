-- The name is read at the position of the first name of the number.
use Rattle.std.proofs.Common.{◌≡◌, Some, sym, ap, arith, ◌∙◌}
use Rattle.std.proofs.{lemmas.Grind.common_steps, lemmas.Int.to_z-of_z}
use Rattle.std.specs.{Int.w128, List.slice_get, Option.option_and_then, Option.option_copied}
use Rattle.smi_value.specs.Syntax.{is_number_of}
use Rattle.smi_value.proofs.NamesByNumber.{copied_at, found_at}
use Rattle.smi_value.proofs.names.NumberIndex.first_of.Goals as goal

pub returns-in_err-get : goal.returns-in_err-get
returns-in_err-get c =
    let at = rw (to_z-of_z w128 c.args.n c.ranges.n) at c.get.ensures.value ∙ c.requires c.args.n in
    let found = found_at (is_number_of c.args.n) c.args.names.now in
    grind (arith, common_steps)

pub returns : goal.returns
returns c =
    let at = rw (to_z-of_z w128 c.args.n c.ranges.n) at c.get.ensures.value ∙ c.requires c.args.n in
    let copied : option_copied c.get.result ≡ Some c.in_ok-get.field-0.now = ap option_copied c.in_ok-get.was in
    let read = copied_at c.args.names.now c.in_ok-get.field-0.now c.get-2.result c.get-2.ensures.lookup in
    let found = found_at (is_number_of c.args.n) c.args.names.now in
    read ∙ sym (found ∙ ap (option_and_then (slice_get c.args.names.now)) (sym at ∙ copied))
