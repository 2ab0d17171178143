-- The value of the bound fits into 64 bits.
use Rattle.std.proofs.{Common.pos, Common.◌≤ℤ◌, Common.sym, Common.arith, lemmas.Int.ints}
use Rattle.smi_tree.proofs.Bounds.{bound_fits}
use Rattle.smi_tree.proofs.columns.part.number.Goals as goal

pub overflow_cast-result : goal.overflow_cast-result
overflow_cast-result c =
    let most : c.in_ok-value.value ≤ℤ pos 18446744073709551615 =
    bound_fits c.args.bound.now.kind c.as_bytes.result.now c.in_ok-value.value (sym c.in_ok-value.ensures) in
    grind (arith, ints)
