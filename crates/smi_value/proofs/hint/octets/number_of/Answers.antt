use Rattle.std.proofs.Common.{ℕ, ◌+◌, ◌*◌, ◌<◌, ◌^◌, length, get_or, subst, sym, arith}
use Rattle.smi_value.proofs.HintNumber.{below_56_bits, below_more, number_more}
use Rattle.smi_value.proofs.hint.octets.number_of.Goals as goal

pub overflow_mul-number : goal.overflow_mul-number
overflow_mul-number c =
    let low = below_56_bits c.octets.number c.octets.octet-index c.octets.invariant.below (omega arith) in
    omega (arith, low)

pub octets-preserved : goal.octets-preserved
octets-preserved c =
    let low : c.octets.octet-index < length c.args.octets.now = omega arith in
    let more = number_more c.args.octets.now c.octets.octet-index low in
    let below = below_more c.octets.number (get_or c.args.octets.now c.octets.octet-index 0) c.octets.octet-index c.octets.invariant.below (omega arith) in
    record {
      value = omega (arith, more, c.octets.invariant.value, c.from.ensures);
      below = (let P : ℕ → Type 0 = λ o. c.octets.number * 256 + o < 2 ^ (8 * (c.octets.octet-index + 1)) in subst P (sym c.from.ensures) below);
    }
