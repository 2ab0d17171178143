use Rattle.std.proofs.{lemmas.Grind.common_steps, Common.◌-◌, Common.◌%◌, Common.◌∷◌, Common.sym, Common.ap, Common.◌∙◌, Common.arith}
use Rattle.snmp_wire.specs.ber.Canon.{digits, octets}
use Rattle.snmp_wire.proofs.Digits.{digits-suc}
use Rattle.snmp_wire.proofs.WrittenOctets.{all_digits, rest_digits, rest_none, writes_digit, writes_no_digit}
use Rattle.snmp_wire.proofs.ber.number.put_many_octets.Goals as goal

pub octets-init : goal.octets-init
unfolding digits
octets-init c = grind (arith, common_steps, writes_no_digit, rest_none)

pub octets-preserved : goal.octets-preserved
octets-preserved c =
    let n = c.args.number in
    let count = c.args.end - c.octets.at in record {
      above = omega arith;
      written = writes_digit (λ k. octets k n) (c.octets.rest % 256)
          (ap (λ rest. (rest % 256) ∷ octets count n) c.octets.invariant.rest ∙ sym (digits-suc 256 count n)) c.octets.invariant.written
          (omega arith) c.octets.auto.at (omega arith);
      rest = rest_digits 256 c.octets.at c.args.end n c.octets.rest c.octets.invariant.rest (omega arith) c.octets.auto.at;
    }

pub returns : goal.returns
returns c = all_digits (λ k. octets k c.args.number) c.args.count c.octets.invariant.written (omega arith) c.requires.room
