use Rattle.std.proofs.{lemmas.Grind.common_steps, Common.◌+◌, Common.◌-◌, Common.◌%◌, Common.◌∷◌, Common.sym, Common.ap, Common.◌∙◌, Common.arith}
use Rattle.snmp_wire.specs.ber.Canon.{digits, septets}
use Rattle.snmp_wire.proofs.WrittenIdentifiers.{septets-suc}
use Rattle.snmp_wire.proofs.WrittenOctets.{all_digits, rest_digits, rest_none, writes_digit, writes_no_digit}
use Rattle.snmp_wire.proofs.ber.identifier.put_septets.Goals as goal

pub septets-init : goal.septets-init
unfolding digits septets
septets-init c = grind (arith, common_steps, writes_no_digit, rest_none)

pub septets-preserved : goal.septets-preserved
septets-preserved c =
    let n = c.args.number in
    let count = c.args.end - c.septets.at in record {
      above = omega arith;
      written = writes_digit (λ k. septets k n) (128 + c.septets.rest % 128)
          (ap (λ rest. (128 + rest % 128) ∷ septets count n) c.septets.invariant.rest ∙ sym (septets-suc count n)) c.septets.invariant.written
          (omega arith) c.septets.auto.at (omega arith);
      rest = rest_digits 128 c.septets.at c.args.end n c.septets.rest c.septets.invariant.rest (omega arith) c.septets.auto.at;
    }

pub returns : goal.returns
returns c = all_digits (λ k. septets k c.args.number) c.args.count c.septets.invariant.written (omega arith) c.requires.room
