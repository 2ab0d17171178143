use Rattle.std.proofs.{lemmas.Grind.common_steps, Common.arith}
use Rattle.smi_value.proofs.LettersRead.{letters_at, no_other_more, other_at}
use Rattle.smi_value.proofs.letters.Letters.parse.Goals as goal

pub returns-in-None-clause-ok_where_all_are_letters : goal.returns-in-None-clause-ok_where_all_are_letters
returns-in-None-clause-ok_where_all_are_letters c = grind (arith, common_steps, other_at)

pub returns-in-None-clause-first_other : goal.returns-in-None-clause-first_other
returns-in-None-clause-first_other c = other_at c.args.text.now c.letters.octet-index (omega arith) c.letters.invariant.none_other c.in-None.ensures.none

pub letters-preserved : goal.letters-preserved
letters-preserved c = record {
  are_letters = letters_at c.args.text.now c.letters.octet-index c.letters.letters c.in-Some.next
      (omega arith) c.letters.invariant.are_letters c.in-Some.ensures.with;
  none_other = no_other_more c.args.text.now c.letters.octet-index (omega arith) c.letters.invariant.none_other c.in-Some.ensures.letter;
}
