use Rattle.std.proofs.Common.{refl, sym, ◌∙◌}
use Rattle.std.specs.Char.{is_ascii_uppercase}
use Rattle.smi_text.specs.trees.Reserved.{is_reserved, reserved_words}
use Rattle.smi_text.proofs.Words.{other_second}
use Rattle.smi_text.proofs.trees.reserved.is_reserved.Goals as goal

pub returns-then-not-has_upper_second : goal.returns-then-not-has_upper_second
unfolding is_reserved
returns-then-not-has_upper_second c =
    sym (other_second is_ascii_uppercase reserved_words c.args.text.now refl (sym c.has_upper_second.ensures ∙ c.if-not-has_upper_second.true))
