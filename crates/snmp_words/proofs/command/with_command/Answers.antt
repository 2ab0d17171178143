use Rattle.std.proofs.lemmas.Result.{IfOk-weaker}
use Rattle.snmp_words.proofs.Commands.{made, subcommand_added}
use Rattle.snmp_words.proofs.command.with_command.Goals as goal

pub returns : goal.returns
returns c app sub is sub_is plain =
    IfOk-weaker c.subcommand.result _ _
    (λ r h. subcommand_added _ _ r app sub h (made _ _ app c.in_ok-command.was is) (made _ _ sub c.in_ok-subcommand.was sub_is) plain) c.subcommand.ensures
