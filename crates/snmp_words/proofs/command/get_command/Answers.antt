use Rattle.std.proofs.lemmas.Result.{IfOk-weaker}
use Rattle.snmp_words.proofs.Commands.{arg_added}
use Rattle.snmp_words.proofs.command.get_command.Goals as goal

pub returns : goal.returns
returns c =
    let agent = arg_added _ _ _ _ _ c.in_ok-arg.ensures c.in_ok-asking_command.ensures c.agent_word.ensures in
    IfOk-weaker _ _ _ (λ r h. arg_added _ _ _ _ _ h agent c.names_word.ensures) c.arg-2.ensures
