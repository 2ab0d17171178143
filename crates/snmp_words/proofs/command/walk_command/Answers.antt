use Rattle.std.proofs.lemmas.Result.{IfOk-weaker}
use Rattle.snmp_words.proofs.Commands.{arg_added}
use Rattle.snmp_words.proofs.command.walk_command.Goals as goal

pub returns : goal.returns
returns c =
    let walk_letters = arg_added _ _ _ _ _ c.in_ok-arg.ensures c.in_ok-asking_command.ensures c.walk_letters_option.ensures in
    let after = arg_added _ _ _ _ _ c.in_ok-arg-2.ensures walk_letters c.after_option.ensures in
    let agent = arg_added _ _ _ _ _ c.in_ok-arg-3.ensures after c.agent_word.ensures in
    IfOk-weaker _ _ _ (λ r h. arg_added _ _ _ _ _ h agent c.name_word.ensures) c.arg-4.ensures
