use Rattle.std.proofs.lemmas.Result.{IfOk-weaker}
use Rattle.snmp_words.proofs.Commands.{arg_added}
use Rattle.snmp_words.proofs.command.translate_command.Goals as goal

pub returns : goal.returns
returns c =
    let mib = arg_added _ _ _ _ _ c.in_ok-arg.ensures c.new_command.ensures c.mib_option.ensures in
    let letters = arg_added _ _ _ _ _ c.in_ok-arg-2.ensures mib c.letters_option.ensures in
    let details = arg_added _ _ _ _ _ c.in_ok-arg-3.ensures letters c.details_option.ensures in
    IfOk-weaker _ _ _ (λ r h. arg_added _ _ _ _ _ h details c.names_word.ensures) c.arg-4.ensures
