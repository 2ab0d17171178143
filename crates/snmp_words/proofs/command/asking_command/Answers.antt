use Rattle.std.proofs.lemmas.Result.{IfOk-weaker}
use Rattle.snmp_words.proofs.Commands.{arg_added}
use Rattle.snmp_words.proofs.command.asking_command.Goals as goal

pub returns : goal.returns
returns c =
    let mib = arg_added _ _ _ _ _ c.in_ok-arg.ensures c.new_command.ensures c.mib_option.ensures in
    let letters = arg_added _ _ _ _ _ c.in_ok-arg-2.ensures mib c.letters_option.ensures in
    let protocol = arg_added _ _ _ _ _ c.in_ok-arg-3.ensures letters c.protocol_option.ensures in
    let community = arg_added _ _ _ _ _ c.in_ok-arg-4.ensures protocol c.community_option.ensures in
    let retries = arg_added _ _ _ _ _ c.in_ok-arg-5.ensures community c.retries_option.ensures in
    let seconds = arg_added _ _ _ _ _ c.in_ok-arg-6.ensures retries c.seconds_option.ensures in
    IfOk-weaker _ _ _ (λ r h. arg_added _ _ _ _ _ h seconds c.size_option.ensures) c.arg-7.ensures
