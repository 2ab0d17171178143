use Rattle.std.proofs.lemmas.Result.{IfOk-weaker}
use Rattle.snmp_words.proofs.Commands.{arg_added}
use Rattle.snmp_words.proofs.command.serve_command.Goals as goal

pub returns : goal.returns
returns c =
    let mib = arg_added _ _ _ _ _ c.in_ok-arg.ensures c.new_command.ensures c.mib_option.ensures in
    let table = arg_added _ _ _ _ _ c.in_ok-arg-2.ensures mib c.table_option.ensures in
    let community = arg_added _ _ _ _ _ c.in_ok-arg-3.ensures table c.community_option.ensures in
    let listen = arg_added _ _ _ _ _ c.in_ok-arg-4.ensures community c.listen_option.ensures in
    let size = arg_added _ _ _ _ _ c.in_ok-arg-5.ensures listen c.size_option.ensures in
    IfOk-weaker _ _ _ (λ r h. arg_added _ _ _ _ _ h size c.turns_option.ensures) c.arg-6.ensures
