use Rattle.std.proofs.Common.{refl}
use Rattle.snmp_words.proofs.command.snmp_command.Goals as goal

pub returns : goal.returns
returns c =
    let translate = c.with_command-with_translate.ensures _ _ c.top_command.ensures c.translate_command.ensures refl in
    let get = c.with_command-with_get.ensures _ _ translate c.get_command.ensures refl in
    let walk = c.with_command-with_walk.ensures _ _ get c.walk_command-walk.ensures refl in
    let bulk_walk = c.with_command-with_bulk_walk.ensures _ _ walk c.walk_command-bulk_walk.ensures refl in
    c.with_command.ensures _ _ bulk_walk c.serve_command.ensures refl
