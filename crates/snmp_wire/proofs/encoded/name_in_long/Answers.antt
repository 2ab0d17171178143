use Rattle.snmp_wire.proofs.{ReadingLaws.failing, ReadingLaws.returned, Kept.name_gives}
use Rattle.snmp_wire.proofs.encoded.name_in_long.Goals as goal

pub unreachable-requires : goal.unreachable-requires
unreachable-requires c = failing _ (name_gives _ c.requires.range _ c.requires.encoding) c.in_default.ensures

pub unreachable-requires-in_default-inner_at : goal.unreachable-requires-in_default-inner_at
unreachable-requires-in_default-inner_at c =
    failing _ (returned _ (name_gives _ c.requires.range _ c.requires.encoding) c.in-Ok.ensures) c.in_default-inner_at.ensures

pub returns : goal.returns
returns c = returned _ (returned _ (name_gives _ c.requires.range _ c.requires.encoding) c.in-Ok.ensures) c.in-Ok-inner_at.ensures
