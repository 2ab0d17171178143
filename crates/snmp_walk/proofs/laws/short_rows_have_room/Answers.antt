use Rattle.snmp_walk.proofs.ShortRows.{rows_have_room}
use Rattle.snmp_walk.proofs.laws.short_rows_have_room.Goals as goal

pub returns : goal.returns
returns c = λ agents view first same community size name is_view short. rows_have_room agents view first same community size name is_view short
