-- A list of bindings as a sink.
use Rattle.std.specs.Prelude.{◌≡◌, List, [], ◌∷◌, ◌++◌, Result, Ok, Err}
use Rattle.snmp_wire.specs.Message.{VarBind}
use Rattle.snmp_walk.specs.declared.end.SinkFault.{SinkFault}

-- the list `old` became `new`: it took the binding at its end, or refused it and stayed as it was
abbrev pub Appends : List VarBind → VarBind → Result (Unit {0}) SinkFault → List VarBind → Type 0
Appends old binding (Ok _) new = new ≡ old ++ binding ∷ []
Appends old binding (Err fault) new = new ≡ old
