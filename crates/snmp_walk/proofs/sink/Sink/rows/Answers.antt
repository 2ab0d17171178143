use Rattle.std.proofs.Common.{◌≡◌, List, [], ◌∷◌, ◌++◌, ap, sym, ◌∙◌, append_assoc}
use Rattle.snmp_wire.specs.Message.{VarBind, var_bind}
use Rattle.snmp_walk.proofs.Sinks.{given-append, given-one}
use Rattle.snmp_walk.proofs.sink.Sink.rows.Goals as goal

pub rows-preserved : goal.rows-preserved
rows-preserved g c =
    let prefix = c.rows.invariant.0 in
    let p : VarBind = var_bind c.read_next.new.into in
    let left : c.rows.rows ≡ p ∷ c.read_next.new.self = c.read_next.ensures.some c.rows-test.true in
    let one = given-one _ g.Self.Sink.takes p c.rows.self c.row.new.self c.in_ok-row.ensures in (
      prefix ++ p ∷ [],
      c.rows.invariant.1 ∙ ap (λ (s : List VarBind). prefix ++ s) left ∙ sym (append_assoc prefix (p ∷ []) c.read_next.new.self),
      given-append _ g.Self.Sink.takes prefix (p ∷ []) c.args.self.now c.rows.self c.row.new.self c.rows.invariant.2 one,
    )
