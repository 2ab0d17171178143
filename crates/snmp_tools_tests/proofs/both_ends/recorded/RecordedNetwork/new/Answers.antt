use Rattle.std.proofs.Common.{List, sym, subst}
use Rattle.std.specs.Prelude.{map}
use Rattle.snmp_tools_tests.specs.{Recorded.IsRecordOf, Recorded.happening_of, declared.both_ends.recorded.Entry.Entry}
use Rattle.snmp_tools_tests.proofs.Records.{fresh}
use Rattle.snmp_tools_tests.proofs.both_ends.recorded.RecordedNetwork.new.Goals as goal

pub invariant_of-result : goal.invariant_of-result
invariant_of-result c =
    subst (λ (es : List Entry). IsRecordOf c.new.result (map happening_of es)) (sym c.new-2.ensures.items) (fresh c.new.result c.new.ensures.new)
