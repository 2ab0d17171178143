-- A printer writes the lines of the rows that it is given, as `ArePrinted` says (`are_printed`).
use Rattle.std.proofs.Common.{arith, ◌≡◌, ◌++◌, ℕ, List, [], ◌∷◌, Result, Ok, Err, sym, refl, ◌∙◌, ap, subst, append-nil, append_assoc}
use Rattle.std.proofs.lemmas.Grind.{common_steps}
use Rattle.smi_value.specs.declared.letters.Letters.{Letters}
use Rattle.snmp_wire.specs.Message.{VarBind}
use Rattle.snmp_walk.specs.{declared.end.SinkFault.SinkFault, declared.end.WalkEnd.WalkEnd, RunResult.IsRun, Sink.TakesAll, Sink.Refused, Sink.Took}
use Rattle.snmp_walk.specs.declared.end.SinkFault.TheVariants as fault
use Rattle.snmp_walk.specs.declared.end.WalkEnd.TheVariants as ending
use Rattle.snmp_io.specs.{Output.Stream, Output.stream_after, Streams.stream_after-nil, Streams.stream_after-twice}
use Rattle.snmp_tools.specs.{Lines.AreLines, Lines.ArePrinted, Lines.IsPrintedUpTo, Lines.TakesLine}
use Rattle.smi_tree.specs.{Tree.Contents}

pub lines_of_both : (mib : Contents) (letters : Letters) (rows more : List VarBind) (a b : List ℕ) → AreLines mib letters rows a → AreLines mib letters more b
    → AreLines mib letters (rows ++ more) (a ++ b)
lines_of_both mib letters [] more a b h k = subst (λ (t : List ℕ). AreLines mib letters more (t ++ b)) (sym h) k
lines_of_both mib letters (row ∷ rows) more a b h k =
    (h.0, h.1 ++ b, h.2, lines_of_both mib letters rows more h.1 b h.3 k, ap (λ (t : List ℕ). t ++ b) h.4 ∙ append_assoc h.0 h.1 b)

-- a sink that writes the line of each row to its output, from a state in which `Is` holds; each row taken or refused leaves `Is` true
module _ {S : Type 0} (takes : S → VarBind → Result (Unit {0}) SinkFault → S → Type 0) (stream : S → Stream) (Is : S → Type 0)
    (mib : Contents) (letters : Letters)
    (stays : (old new : S) (binding : VarBind) (result : Result (Unit {0}) SinkFault) → Is old → takes old binding result new → Is new)
    (writes : (old new : S) (binding : VarBind) (result : Result (Unit {0}) SinkFault) → Is old → takes old binding result new
    → TakesLine mib letters (stream old) binding result (stream new)) where
  stayed : (old new : S) (rows : List VarBind) → Is old → TakesAll takes old rows new → Is new
  stayed old new [] is e = subst Is (sym e) is
  stayed old new (p ∷ more) is h = stayed h.0 new more (stays old h.0 p (Ok tt) is h.1) h.2

  printed : (old new : S) (rows : List VarBind) → Is old → TakesAll takes old rows new
      → (text : List ℕ) × AreLines mib letters rows text × (stream new ≡ stream_after (stream old) text)
  printed old new [] is e = ([], refl, ap stream e ∙ sym (stream_after-nil (stream old)))
  printed old new (p ∷ more) is h =
      let first = writes old h.0 p (Ok tt) is h.1 in
      let rest = printed h.0 new more (stays old h.0 p (Ok tt) is h.1) h.2 in
      let now = rest.2 ∙ ap (λ (s : Stream). stream_after s rest.0) first.2 ∙ stream_after-twice (stream old) first.0 rest.0 in
      (first.0 ++ rest.0, (first.0, rest.0, first.1, rest.1, refl), now)

  -- if the sink took `rows` and refused the next row, then it wrote the lines of `rows` and, if the output failed, a prefix of the line of the refused row
  refused : (old between new : S) (rows turned : List VarBind) (why : SinkFault) → Is old → TakesAll takes old rows between
      → Refused takes between turned why new
      → IsPrintedUpTo mib letters (stream old) rows turned (ending.Sink why) (stream new)
  refused old between new rows turned fault.Output is given refusal = grind (arith, common_steps, printed, stayed, append-nil)
  refused old between new rows turned fault.Memory is given refusal = grind (arith, common_steps, printed, stayed)

  pub stays_to_the_end : (old new : S) (rows turned : List VarBind) (why : WalkEnd) → Is old → Took takes old rows turned why new → Is new
  stays_to_the_end old new rows turned (ending.Sink why) is h = stays h.0 new h.2.0 (Err why) (stayed old h.0 rows is h.1) h.2.2
  stays_to_the_end old new rows turned why is h = stayed old new rows is h.0

  pub printed_up_to : (old new : S) (rows turned : List VarBind) (why : WalkEnd) → Is old → Took takes old rows turned why new
      → IsPrintedUpTo mib letters (stream old) rows turned why (stream new)
  printed_up_to old new rows turned (ending.Sink why) is h = refused old h.0 new rows turned why is h.1 h.2
  printed_up_to old new rows turned why is h = printed old new rows is h.0

-- a printer: a row leaves its tree, its letters and the name of its output unchanged, and the output takes the line of the row as `TakesLine` says (`prints`)
module _ {S N : Type 0} (tree : S → Contents) (letters : S → Letters) (name : S → N) (stream : S → Stream) where
  abbrev pub prints : S → VarBind → Result (Unit {0}) SinkFault → S → Type 0
  prints old binding result new =
      (tree new ≡ tree old) × (letters new ≡ letters old) × (name new ≡ name old)
      × TakesLine (tree old) (letters old) (stream old) binding result (stream new)

  module _ (first : S) where
    abbrev Is : S → Type 0
    Is s = (tree s ≡ tree first) × (letters s ≡ letters first) × (name s ≡ name first)

    stays : (old new : S) (binding : VarBind) (result : Result (Unit {0}) SinkFault) → Is old → prints old binding result new → Is new
    stays old new binding result is h = (h.0 ∙ is.0, h.1 ∙ is.1, h.2 ∙ is.2)

    writes : (old new : S) (binding : VarBind) (result : Result (Unit {0}) SinkFault) → Is old → prints old binding result new
        → TakesLine (tree first) (letters first) (stream old) binding result (stream new)
    writes old new binding result is h =
        let P : Contents → Type 0 = λ m. TakesLine m (letters old) (stream old) binding result (stream new) in
        let Q : Letters → Type 0 = λ l. TakesLine (tree first) l (stream old) binding result (stream new) in
        subst Q is.1 (subst P is.0 h.3)

    module _ (new : S) (end : WalkEnd) (Facts : (rows refused : List VarBind) → Type 0) (run : IsRun prints first end new Facts) where
      pub same_name : name new ≡ name first
      same_name = (stays_to_the_end prints stream Is (tree first) (letters first) stays writes first new run.rows run.refused end (refl, refl, refl)
          run.took).2

      pub are_printed : ArePrinted (tree first) (letters first) (stream first) (stream new) end Facts
      are_printed = record {
        rows = run.rows;
        refused = run.refused;
        lines = printed_up_to prints stream Is (tree first) (letters first) stays writes first new run.rows run.refused end (refl, refl, refl) run.took;
        facts = run.facts;
      }
