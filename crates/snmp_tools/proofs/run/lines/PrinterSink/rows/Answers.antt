use Rattle.std.proofs.Common.{◌≡◌, ◌∙◌, ◌++◌, ℕ, List, [], ◌∷◌, refl, sym, ap, append-nil, append_assoc}
use Rattle.std.proofs.lemmas.Result.{err_from_is_err_and}
use Rattle.snmp_wire.specs.Message.{VarBind, var_bind}
use Rattle.snmp_tools.specs.{declared.run.lines.Printer.Printer}
use Rattle.snmp_tools.proofs.Replies.{at_err, at_ok, given_if, next_line, refused_at, refused_if, refused_next}
use Rattle.snmp_tools.proofs.run.lines.PrinterSink.rows.Given.{Over}
use Rattle.smi_tree.specs.Tree.{Contents}
use Rattle.snmp_tools.proofs.run.lines.PrinterSink.rows.Goals as goal

-- the printer `s`, with this writer and this output
abbrev with_output : (g : Over) → Printer g.row.O.Denot → Contents → g.row.O.Denot → Printer g.row.O.Denot
with_output g s writer out = record {
  writer = writer;
  letters = s.letters;
  text = s.text;
  out = record { ref_ptr = s.out.ref_ptr; ghost_name = s.out.ghost_name; now = out };
}

-- the printer `s`, after its output took `text` too
abbrev later : (g : Over) → Printer g.row.O.Denot → List ℕ → Printer g.row.O.Denot
later g s text = with_output g s s.writer (g.O.Output.after s.out.now text)

pub rows-init : goal.rows-init
rows-init g c =
    let p : VarBind = var_bind c.read_next.new.into in
    let line = at_ok c.line.result (sym c.if-is_err.false ∙ c.is_err.ensures.value) c.line.ensures.ok in
    record {
      writer = c.line.ensures.same;
      letters = refl;
      output = refl;
      made = (
        p,
        [],
        c.read_next.ensures.some c.if-not-read_next.false,
        (line.0, [], line.1, refl, line.2 ∙ ap (λ t. t ++ line.0) c.clear.ensures.items ∙ sym (append-nil line.0)),
      );
    }

pub rows-preserved : goal.rows-preserved
rows-preserved g c =
    let made = c.rows.invariant.made in
    let p : VarBind = var_bind c.read_next-in-rows.new.into in
    let left : c.rows.rows ≡ p ∷ c.read_next-in-rows.new.self = c.read_next-in-rows.ensures.some c.rows-test.true in
    let line = at_ok c.line-in-rows.result (sym c.if-is_err-2.false ∙ c.is_err-in-rows.ensures.value) c.line-in-rows.ensures.ok in
    record {
      writer = c.line-in-rows.ensures.same ∙ c.rows.invariant.writer;
      letters = c.rows.invariant.letters;
      output = c.rows.invariant.output;
      made = (
        made.0,
        made.1 ++ p ∷ [],
        made.2 ∙ ap (λ ps. (made.0 ∷ made.1) ++ ps) left ∙ sym (append_assoc (made.0 ∷ made.1) (p ∷ []) c.read_next-in-rows.new.self),
        next_line c.rows.self.writer c.args.self.now.writer
            c.rows.self.letters c.args.self.now.letters (made.0 ∷ made.1) p c.rows.self.text.now.items line.0 c.line-in-rows.new.out.items
            c.rows.invariant.writer c.rows.invariant.letters made.3 line.1 line.2,
      );
    }

pub returns-then-is_err-clause-err : goal.returns-then-is_err-clause-err
returns-then-is_err-clause-err g c = (
  [],
  var_bind c.read_next.new.into,
  c.read_next.new.self,
  c.read_next.ensures.some c.if-not-read_next.false,
  c.args.self.now,
  refl,
  (c.line.ensures.same, refl, refl, refl),
)

pub returns-in_err-write_lines-clause-err : goal.returns-in_err-write_lines-clause-err
returns-in_err-write_lines-clause-err g c =
    let made = c.rows.invariant.made in
    let same = at_err c.line-in-rows.result (sym c.if-is_err-2.true ∙ c.is_err-in-rows.ensures.value) c.line-in-rows.ensures.unchanged_on_error in
    let exit = err_from_is_err_and c.from_residual.result c.from_residual.ensures.1 in
    rw (exit.1, exit.2) (refused_at (λ s. s.writer) (λ s. s.letters) (λ s. s.out.ghost_name) (λ s. g.O.Output.stream s.out.now) (later g)
    (λ s t. (refl, refl, refl)) (λ s t. g.met.O.Output.after_takes s.out.now t) c.args.self.now
    (with_output g c.rows.self c.line-in-rows.new.self c.write_lines.new.out)
    made.0 made.1 c.rows.rows c.args.rows c.rows.self.text.now.items _
    (g.O.Output.stream c.rows.self.out.now)
    (c.line-in-rows.ensures.same ∙ c.rows.invariant.writer, c.rows.invariant.letters, ap (λ o. o.ghost_name) c.rows.invariant.output)
    made.3 made.2 (c.as_slice.ensures.value ∙ same) (ap (λ o. g.O.Output.stream o.now) c.rows.invariant.output) _
    c.in_err-write_lines.ensures.prefix_at_fault)

pub returns-then-is_err-2-clause-err : goal.returns-then-is_err-2-clause-err
returns-then-is_err-2-clause-err g c =
    let made = c.rows.invariant.made in
    let same = at_err c.line-in-rows.result (sym c.if-is_err-2.true ∙ c.is_err-in-rows.ensures.value) c.line-in-rows.ensures.unchanged_on_error in
    let next = c.read_next-in-rows.ensures.some c.rows-test.true in
    refused_next (λ s. s.writer) (λ s. s.letters) (λ s. s.out.ghost_name) (λ s. g.O.Output.stream s.out.now) (later g)
    (λ s t. (refl, refl, refl)) (λ s t. g.met.O.Output.after_takes s.out.now t) c.args.self.now
    (with_output g c.rows.self c.line-in-rows.new.self c.write_lines.new.out)
    made.0 made.1 c.rows.rows c.args.rows c.rows.self.text.now.items _
    (g.O.Output.stream c.rows.self.out.now)
    (c.line-in-rows.ensures.same ∙ c.rows.invariant.writer, c.rows.invariant.letters, ap (λ o. o.ghost_name) c.rows.invariant.output)
    made.3 made.2 (c.as_slice.ensures.value ∙ same) (ap (λ o. g.O.Output.stream o.now) c.rows.invariant.output)
    (var_bind c.read_next-in-rows.new.into) c.read_next-in-rows.new.self next c.in_ok-write_lines.ensures.whole_at_ok

pub returns-clause-ok : goal.returns-clause-ok
returns-clause-ok g c =
    let made = c.rows.invariant.made in
    given_if (λ s. s.writer) (λ s. s.letters) (λ s. s.out.ghost_name) (λ s. g.O.Output.stream s.out.now) (later g)
    (λ s t. (refl, refl, refl)) (λ s t. g.met.O.Output.after_takes s.out.now t) c.args.self.now _ made.0 made.1
    c.rows.rows c.args.rows c.rows.self.text.now.items _
    (g.O.Output.stream c.rows.self.out.now) (c.rows.invariant.writer, c.rows.invariant.letters, ap (λ o. o.ghost_name) c.rows.invariant.output)
    made.3 made.2 c.as_slice-2.ensures.value (ap (λ o. g.O.Output.stream o.now) c.rows.invariant.output)
    c.write_lines-2.result (c.read_next-in-rows.ensures.none c.rows-test.false).0 c.write_lines-2.ensures.whole_at_ok

pub returns-clause-err : goal.returns-clause-err
returns-clause-err g c =
    let made = c.rows.invariant.made in
    refused_if (λ s. s.writer) (λ s. s.letters) (λ s. s.out.ghost_name) (λ s. g.O.Output.stream s.out.now) (later g)
    (λ s t. (refl, refl, refl)) (λ s t. g.met.O.Output.after_takes s.out.now t) c.args.self.now
    (with_output g c.rows.self c.rows.self.writer c.write_lines-2.new.out)
    made.0 made.1 c.rows.rows c.args.rows c.rows.self.text.now.items _
    (g.O.Output.stream c.rows.self.out.now) (c.rows.invariant.writer, c.rows.invariant.letters, ap (λ o. o.ghost_name) c.rows.invariant.output)
    made.3 made.2 c.as_slice-2.ensures.value (ap (λ o. g.O.Output.stream o.now) c.rows.invariant.output)
    c.write_lines-2.result c.write_lines-2.ensures.prefix_at_fault
