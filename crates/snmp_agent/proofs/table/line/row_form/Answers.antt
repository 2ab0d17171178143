use Rattle.std.proofs.{Common.arith, Common.◌≡◌, Common.subst, lemmas.Grind.common_steps}
use Rattle.snmp_agent.specs.{table.Form.IsTag, private.table.Row.tag_text}
use Rattle.snmp_agent.proofs.Cuts.{HasNoBar}
use Rattle.snmp_agent.proofs.Statements.{tag_known, no_row_without_bar, no_row_with_one_bar, same_parts, row_parts}
use Rattle.snmp_agent.proofs.table.line.row_form.Goals as goal

pub returns-in_err-name : goal.returns-in_err-name
returns-in_err-name g c = grind (arith, common_steps, no_row_without_bar)

pub returns-in_err-tag : goal.returns-in_err-tag
returns-in_err-tag g c =
    let format = g.F.LineFormat.format c.args.format.now in
    let cut = c.in_ok-name.ensures in
    let none : HasNoBar c.in_ok-name.after.now = c.in_err-tag.ensures in
    rw c.from_residual-in_err-tag.ensures record {
      not_blank = c.requires.not_blank;
      no_object = c.requires.no_object;
      no_row = λ name tag text row. no_row_with_one_bar format c.args.line.now c.in_ok-name.name.now c.in_ok-name.after.now name tag text cut.0 cut.1 none row;
    }

pub returns-in_err-from_text : goal.returns-in_err-from_text
returns-in_err-from_text g c =
    let format = g.F.LineFormat.format c.args.format.now in
    let cut = c.in_ok-name.ensures in
    let second = c.in_ok-tag.ensures in
    let unknown : IsTag c.in_ok-tag.tag.now → ⊥ = c.in_err-from_text.ensures in
    rw c.from_residual-in_err-from_text.ensures record {
      not_blank = c.requires.not_blank;
      no_object = c.requires.no_object;
      no_row = λ name tag text row.
          let same = same_parts format c.args.line.now c.in_ok-name.name.now c.in_ok-name.after.now c.in_ok-tag.tag.now c.in_ok-tag.text.now name tag text cut.0
          cut.1 second.0 second.1 row in
          unknown (subst IsTag same.1 row.known);
    }

pub returns : goal.returns
returns g c =
    let format = g.F.LineFormat.format c.args.format.now in
    let cut = c.in_ok-name.ensures in
    let second = c.in_ok-tag.ensures in
    let tag : c.in_ok-tag.tag.now ≡ tag_text c.in_ok-from_text.field-0 = c.in_ok-from_text.ensures in
    record {
      not_blank = c.requires.not_blank;
      no_object = c.requires.no_object;
      parts = row_parts c.args.line.now c.in_ok-name.name.now c.in_ok-name.after.now c.in_ok-tag.tag.now c.in_ok-tag.text.now
          (tag_text c.in_ok-from_text.field-0) cut.0 second.0 tag;
      name_ends = cut.1;
      tag_ends = subst HasNoBar tag second.1;
      known = tag_known c.in_ok-from_text.field-0;
    }
