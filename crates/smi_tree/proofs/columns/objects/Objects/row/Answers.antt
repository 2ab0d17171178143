-- A column uses the clause that its row uses. If the function returns early, then no clause applies.
use Rattle.std.proofs.{Common.rules, Common.length, Common.IsTrue, Common.refl, lemmas.Option.slice_get_read}
use Rattle.smi_tree.proofs.Rows.{no_row_undefined, no_row_other, no_row_index, no_row_source, row_is}
use Rattle.smi_tree.proofs.columns.objects.Objects.row.Goals as goal

pub returns-in_err-def-clause-row : goal.returns-in_err-def-clause-row
returns-in_err-def-clause-row c = rw c.from_residual.ensures
    (no_row_undefined c.args.self.now c.args.sources.now c.args.identifiers.now c.requires.long c.args.id c.requires.within
    (rw c.self.view_is at c.in_err-def.ensures))

pub returns-then-not-is_object_type-clause-row : goal.returns-then-not-is_object_type-clause-row
returns-then-not-is_object_type-clause-row c = no_row_other c.args.self.now c.args.sources.now c.args.identifiers.now c.requires.long c.args.id
    c.requires.within c.in_ok-def.def.now (rw c.self.view_is at c.in_ok-def.ensures)
    (λ object. let held = rw c.if-not-is_object_type.true at (c.is_object_type.ensures.1 object) in absurd (search rules))

pub returns-in_err-row-clause-row : goal.returns-in_err-row-clause-row
returns-in_err-row-clause-row c = rw c.from_residual-in_err-row.ensures
    (no_row_index c.args.self.now c.args.sources.now c.args.identifiers.now c.requires.long c.args.id c.requires.within c.in_err-row.ensures.row)

pub returns-in_err-source-clause-row : goal.returns-in_err-source-clause-row
returns-in_err-source-clause-row c =
    let row = c.in_ok-row.ensures.row in
    rw c.from_residual-in_err-source.ensures (no_row_source c.args.self.now c.args.sources.now c.args.identifiers.now c.requires.long c.args.id
    c.requires.within row.0 row.1 c.in_ok-row.row row.2 row.3 c.in_err-source.ensures.lookup.3)

pub returns-clause-row : goal.returns-clause-row
returns-clause-row c =
    let row = c.in_ok-row.ensures.row in
    let holds : IsTrue c.is_object_type.result = search rules in
    let read = slice_get_read c.args.sources.now (length c.args.sources.now) c.in_ok-row.row c.in_ok-source.source.now refl
    c.in_ok-source.ensures.lookup.3.0 c.in_ok-source.ensures.lookup.1 in
    row_is c.args.self.now c.args.sources.now c.args.identifiers.now c.requires.long c.args.id c.requires.within row.0 row.1 c.in_ok-row.row row.2 row.3
    c.in_ok-def.def.now c.in_ok-source.source.now c.index_clause_of.result (rw c.self.view_is at c.in_ok-def.ensures)
    (c.is_object_type.ensures.0 holds) read c.index_clause_of.ensures
