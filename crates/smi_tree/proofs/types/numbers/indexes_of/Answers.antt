-- The invariant of the loop holds after one definition more.
use Rattle.std.proofs.Common.{rules, ◌<◌, length, refl}
use Rattle.std.proofs.lemmas.Option.{slice_get_read}
use Rattle.smi_tree.proofs.NumbersKept.{inserted}
use Rattle.smi_tree.proofs.types.numbers.indexes_of.Goals as goal
use Rattle.smi_tree.proofs.types.numbers.indexes_of.Goals.{in-Some+in_ok-insert+in-Some-1, in-Some+in_ok-insert+in-None-1, in_default}

pub defs-preserved : goal.defs-preserved
defs-preserved c =
    let inside : c.defs.k < length c.args.defs.now = search rules in
    let at = slice_get_read c.args.defs.now (length c.args.defs.now) c.defs.k c.index-defs-k.result refl inside c.index-defs-k.is in
    elim c.match-branch-2.branch [
      | in-Some+in_ok-insert+in-Some-1 w ↦ rw w.numbers-is (inserted c.args.defs.now c.defs.numbers w.insert.new.self c.defs.k
          c.index-defs-k.result _ c.defs.invariant at (rw w.in-Some.is at c.in_ok-index.ensures) w.in_ok-insert.ensures.updates)
      | in-Some+in_ok-insert+in-None-1 w ↦ rw w.numbers-is (inserted c.args.defs.now c.defs.numbers w.insert.new.self c.defs.k
          c.index-defs-k.result _ c.defs.invariant at (rw w.in-Some.is at c.in_ok-index.ensures) w.in_ok-insert.ensures.updates)
      | in_default w ↦ rw w.numbers-is c.defs.invariant
    ]
