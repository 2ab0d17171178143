-- The stored index, if there is one, is the index of the names in the syntax.
use Rattle.std.proofs.Common.{rules, ◌≡◌, Some, sym, ap}
use Rattle.std.specs.Option.{option_copied}
use Rattle.smi_tree.specs.types.Kept.{facts_of, kept_syntax}
use Rattle.smi_tree.proofs.NumbersKept.{kept_right}
use Rattle.smi_tree.proofs.shown.source_syntax.Goals as goal
use Rattle.smi_tree.proofs.shown.source_syntax.Goals.{in-Some-Definition, in_default}

pub value_syntax-requires : goal.value_syntax-requires
value_syntax-requires c = elim c.match-syntax.branch [
  | in-Some-Definition w ↦ (
      let d = w.in-Some-Definition in
      let stored : kept_syntax c.args.modules.now c.args.types.now d.index d.k ≡ Some (facts_of c.in_ok-syntax.syntax) =
      sym (rw d.is-1 at c.in_ok-syntax.ensures) in
      let right = kept_right c.args.modules.now c.args.types.now.numbers.items c.requires _ (facts_of c.in_ok-syntax.syntax) d.names.now stored
      (ap option_copied d.is-0) in
      rw (w.index-is, w.stored_index-index.ensures, d.is-0) right)
  | in_default w ↦ rw w.index-is (search rules)
]
