use Rattle.std.proofs.Common.{◌≡◌, drop}
use Rattle.std.specs.{Prelude.map, List.list_any}
use Rattle.smi_text.specs.trees.Mark.{same_text}
use Rattle.smi_text.proofs.trees.reserved.is_among.Given as goal

abbrev pub invariant-loop-word : goal.invariant-loop-word
invariant-loop-word l =
    list_any (same_text l.text) (map (λ word. word.now) (drop l.word-index l.words)) ≡ list_any (same_text l.text) (map (λ word. word.now) l.words)
