-- Module trees, and the marks that describe their tokens, without lines.
use Rattle.std.specs.Prelude.{map, option_map}
use Rattle.smi_text.specs.{trees.Mark.Mark, trees.Mark.spelled, trees.Mark.on_line}
use Rattle.smi_text.specs.{declared.trees.tree.Module.Module, declared.trees.tree.Def.Def}
use Rattle.smi_text.specs.declared.trees.tree.Import.{Import}

-- the mark without the line that it requires, if it requires one
abbrev pub plain : Mark → Mark
plain (spelled k x ok) = spelled k x ok
plain (on_line n m) = plain m

-- the module with each of its lines set to 0
abbrev pub without_lines : Module → Module
without_lines m = record m {
  imports = option_map (map (λ (x : Import). record x { line = 0 })) m.imports;
  defs = map (λ (d : Def). record d { line = 0 }) m.defs;
}
