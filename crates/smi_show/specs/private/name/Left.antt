-- What remains of a name after its first parts are read, for contracts of private functions.
use Rattle.std.specs.Prelude.{ℕ, List, [], Option, Some, None}
use Rattle.smi_show.specs.name.Cutting.{name_parts}

-- the parts that remain to be read: those of `rest`, the text after the dot that follows the last
-- part read; none if no dot follows that part
abbrev pub parts_left : Option (List ℕ) → List (List ℕ)
parts_left None = []
parts_left (Some rest) = name_parts rest
