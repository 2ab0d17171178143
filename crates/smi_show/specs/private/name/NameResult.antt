-- The result of a call that reads into an identifier of its caller, for contracts of private
-- functions.
use Rattle.std.specs.Prelude.{ℕ, List, Option, option_map, Result, Ok, Err}
use Rattle.std.specs.Borrow.{Bor}
use Rattle.smi_show.specs.{private.name.Left.parts_left, name.Meaning.further_meaning}
use Rattle.smi_show.specs.{declared.name.error.NameError.NameError}
use Rattle.smi_tree.specs.Tree.{Contents}

-- the outcome of a call that stored the identifier `o` in its argument: `o` if the call succeeded,
-- otherwise its fault
abbrev pub read_to : Result (Unit {0}) NameError → List ℕ → Result (List ℕ) NameError
read_to (Ok done) o = Ok o
read_to (Err fault) o = Err fault

-- A call read the first parts of a name into `o`, and returned the text after these parts, or None
-- if the name ended. The meaning of the name is what the parts of that text mean after `o`, or `o`
-- if the name ended. If the call failed, the meaning is its fault.
abbrev pub meant_with : Contents → Result (Option (Bor (List ℕ))) NameError → List ℕ
    → Result (List ℕ) NameError
meant_with tree (Ok left) o =
    further_meaning tree o (parts_left (option_map (λ rest. rest.now) left))
meant_with tree (Err fault) o = Err fault
