use Rattle.std.proofs.Common.{◌≡◌, ℕ, List, ◌++◌, drop, Some}
use Rattle.snmp_io.specs.Draft.{Grows}
use Rattle.smi_show.specs.{private.index.IndexValues.values_of, index.Pieces.index_pieces, index.Pieces.shown_pieces}
use Rattle.smi_show.proofs.index.shown.values_text.Given as goal

-- if all parts read all numbers, then the text so far, followed by the text of the values left, is the text of all values
abbrev pub invariant-parts : goal.invariant-parts
invariant-parts l =
    (values : List (List ℕ)) → values_of l.fn.parts l.fn.numbers ≡ Some values
    → record {
      done : List ℕ;
      ahead : List (List ℕ);
      grows : Grows l.initial.draft done l.draft;
      left : values_of (drop l.part-index l.parts) l.left ≡ Some ahead;
      whole : done ++ shown_pieces (index_pieces (drop l.part-index l.parts) ahead) ≡ shown_pieces (index_pieces l.fn.parts values);
    }
