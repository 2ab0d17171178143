use Rattle.std.proofs.Common.{◌≡◌, ℕ, List, Bor, Option, Some, None, IfSome, IfNone, option_map, ◌∙◌, sym}
use Rattle.smi_show.specs.{index.Index.ReadsValue, private.index.IndexValues.value_and_rest}
use Rattle.smi_tree.specs.declared.columns.index_part.IndexPart.{IndexPart}
use Rattle.smi_show.proofs.IndexValues.{part_found, part_only}
use Rattle.smi_show.proofs.index.part.read_part.Goals as goal

abbrev Read : Type 0
Read = Option (Bor (List ℕ) × Bor (List ℕ))

found : (part : IndexPart) (numbers : List ℕ) (read : Read) → option_map (λ r. (r.0.now, r.1.now)) read ≡ value_and_rest part numbers
    → IfSome read (λ r. ReadsValue part numbers r.0.now r.1.now)
found part numbers None h = tt
found part numbers (Some r) h = part_found part numbers r.0.now r.1.now (sym h)

none : (part : IndexPart) (numbers : List ℕ) (read : Read) → option_map (λ r. (r.0.now, r.1.now)) read ≡ value_and_rest part numbers
    → IfNone read ((value rest : List ℕ) → ReadsValue part numbers value rest → ⊥)
none part numbers None h = λ value rest is. (let e = h ∙ part_only part numbers value rest is in cc)
none part numbers (Some r) h = tt

pub returns-clause-found : goal.returns-clause-found
returns-clause-found c = found c.args.part c.args.numbers.now c.value_and_rest-read.result c.value_and_rest-read.ensures

pub returns-clause-none : goal.returns-clause-none
returns-clause-none c = none c.args.part c.args.numbers.now c.value_and_rest-read.result c.value_and_rest-read.ensures
