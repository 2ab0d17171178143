use Rattle.std.proofs.Common.{◌≡◌, ℕ, ◌+◌, List, length, Option, Some, None, option_map}
use Rattle.smi_show.specs.{private.name.Left.parts_left, name.Meaning.further_meaning}
use Rattle.smi_show.proofs.name.meaning.further_meaning.Given as goal

-- the parts left, read after the current `oid`, mean what all parts mean after the `oid` at the start
abbrev pub invariant-parts : goal.invariant-parts
invariant-parts l =
    further_meaning l.tree l.oid (parts_left (option_map (λ s. s.now) l.left))
    ≡ further_meaning l.tree l.fn.oid (parts_left (option_map (λ s. s.now) l.fn.parts))

-- one more than the number of octets left, or 0 if no text is left
abbrev octets_left : Option (List ℕ) → ℕ
octets_left None = 0
octets_left (Some here) = length here + 1

abbrev pub decreases-parts : goal.decreases-parts
decreases-parts l = octets_left (option_map (λ s. s.now) l.left)
