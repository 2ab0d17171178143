-- The parts of an index, by the types of its objects (RFC 2578, section 7.7).
use Rattle.std.specs.Prelude.{◌≡◌, ℕ, pos, Bool, true, false, List, [], ◌∷◌, Option, Some, None}
use Rattle.std.specs.Prelude.{if◌then◌else◌}
use Rattle.smi_tree.specs.declared.columns.index_part.Extent.{Extent}
use Rattle.smi_tree.specs.declared.columns.index_part.Extent.TheVariants.{Fixed, Counted, Implied}
use Rattle.smi_tree.specs.declared.columns.index_part.IndexPart.{IndexPart}
use Rattle.smi_tree.specs.declared.columns.index_part.IndexPart.TheVariants as P
use Rattle.smi_text.specs.{declared.trees.tree.Range.Range, trees.Number.bound_in}
use Rattle.smi_text.specs.declared.trees.tree.TokenText.{TokenText}
use Rattle.smi_names.specs.declared.meaning.base.TypeBase.{TypeBase}
use Rattle.smi_names.specs.declared.meaning.base.TypeBase.TheVariants as T

-- the token `t` represents the number `n`
abbrev pub StatesBound : TokenText → ℕ → Type 0
StatesBound t n = bound_in t.kind t.text ≡ Some (pos n)

-- the SIZE is fixed: its only range is the single bound `bound`, as in `SIZE (4)`; `SIZE (4..4)`
-- has two bounds
pub record IsFixedBy (sizes : Option (List Range)) (bound : TokenText) : Type 0 where
  pub range : Range
  pub only : sizes ≡ Some (range ∷ [])
  pub alone : range.high ≡ None
  pub here : range.low ≡ bound

abbrev pub IsNotFixed : Option (List Range) → Type 0
IsNotFixed sizes = (bound : TokenText) → IsFixedBy sizes bound → ⊥

-- the extent says how many numbers a string has: as many as its SIZE fixes; if it fixes none, as
-- many as the length before them says, or, after IMPLIED, all that remain. A SIZE that is fixed,
-- but not to a number of 0 to 18446744073709551615, has no extent.
abbrev pub HasExtent : Option (List Range) → Bool → Extent → Type 0
HasExtent sizes implied (Fixed n) =
    (bound : TokenText) × IsFixedBy sizes bound × StatesBound bound n
HasExtent sizes implied Counted = IsNotFixed sizes × (implied ≡ false)
HasExtent sizes implied Implied = IsNotFixed sizes × (implied ≡ true)

-- `part` is the part for an object with this base type and SIZE, after IMPLIED or not; Counter64
-- has none, and neither has a string whose SIZE has no extent
abbrev pub IsPartOf : TypeBase → Option (List Range) → Bool → IndexPart → Type 0
IsPartOf T.Integer sizes implied part = part ≡ P.Number
IsPartOf T.Counter32 sizes implied part = part ≡ P.Number
IsPartOf T.Gauge32 sizes implied part = part ≡ P.Number
IsPartOf T.Unsigned32 sizes implied part = part ≡ P.Number
IsPartOf T.TimeTicks sizes implied part = part ≡ P.Number
IsPartOf T.IpAddress sizes implied part = part ≡ P.Address
IsPartOf T.OctetString sizes implied part =
    (extent : Extent) × HasExtent sizes implied extent × (part ≡ P.Text extent)
IsPartOf T.Bits sizes implied part =
    (extent : Extent) × HasExtent sizes implied extent × (part ≡ P.Octets extent)
IsPartOf T.Opaque sizes implied part =
    (extent : Extent) × HasExtent sizes implied extent × (part ≡ P.Octets extent)
IsPartOf T.ObjectIdentifier sizes implied part =
    part ≡ (if implied then P.ImpliedIdentifier else P.Identifier)
IsPartOf T.Counter64 sizes implied part = ⊥
