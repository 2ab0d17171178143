-- The syntax of an object, as far as it affects how values are shown (RFC 2578, section 7; RFC
-- 2579).
use Rattle.std.specs.Prelude.{ℕ, ℤ, Bool, true, false, if◌then◌else◌, List, [], Option, Some, None}
use Rattle.std.specs.{Prelude.◌≡◌, Option.option_map, List.find, List.position_from}
use Rattle.std.specs.{BTreeMap.get, Ordering.int_cmp, Ordering.int_eq}
use Rattle.smi_text.specs.{declared.trees.tree.NamedNumber.NamedNumber, trees.Number.stated_number}
use Rattle.smi_value.specs.declared.base.ValueBase.{ValueBase}
use Rattle.smi_value.specs.declared.names.NumberIndex.{NumberIndex}
use Rattle.smi_value.specs.declared.base.ValueBase.TheVariants as base

-- a syntax: the type of the values, the names of numbers or bits, the display hint, and the units
pub record ObjectSyntax : Type 0 where
  pub base : ValueBase
  pub names : List NamedNumber
  pub hint : Option (List ℕ)
  pub units : Option (List ℕ)

-- the syntax without names, hint or units, for values that no other syntax applies to
abbrev pub no_syntax : ObjectSyntax
no_syntax = record { base = base.Other; names = []; hint = None; units = None }

-- whether a syntax of one type applies to values of the other: they are the same, and not `Other`
abbrev pub same_base : ValueBase → ValueBase → Bool
same_base base.Integer base.Integer = true
same_base base.OctetString base.OctetString = true
same_base base.Bits base.Bits = true
same_base base.Counter32 base.Counter32 = true
same_base base.Gauge32 base.Gauge32 = true
same_base base.TimeTicks base.TimeTicks = true
same_base base.Counter64 base.Counter64 = true
same_base _ _ = false

-- the syntax for values of type `base`: the object's if it applies to them (`same_base`), otherwise
-- `no_syntax`
abbrev pub syntax_at : ValueBase → Option ObjectSyntax → ObjectSyntax
syntax_at base None = no_syntax
syntax_at base (Some syntax) = if same_base syntax.base base then syntax else no_syntax

-- whether the object's type is known to be BITS
abbrev pub is_of_bits : Option ObjectSyntax → Bool
is_of_bits None = false
is_of_bits (Some syntax) = same_base syntax.base base.Bits

-- whether `named` is a name of the number `n`
abbrev pub is_number_of : ℤ → NamedNumber → Bool
is_number_of n named = is_same (stated_number named.number)
  where
    is_same : Option ℤ → Bool
    is_same None = false
    is_same (Some m) = int_eq m n

-- the name of the number `n`, if it has one: the first in `names` if it has several
abbrev pub name_of_number : List NamedNumber → ℤ → Option (List ℕ)
name_of_number names n = option_map (λ named. named.name.octets) (find (is_number_of n) names)

-- `index` has, for each number that has a name in `names`, the position of its first name, and no
-- position for any other number
abbrev pub IsIndexOf : List NamedNumber → NumberIndex → Type 0
IsIndexOf names index =
    (n : ℤ) → get int_cmp index.positions n ≡ position_from (is_number_of n) 0 names
