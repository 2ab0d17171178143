-- The syntax of objects, in the form for showing values (RFC 2578, sections 7.1 and 7.2; RFC 2579,
-- section 3.1).
use Rattle.std.specs.Prelude.{◌≡◌, ℕ, ◌-◌, List, [], length, take, drop, unwrap_or, Option, Some}
use Rattle.std.specs.Prelude.{None, map, option_map, slice_index_or}
use Rattle.std.specs.{List.slice_get, Option.option_and_then}
use Rattle.smi_text.specs.{declared.trees.tree.Module.Module, declared.trees.tree.DefKind.DefKind}
use Rattle.smi_text.specs.declared.trees.tree.DefKind.TheVariants as D
use Rattle.smi_names.specs.{nodes.Nodes.Node, declared.nodes.gather.Source.Source}
use Rattle.smi_names.specs.declared.nodes.gather.Source.TheVariants as S
use Rattle.smi_tree.specs.{types.Types.Facts, types.Types.object_in, types.Kept.kept_syntax}
use Rattle.smi_tree.specs.{types.Kept.IsSyntax, declared.types.Types.Types}
use Rattle.smi_names.specs.declared.meaning.base.TypeBase.{TypeBase}
use Rattle.smi_names.specs.declared.meaning.base.TypeBase.TheVariants as T
use Rattle.smi_value.specs.{Syntax.ObjectSyntax, declared.base.ValueBase.ValueBase}
use Rattle.smi_value.specs.declared.base.ValueBase.TheVariants as V

-- `facts` is the syntax of a node's object, or `None` if the node has no syntax
abbrev pub IsSyntaxOf : List Module → Node → Option Facts → Type 0
IsSyntaxOf ms n facts = IsSyntax ms (object_in n.home n.definition) facts

-- `syntaxes` has the syntax of each node's object, in the order of the nodes
pub record AreSyntaxesOf (ms : List Module) (nodes : List Node)
    (syntaxes : List (Option Facts)) : Type 0 where
  pub long : length syntaxes ≡ length nodes
  pub each : (k : ℕ) (n : Node) → slice_get nodes k ≡ Some n
      → IsSyntaxOf ms n (slice_index_or syntaxes k None)

-- the stored syntax of a source
abbrev pub syntax_from : List Module → Types → Source → Option Facts
syntax_from ms t (S.Root n) = None
syntax_from ms t (S.Definition i k) = kept_syntax ms t i k

abbrev pub syntaxes_from : List Module → Types → List Source → List (Option Facts)
syntaxes_from ms t ss = map (syntax_from ms t) ss

-- the type that determines how values of a base type are shown; `Other` if they are shown in one
-- way, whatever their syntax
abbrev pub value_base : TypeBase → ValueBase
value_base T.Integer = V.Integer
value_base T.OctetString = V.OctetString
value_base T.ObjectIdentifier = V.Other
value_base T.Bits = V.Bits
value_base T.Counter32 = V.Counter32
value_base T.Gauge32 = V.Gauge32
value_base T.Unsigned32 = V.Gauge32
value_base T.TimeTicks = V.TimeTicks
value_base T.IpAddress = V.Other
value_base T.Opaque = V.Other
value_base T.Counter64 = V.Counter64

-- the octets between the quotes of a string
abbrev pub between_quotes : List ℕ → List ℕ
between_quotes x = take (length x - 2) (drop 1 x)

-- the UNITS of an OBJECT-TYPE, if it has them
abbrev pub units_of : DefKind → Option (List ℕ)
units_of (D.ObjectType d) = d.units
units_of _ = None

-- the UNITS of the node at index `k`
abbrev pub units_at : List Node → ℕ → Option (List ℕ)
units_at nodes k =
    option_and_then (λ n. option_and_then (λ d. units_of d.kind) n.definition) (slice_get nodes k)

-- the syntax for showing values, from a type's syntax and UNITS
abbrev pub shown_syntax : Facts → Option (List ℕ) → ObjectSyntax
shown_syntax f units = record {
  base = value_base f.base;
  names = unwrap_or f.names [];
  hint = option_map between_quotes f.hint;
  units = option_map between_quotes units;
}

-- the syntax for showing values of the node at index `k`
abbrev pub shown_at : List Node → List (Option Facts) → ℕ → Option ObjectSyntax
shown_at nodes syntaxes k =
    option_map (λ f. shown_syntax f (units_at nodes k)) (slice_index_or syntaxes k None)
