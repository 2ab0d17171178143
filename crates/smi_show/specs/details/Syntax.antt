-- A type as text: its tokens, with a blank between each two (RFC 2578, sections 7.1 and 9).
use Rattle.std.specs.Prelude.{ℕ, List, [], ◌∷◌, ◌++◌, codes, Option, Some, None}
use Rattle.std.specs.List.{flat_map}
use Rattle.smi_text.specs.{declared.trees.tree.TokenText.TokenText, declared.trees.tree.Range.Range}
use Rattle.smi_text.specs.{declared.trees.tree.Base.Base, declared.trees.tree.Syntax.Syntax}
use Rattle.smi_text.specs.declared.trees.tree.NamedNumber.{NamedNumber}
use Rattle.smi_text.specs.declared.trees.tree.Refinement.{Refinement}
use Rattle.smi_text.specs.declared.trees.tree.Refinement.TheVariants.{Numbers, Values, Size}
use Rattle.smi_text.specs.declared.trees.tree.Base.TheVariants.{Integer, OctetString}
use Rattle.smi_text.specs.declared.trees.tree.Base.TheVariants.{ObjectIdentifier, Bits, Named}
use Rattle.smi_text.specs.declared.trees.tree.Syntax.TheVariants.{SequenceOf, Simple}

-- a name and its number in parentheses, with a blank before each token
abbrev pub named_number_text : NamedNumber → List ℕ
named_number_text n = codes " " ++ n.name.octets ++ codes " ( " ++ n.number ++ codes " )"

abbrev pub more_numbers : NamedNumber → List ℕ
more_numbers n = codes " ," ++ named_number_text n

abbrev pub numbers_text : List NamedNumber → List ℕ
numbers_text [] = codes " "
numbers_text (first ∷ rest) = named_number_text first ++ flat_map more_numbers rest

-- two dots and the upper bound, with a blank before each token; nothing for a range of one value
abbrev pub high_text : Option TokenText → List ℕ
high_text None = []
high_text (Some high) = codes " .. " ++ high.text

abbrev pub range_text : Range → List ℕ
range_text r = codes " " ++ r.low.text ++ high_text r.high

abbrev pub more_ranges : Range → List ℕ
more_ranges r = codes " |" ++ range_text r

abbrev pub ranges_text : List Range → List ℕ
ranges_text [] = codes " "
ranges_text (first ∷ rest) = range_text first ++ flat_map more_ranges rest

abbrev pub refinement_text : Refinement → List ℕ
refinement_text (Numbers ns) = codes " {" ++ numbers_text ns ++ codes " }"
refinement_text (Values rs) = codes " (" ++ ranges_text rs ++ codes " )"
refinement_text (Size rs) = codes " ( SIZE (" ++ ranges_text rs ++ codes " ) )"

abbrev pub refined_text : Option Refinement → List ℕ
refined_text None = []
refined_text (Some refinement) = refinement_text refinement

abbrev pub base_text : Base → List ℕ
base_text Integer = codes "INTEGER"
base_text OctetString = codes "OCTET STRING"
base_text ObjectIdentifier = codes "OBJECT IDENTIFIER"
base_text Bits = codes "BITS"
base_text (Named name) = name.octets

abbrev pub syntax_text : Syntax → List ℕ
syntax_text (SequenceOf row) = codes "SEQUENCE OF " ++ row.octets
syntax_text (Simple simple) = base_text simple.base ++ refined_text simple.refinement
