-- If the definition that a name refers to was found, then the part for the name follows from its stored syntax (`part_read`, `part_untyped`).
use Rattle.std.proofs.Common.{arith, ◌≡◌, ℕ, Bool, List, MatchOption, Option, Some, None, refl}
use Rattle.std.proofs.lemmas.Grind.{common_steps}
use Rattle.smi_names.specs.{chains.Resolution.ComesTo, meaning.Meaning.QualifiedName, meaning.Meaning.origin}
use Rattle.smi_names.specs.declared.chains.shared.Resolution.TheVariants as R
use Rattle.smi_tree.specs.declared.columns.index_part.IndexPart.{IndexPart}
use Rattle.smi_text.specs.{declared.trees.tree.Module.Module, declared.trees.tree.Def.Def}
use Rattle.smi_tree.specs.{types.Chain.TypeOrigin, columns.Parts.IsPartOf, columns.Index.IsIndexPart, columns.Kept.HasNoPart}
use Rattle.smi_tree.specs.types.Types.{Facts, HasSyntax, HasNoSyntax, object_origin, origin_of_object}
use Rattle.smi_tree.specs.columns.Definitions.{qualified_name, IsDefinedBy, own, through}
use Rattle.smi_tree.specs.private.Named.{IsFoundAt}

-- ---- a name refers to one definition

pub defined_once : {ms : List Module} {p : QualifiedName} {m n : Module} {d e : Def} → IsDefinedBy ms p m d → IsDefinedBy ms p n e → (m ≡ n) × (d ≡ e)
defined_once (own home by) (own other also) = grind (arith, common_steps)
defined_once (own home by) (through other also rest) = grind (arith)
defined_once (through home by rest) (own other also) = grind (arith)
defined_once (through {p = p} {m = m} {i = i} home by rest) (through {m = n} {i = j} other also more) =
    let same : m ≡ n = cc in
    let is = rw same at by in
    let clause : i ≡ j = cc in
    defined_once rest (rw (← clause) at more)

-- ---- parts

module _ (ms : List Module) (m : Module) (x : List ℕ) (i k : ℕ) (found : IsFoundAt ms (qualified_name m x) i k) where
  at_object : object_origin ms i k ≡ origin_of_object found.home.name.octets found.definition
  at_object = rw (found.at_module, found.there) refl

  -- if the name has a part, the syntax of the part is the syntax of the definition that was found
  syntax_here : (implied : Bool) (part : IndexPart) (p : IsIndexPart ms m x implied part) → HasSyntax ms (object_origin ms i k) p.facts
  syntax_here implied part p = grind (arith, common_steps, defined_once, at_object)

  pub part_untyped : (implied : Bool) → HasNoSyntax ms (object_origin ms i k) → HasNoPart ms m x implied
  part_untyped implied none = λ part p. none p.facts (syntax_here implied part p)

  pub part_read : (implied : Bool) (facts : Facts) (read : Option IndexPart) → HasSyntax ms (object_origin ms i k) facts
      → ((o : TypeOrigin QualifiedName) (f g : Facts) → HasSyntax ms o f → HasSyntax ms o g → f ≡ g)
      → (oid : List ℕ) → ComesTo (origin ms) (qualified_name m x) (R.Numbers oid)
      → MatchOption read ((part : IndexPart) → IsPartOf facts.base facts.sizes implied part → ⊥) (λ part. IsPartOf facts.base facts.sizes implied part)
      → MatchOption read (HasNoPart ms m x implied) (λ part. IsIndexPart ms m x implied part)
  part_read implied facts None has one oid comes none = λ part p.
      let same = one (object_origin ms i k) p.facts facts (syntax_here implied part p) has in
      none part (rw same at p.reads)
  part_read implied facts (Some part) has one oid comes is = record {
    home = found.home;
    object = found.definition;
    named = found.named;
    oid = oid;
    identified = comes;
    facts = facts;
    syntax = rw at_object at has;
    reads = is;
  }
