-- An identifier has exactly one name as `IsName` defines it: the computed one.
use Rattle.std.proofs.Common.{arith, ◌≡◌, ℕ, Bool, List, Option, Some, None, refl}
use Rattle.std.proofs.lemmas.Grind.{common_steps}
use Rattle.smi_value.specs.{declared.letters.NameForm.NameForm, declared.letters.NameForm.TheVariants.Numeric}
use Rattle.smi_show.specs.{name.Name.IsName, name.Name.IsNearestText}
use Rattle.smi_tree.specs.Tree.{Contents}
use Rattle.smi_tree.specs.Naming.{NodeView, nearest_node}
use Rattle.smi_show.specs.private.name.Shown.{name_text, nearest_text}
use Rattle.smi_show.proofs.Pieces.{pieces_stated, pieces_only}

module _ (tree : Contents) (form : NameForm) (numeric_index : Bool) (o : List ℕ) where
  view_stated : (view : Option NodeView) → IsNearestText tree form numeric_index o view (nearest_text tree form numeric_index o view)
  view_stated None = refl
  view_stated (Some node) = grind (arith, common_steps, pieces_stated)

  view_only : (view : Option NodeView) (text : List ℕ) → IsNearestText tree form numeric_index o view text
      → text ≡ nearest_text tree form numeric_index o view
  view_only None text h = h
  view_only (Some node) text h = grind (arith, common_steps, pieces_only)

pub name_stated : (tree : Contents) (form : NameForm) (numeric_index : Bool) (o : List ℕ)
    → IsName tree form numeric_index o (name_text tree form numeric_index o)
name_stated tree Numeric numeric_index o = refl
name_stated tree form numeric_index o = view_stated tree form numeric_index o (nearest_node tree o)

pub name_only : (tree : Contents) (form : NameForm) (numeric_index : Bool) (o text : List ℕ) → IsName tree form numeric_index o text
    → text ≡ name_text tree form numeric_index o
name_only tree Numeric numeric_index o text h = h
name_only tree form numeric_index o text h = view_only tree form numeric_index o (nearest_node tree o) text h

pub same_name : (tree : Contents) (form : NameForm) (numeric_index : Bool) (o text other : List ℕ) → IsName tree form numeric_index o text
    → IsName tree form numeric_index o other → text ≡ other
same_name tree form numeric_index o text other h k = grind (arith, common_steps, name_only)
