-- What decides a name says whether a module defines or imports it; the index of the first module of a name says whether an earlier module has the name.
use Rattle.std.proofs.{lemmas.Grind.common_steps, lemmas.List.take-append-drop}
use Rattle.std.proofs.Common.{◌≡◌, ℕ, ◌+◌, Bool, false, ◌||◌, nat_lt, List, take, Option, Some, None, is_some, arith, MatchOption, length, drop}
use Rattle.std.specs.{Prelude.option_map, List.position_from, Option.option_and_then}
use Rattle.smi_names.specs.meaning.Meaning.{module_named, Decision, defined, imported, root, or_else, decision}
use Rattle.smi_names.proofs.FirstPosition.{IsFirst, is_first, position-append}
use Rattle.smi_text.specs.{trees.Mark.same_text, declared.trees.tree.Module.Module, declared.trees.tree.Def.Def, declared.trees.tree.Import.Import}
use Rattle.smi_names.specs.{meaning.Names.module_index, nodes.Imports.is_stated, nodes.Imports.defines_or_imports, nodes.Nodes.is_loaded}

abbrev pub is_stated_some : Option Decision → Bool
is_stated_some None = false
is_stated_some (Some d) = is_stated d

stated : (d : Option Def) (i : Option Import) (n : Option ℕ)
    → is_stated_some (or_else (or_else (option_map defined d) (option_map imported i)) (option_map root n)) ≡ (is_some d || is_some i)
stated d i n = grind (arith, common_steps)

-- if `r` is what decides the meaning of `x` in the module `o`, then the module defines or imports `x` if and only if `r` is a definition or an import
pub defines_or_imports_by : (o : Option Module) (x : List ℕ) (r : Option Decision) → r ≡ option_and_then (λ m. decision m x) o
    → is_stated_some r ≡ defines_or_imports o x
defines_or_imports_by o x r e = grind (arith, common_steps, stated)

-- the index of the first module named `x` is below `i` if and only if one of the first `i` modules has this name; if there is no such index, none has it
is_loaded-at : (ms : List Module) (x : List ℕ) (i : ℕ)
    → MatchOption (module_index ms x) (is_loaded (take i ms) x ≡ false) (λ j. nat_lt j i ≡ is_loaded (take i ms) x)
is_loaded-at ms x i =
    let t = λ (m : Module). same_text m.name.octets x in
    let n = 0 + length (take i ms) in
    let whole = rw (take-append-drop i ms) at (position-append t 0 (take i ms) (drop i ms)) in
    rw whole (by (position_from t 0 (take i ms)) (is_first t 0 (take i ms)) (position_from t n (drop i ms)) (is_first t n (drop i ms)))
  where
    by : (p : Option ℕ) → IsFirst (λ (m : Module). same_text m.name.octets x) 0 (take i ms) (module_named (take i ms) x) p → (q : Option ℕ)
        → IsFirst (λ (m : Module). same_text m.name.octets x) (0 + length (take i ms)) (drop i ms) (module_named (drop i ms) x) q
        → MatchOption (or_else p q) (is_loaded (take i ms) x ≡ false) (λ j. nat_lt j i ≡ is_loaded (take i ms) x)
    by p f q g = grind (arith, common_steps)

pub is_loaded_before : (ms : List Module) (x : List ℕ) (i j : ℕ) → module_index ms x ≡ Some j → nat_lt j i ≡ is_loaded (take i ms) x
is_loaded_before ms x i j e = rw e at (is_loaded-at ms x i)

pub is_loaded_none : (ms : List Module) (x : List ℕ) (i : ℕ) → module_index ms x ≡ None → is_loaded (take i ms) x ≡ false
is_loaded_none ms x i e = rw e at (is_loaded-at ms x i)
