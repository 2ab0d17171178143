-- An exit by `?` has the fault of its failure as its outcome (`outcome_err`, `outcome_as`, `if_err`). What holds of a load of the files at `given` holds of a
-- load of a job's module files, if the paths are equal (`loads_from`, `loads_of`, `mibs_fail`).
use Rattle.std.proofs.Common.{arith, ◌≡◌, ◌⊎◌, inl, inr, refl, ap, ℕ, List, Bor, Option, Some, Result, Ok, Err, subst, sym}
use Rattle.std.proofs.lemmas.Grind.{common_steps}
use Rattle.std.specs.{Prelude.IfErr, Result.IsErrAnd}
use Rattle.smi_text.specs.declared.trees.tree.Module.{Module}
use Rattle.smi_tree.specs.Tree.{Contents}
use Rattle.snmp_io.specs.{Files.Holdings, Files.Holds, Files.MayHold, Output.Stream}
use Rattle.snmp_tools.specs.load.Files.{AreModulesOf, IsFilesRefusal, Refusal, no_memory, texts}
use Rattle.snmp_tools.specs.load.Loaded.{IsLoaded, LoadFacts}
use Rattle.snmp_tools.specs.{Asking.MibsFail, load.Loaded.AreLoaded, declared.failure.Failure.Failure}
use Rattle.snmp_tools.specs.FaultText.{Fault, bad_modules, fault_of, modules_fault, out_of_memory, outcome_of}

-- if a `?` returns the failure `f`, the outcome is its fault
pub outcome_err : {T : Type 0} (r : Result T Failure) (f : Failure) → IsErrAnd r (λ e. e ≡ f) → outcome_of r ≡ Some (fault_of f)
outcome_err (Ok x) f h = absurd h
outcome_err (Err e) f h = ap (λ (x : Failure). Some (fault_of x)) h

-- if the failure that is returned has the fault `why`, the outcome is `why`
pub outcome_as : {T : Type 0} (r : Result T Failure) (why : Fault) → IsErrAnd r (λ e. fault_of e ≡ why) → outcome_of r ≡ Some why
outcome_as (Ok x) why h = absurd h
outcome_as (Err e) why h = ap Some h

pub if_err : {T : Type 0} (P : Failure → Type 0) (r : Result T Failure) (f : Failure) → IsErrAnd r (λ e. e ≡ f) → P f → IfErr r P
if_err P (Ok x) f h p = absurd h
if_err P (Err e) f h p = subst P (sym h) p

-- if two lists of paths are equal, then a load of the files at one is a load of the files at the other
pub loads_from : (files : Holdings) (given paths : List (Bor (List ℕ))) (tree : Contents) (before after : Stream) → given ≡ paths
    → IsLoaded (MayHold files) (texts given) tree before after → IsLoaded (MayHold files) (texts paths) tree before after
loads_from files given paths tree before after same =
    subst (λ (ps : List (Bor (List ℕ))). IsLoaded (MayHold files) (texts ps) tree before after) same

pub loads_of : (Loads : LoadFacts) (given paths : List (Bor (List ℕ))) (before after : Stream) → given ≡ paths
    → Loads (texts given) before after → Loads (texts paths) before after
loads_of Loads given paths before after same = subst (λ (ps : List (Bor (List ℕ))). Loads (texts ps) before after) same

-- if module files can't be loaded, then the job's fault is that memory ran out, or it is as `MibsFail` says
module _ (files : Holdings) (given paths : List (Bor (List ℕ))) (same : given ≡ paths) where
  abbrev HasOnly : Refusal → Type 0
  HasOnly why = (modules : List Module) → AreModulesOf (Holds files) (texts given) modules → why ≡ no_memory

  by_fault : (why : Refusal) → (why ≡ no_memory → ⊥) → modules_fault why ≡ bad_modules why → IsFilesRefusal files (texts given) why → HasOnly why
      → (modules_fault why ≡ out_of_memory) ⊎ MibsFail files (texts paths) (modules_fault why)
  by_fault why some is (inl none) only = absurd (some none)
  by_fault why some is (inr fails) only = grind (arith, common_steps)

  pub mibs_fail : (why : Refusal) → IsFilesRefusal files (texts given) why → HasOnly why
      → (modules_fault why ≡ out_of_memory) ⊎ MibsFail files (texts paths) (modules_fault why)
  mibs_fail no_memory refused only = inl refl
  mibs_fail why refused only = by_fault why (λ e. let no : ⊥ = cc in no) refl refused only
