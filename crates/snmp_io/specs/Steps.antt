-- Work as steps in their order, and the first of them that fails.
use Rattle.std.specs.Prelude.{◌≡◌, ◌++◌, List, [], ◌∷◌}

-- each of the steps is done
abbrev pub AreDone : {Step : Type 0} → (Step → Type 0) → List Step → Type 0
AreDone {Step} IsDone [] = Unit {0}
AreDone {Step} IsDone (step ∷ more) = IsDone step × AreDone IsDone more

-- `why` is the reason of the first step that fails; the steps before it are done. `Fails step why`
-- says that the step fails for this reason.
pub record IsFirstToFail {Step Why : Type 0} (steps : List Step) (IsDone : Step → Type 0)
    (Fails : Step → Why → Type 0) (why : Why) : Type 0 where
  pub done : List Step
  pub failed : Step
  pub left : List Step
  pub order : steps ≡ done ++ failed ∷ left
  pub are_done : AreDone IsDone done
  pub fails : Fails failed why
