-- The modules that files hold, and why module files can't be loaded.
use Rattle.std.specs.Prelude.{◌≡◌, ◌≢◌, ◌⊎◌, ◌++◌, ℕ, List, [], ◌∷◌, map}
use Rattle.std.specs.Borrow.{Bor}
use Rattle.snmp_io.specs.{Files.Holdings, Files.MayHold, Files.MayHoldNone, Steps.IsFirstToFail}
use Rattle.smi_text.specs.{declared.trees.tree.Module.Module, declared.error.ParseError.ParseError}
use Rattle.smi_text.specs.Text.{HasNoDoubles, IsCause, AreSpelledBy}
use Rattle.smi_text.specs.declared.error.ParseError.TheVariants as error

-- the texts that the references point to
abbrev pub texts : List (Bor (List ℕ)) → List (List ℕ)
texts paths = map (λ path. path.now) paths

-- The text of the file at `path` spells the modules `ms`, and no module defines a name twice.
-- `Held path text` says that the file at the path holds the text.
abbrev pub AreModulesIn : (Held : (path text : List ℕ) → Type 0) → (path : List ℕ) → List Module
    → Type 0
AreModulesIn Held path ms = (text : List ℕ) × Held path text × AreSpelledBy ms text
    × HasNoDoubles ms

-- `ms` are the modules of the files at `paths`, one file after the other
abbrev pub AreModulesOf : (Held : (path text : List ℕ) → Type 0) → (paths : List (List ℕ))
    → List Module → Type 0
AreModulesOf Held [] ms = ms ≡ []
AreModulesOf Held (path ∷ more) ms =
    (first : List Module) × (rest : List Module) × AreModulesIn Held path first
    × AreModulesOf Held more rest × (ms ≡ first ++ rest)

-- as far as is known, the file at `path` holds modules
abbrev pub MayHoldModules : Holdings → (path : List ℕ) → Type 0
MayHoldModules files path = (modules : List Module) × AreModulesIn (MayHold files) path modules

-- why module files can't be loaded
pub data Refusal : Type 0 where
  unreadable : (path : List ℕ) → Refusal
  faulty : (path : List ℕ) → ParseError → Refusal
  no_memory : Refusal

-- As far as is known, the file at `path` can't be read, or its text has a fault. `why` says which
-- of the two, and which fault.
abbrev pub FileFails : Holdings → (path : List ℕ) → Refusal → Type 0
FileFails files path why =
    (MayHoldNone files path × (why ≡ unreadable path))
    ⊎ ((text : List ℕ) × (fault : ParseError) × MayHold files path text
    × (fault ≢ error.Memory) × IsCause fault text × (why ≡ faulty path fault))

-- `why` is the reason of the first of the files at `paths` that fails; as far as is known, the
-- files before it hold modules
abbrev pub FilesFail : Holdings → (paths : List (List ℕ)) → Refusal → Type 0
FilesFail files paths why = IsFirstToFail paths (MayHoldModules files) (FileFails files) why

-- `why` is why the files aren't loaded: memory ran out, or a file failed (`FilesFail`)
abbrev pub IsFilesRefusal : Holdings → (paths : List (List ℕ)) → Refusal → Type 0
IsFilesRefusal files paths why = (why ≡ no_memory) ⊎ FilesFail files paths why
