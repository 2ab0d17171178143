-- What is known of files.
use Rattle.std.specs.Prelude.{◌≡◌, ⊤, ℕ, List, Option, Some, None}

-- for each path, what it is known to hold: `Some (Some text)` for a text, `Some None` for no text,
-- None if that isn't known
abbrev pub Holdings : Type 0
Holdings = List ℕ → Option (Option (List ℕ))

-- If it is known what a path holds (the first argument), then this is `text`. None for `text`
-- means that the path holds no text.
abbrev pub HoldsIfKnown : Option (Option (List ℕ)) → Option (List ℕ) → Type 0
HoldsIfKnown None text = ⊤
HoldsIfKnown (Some held) text = held ≡ text

-- the file at the path is known to hold the text
abbrev pub Holds : Holdings → (path text : List ℕ) → Type 0
Holds files path text = files path ≡ Some (Some text)

-- the path holds the text, as far as is known
abbrev pub MayHold : Holdings → (path text : List ℕ) → Type 0
MayHold files path text = HoldsIfKnown (files path) (Some text)

-- the path holds no text, as far as is known
abbrev pub MayHoldNone : Holdings → (path : List ℕ) → Type 0
MayHoldNone files path = HoldsIfKnown (files path) None
