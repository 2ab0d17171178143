-- If a draft grows by one text and then by another, then it grows by both (`grows_both`); if it doesn't change, then it grows by the empty text
-- (`grows_none`, `adds_none`).
use Rattle.std.proofs.lemmas.Grind.{common_steps}
use Rattle.std.proofs.Common.{◌≡◌, ℕ, List, [], ◌++◌, refl, sym, append_assoc, append-nil, Bool, true, ◌∷◌, length, arith}
use Rattle.std.specs.Bool.{◌==◌}
use Rattle.snmp_io.specs.Draft.{Written, Grows, Adds}

pub grows_none : (old : Written) → Grows old [] old
grows_none old = record { before = refl; added = λ text e. (text, e, sym (append-nil text)) }

pub grows_both : (first middle last : Written) (prefix back : List ℕ) → Grows first prefix middle → Grows middle back last → Grows first (prefix ++ back) last
grows_both first middle last prefix back h k = grind (arith, common_steps, append_assoc)

pub adds_from : (old new : Written) (text : List ℕ) → Grows old text new → Adds old text new
adds_from old new text h = record { grows = h; goes_on = λ first prefix k. grows_both first old new prefix text k h }

-- if nothing changes, then the empty text is appended
pub adds_none : (old : Written) → Adds old [] old
adds_none old = adds_from old old [] (grows_none old)

-- if a test says that a list has the length 0, then the list is empty
pub none_left : (b : Bool) (xs : List ℕ) → b ≡ (length xs == 0) → b ≡ true → xs ≡ []
none_left b [] e f = refl
none_left b (x ∷ xs) e f = grind (arith, common_steps)
