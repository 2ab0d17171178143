-- `same_text` is true of equal strings of octets only (`same`), and of all of them (`same_itself`).
use Rattle.std.proofs.{Common.◌≡◌, Common.ℕ, Common.true, Common.List, Common.refl, lemmas.Slice.Eq.bytes_eq-Decides}
use Rattle.smi_text.specs.trees.Mark.{same_text}

pub same : (xs ys : List ℕ) → same_text xs ys ≡ true → xs ≡ ys
same xs ys e = (bytes_eq-Decides xs ys).0 e

pub same_itself : (xs : List ℕ) → same_text xs xs ≡ true
same_itself xs = (bytes_eq-Decides xs xs).1 refl
