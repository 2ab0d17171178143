-- If a line has no bar, or none outside quotes, then no bar ends a name on it (`no_end_first`, `no_end_second`). The first line decides on the format
-- (`marked_by_first`).
use Rattle.std.proofs.Common.{arith, ◌≡◌, ◌↔◌, ℕ, List, [], ◌∷◌, Option, None, MatchOption, codes}
use Rattle.std.proofs.lemmas.Grind.{common_steps}
use Rattle.snmp_io.specs.Quotes.{HasNoneOutside}
use Rattle.snmp_agent.specs.table.Exact.{IsOnly}
use Rattle.snmp_agent.specs.table.Format.{HasNoEnd, IsLeadingName, IsMarked, IsNameIn, Names, bar, first_format, second_format}
use Rattle.snmp_agent.proofs.Cuts.{HasNoBar, no_cut}

-- ---- names of a reader

-- if a reader of names returns `None` for a string, then the string isn't a name in the second format
pub no_name : (names : Names) (text : List ℕ) → IsLeadingName names text None → IsOnly (IsNameIn (second_format names) text) None
no_name names text h = grind (arith, common_steps)

-- ---- the end of a name

pub no_end_first : (line : List ℕ) → HasNoBar line → HasNoEnd first_format line
no_end_first line none = λ name rest e ends. no_cut line name rest none e

pub no_end_second : (names : Names) (line : List ℕ) → HasNoneOutside bar line → HasNoEnd (second_format names) line
no_end_second names line none = λ name rest e ends. none name rest e ends.0

-- ---- the mark

abbrev first_line : List (List ℕ) → List ℕ
first_line [] = []
first_line (line ∷ more) = line

pub marked_by_first : (all : List (List ℕ)) (line : List ℕ) (more : List (List ℕ)) → all ≡ line ∷ more
    → (line ≡ codes "#snmptab 2" ↔ IsMarked all)
marked_by_first all line more e = grind (arith, common_steps)

-- ---- what is found

pub match_weaker : {X A B : Type 0} (r : Option X) (P Q : X → Type 0) → (A → B) → ((x : X) → P x → Q x) → MatchOption r A P → MatchOption r B Q
match_weaker r P Q none some h = grind (arith, common_steps)
