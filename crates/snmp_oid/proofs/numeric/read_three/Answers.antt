use Rattle.std.proofs.{lemmas.Grind.common_steps, lemmas.List.take_all, lemmas.List.length-drop}
use Rattle.std.proofs.Common.{◌≡◌, ℕ, ◌+◌, ◌-◌, ◌≤◌, true, List, [], ◌∷◌, ◌++◌, length, drop, get_or, refl, arith, append_assoc}
use Rattle.std.proofs.lemmas.List.Elements.{All-cons, All-nil}
use Rattle.std.specs.Char.{is_ascii_digit}
use Rattle.snmp_oid.specs.Numeric.{dot, AreDigitsRead}
use Rattle.snmp_oid.proofs.numeric.read_three.Goals as goal

-- a text of at least six octets is its first six, followed by the others
prefix_six : (text : List ℕ) → 6 ≤ length text
    → text ≡ get_or text 0 0 ∷ get_or text 1 0 ∷ get_or text 2 0 ∷ get_or text 3 0 ∷ get_or text 4 0 ∷ get_or text 5 0 ∷ drop 6 text
prefix_six [] long = absurd (omega arith)
prefix_six (a ∷ []) long = absurd (omega arith)
prefix_six (a ∷ b ∷ []) long = absurd (omega arith)
prefix_six (a ∷ b ∷ c ∷ []) long = absurd (omega arith)
prefix_six (a ∷ b ∷ c ∷ d ∷ []) long = absurd (omega arith)
prefix_six (a ∷ b ∷ c ∷ d ∷ e ∷ []) long = absurd (omega arith)
prefix_six (a ∷ b ∷ c ∷ d ∷ e ∷ f ∷ rest) long = refl

pushed : (before one two after : List ℕ) (a b c : ℕ) → one ≡ before ++ a ∷ [] → two ≡ one ++ b ∷ [] → after ≡ two ++ c ∷ []
    → after ≡ before ++ a ∷ b ∷ c ∷ []
pushed before one two after a b c first second third = grind (arith, common_steps, append_assoc)

abbrev is_digit : ℕ → Type 0
is_digit digit = is_ascii_digit digit ≡ true

three_read : (text rest before after : List ℕ) (a p b q c r first second third : ℕ) → text ≡ a ∷ p ∷ b ∷ q ∷ c ∷ r ∷ rest → p ≡ dot → q ≡ dot → r ≡ dot
    → is_ascii_digit a ≡ true → is_ascii_digit b ≡ true → is_ascii_digit c ≡ true → first ≡ a - 48 → second ≡ b - 48 → third ≡ c - 48
    → length before + 3 ≤ 128 → after ≡ before ++ first ∷ second ∷ third ∷ [] → AreDigitsRead 3 text rest before after
three_read text rest before after a p b q c r first second third is dot_a dot_b dot_c is_a is_b is_c is_first is_second is_third room numbers = record {
  digits = a ∷ b ∷ c ∷ [];
  size = refl;
  are = All-cons is_digit a (b ∷ c ∷ []) is_a (All-cons is_digit b (c ∷ []) is_b (All-cons is_digit c [] is_c (All-nil is_digit)));
  parts = cc (is, dot_a, dot_b, dot_c);
  room = room;
  numbers = cc (numbers, is_first, is_second, is_third);
}

pub returns-in-46-clause-three : goal.returns-in-46-clause-three
returns-in-46-clause-three c = grind (arith, common_steps, take_all, length-drop, three_read, prefix_six, pushed)
