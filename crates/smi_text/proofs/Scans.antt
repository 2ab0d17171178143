-- A scan for the longest prefix that passes a test continues after an octet that makes no difference to the test, and stops before one with which no prefix
-- passes.
use Rattle.std.proofs.{lemmas.Grind.common_steps, lemmas.List.Folds.list_all_more, lemmas.List.drop_all}
use Rattle.std.proofs.lemmas.Bool.{and_parts, eqb-true, ne_eqb, cases_lt, false_from_ne_true}
use Rattle.std.proofs.Common.{◌≡◌, ℕ, zero, suc, ◌+◌, ◌-◌, ◌<◌, ◌≤◌, Bool, true, false, List, [], ◌∷◌, length, get_or, take, drop, sym, ap, ◌∙◌}
use Rattle.std.proofs.Common.{arith, length-drop, drop-cons, add-one, add-zero, zero-add, suc-add, cond, ◌&&◌, ◌||◌, refl, subst, inl, inr}
use Rattle.std.specs.List.{list_all}
use Rattle.smi_text.specs.lexer.LongestMatch.{GoesOn, IsLongestPassing, IsRemarkEnd, is_comment_rest, IsRunBetween, is_remark_rest}
use Rattle.smi_text.specs.lexer.Lexeme.{begins, is_hyphen, is_word_octet, is_word_rest}

-- if offset `n` is before the end of a text, then the text from `n` on is the octet at `n`, and then what follows it
pub rest_at : (text : List ℕ) (n : ℕ) → n < length text → drop n text ≡ get_or text n 0 ∷ drop (n + 1) text
rest_at text n here = drop-cons text n 0 here ∙ ap (λ m. get_or text n 0 ∷ drop m text) (sym (add-one n))

pub rest_of_two : (text : List ℕ) (n : ℕ) → n + 1 < length text → drop n text ≡ get_or text n 0 ∷ get_or text (n + 1) 0 ∷ drop (n + 2) text
rest_of_two text n here = grind (arith, common_steps, rest_at)

module _ (test : List ℕ → Bool) (text : List ℕ) where
  -- if an octet makes no difference to the test, then the scan continues after it
  pub scan_step : (n : ℕ) → n < length text → ((k : ℕ) → test (get_or text n 0 ∷ take k (drop (n + 1) text)) ≡ test (take k (drop (n + 1) text)))
      → GoesOn test text n → GoesOn test text (n + 1)
  scan_step n here step before = record {
    within = omega arith;
    same = λ k.
        let offset : (n + 1) + k ≡ n + suc k = omega arith in
        ap (λ m. test (take m text)) offset ∙ before.same (suc k) ∙ ap (λ s. test (take (suc k) s)) (rest_at text n here) ∙ step k;
  }

  pub scan_two : (n : ℕ) → n + 1 < length text → ((k : ℕ)
      → test (get_or text n 0 ∷ get_or text (n + 1) 0 ∷ take k (drop (n + 2) text)) ≡ test (take k (drop (n + 2) text)))
      → GoesOn test text n → GoesOn test text (n + 2)
  scan_two n here step before = record {
    within = omega arith;
    same = λ k.
        let offset : (n + 2) + k ≡ n + suc (suc k) = omega arith in
        ap (λ m. test (take m text)) offset ∙ before.same (suc (suc k)) ∙ ap (λ s. test (take (suc (suc k)) s)) (rest_of_two text n here) ∙ step k;
  }

  pub scan_end : (n : ℕ) → test [] ≡ true → ((k : ℕ) → k < length text - n → test (take (suc k) (drop n text)) ≡ false)
      → GoesOn test text n → IsLongestPassing test text n
  scan_end n empty stop before = record {
    within = before.within;
    passes = ap (λ m. test (take m text)) (sym (add-zero n)) ∙ before.same 0 ∙ empty;
    longest = λ m above within.
        let offset : m ≡ n + suc (m - (n + 1)) = omega arith in
        ap (λ j. test (take j text)) offset ∙ before.same (suc (m - (n + 1))) ∙ stop (m - (n + 1)) (omega arith);
  }

  -- if the empty list passes the test, and no list passes that begins with the octet at `n` and continues as the text does, then the scan stops before this
  -- octet
  pub scan_stop : (n : ℕ) → n < length text → test [] ≡ true → ((k : ℕ) → test (get_or text n 0 ∷ take k (drop (n + 1) text)) ≡ false)
      → GoesOn test text n → IsLongestPassing test text n
  scan_stop n here empty stop before =
      scan_end n empty (λ k h. ap (λ s. test (take (suc k) s)) (rest_at text n here) ∙ stop k) before

-- A prefix of `n` octets or more passes `test` if and only if its octets after the first `n` pass `inner`. If the longest prefix of the text after `n` octets
-- that passes `inner` has `k` octets, then the longest prefix of the text that passes `test` has `n + k`.
pub longest_after : (test inner : List ℕ → Bool) (text : List ℕ) (n k : ℕ) → n ≤ length text
    → ((j : ℕ) → test (take (n + j) text) ≡ inner (take j (drop n text)))
    → IsLongestPassing inner (drop n text) k → IsLongestPassing test text (n + k)
longest_after test inner text n k within same prefix = record {
  within = omega (arith, length-drop n text, prefix.within);
  passes = same k ∙ prefix.passes;
  longest = λ m above below.
      let offset : m ≡ n + (m - n) = omega arith in
      ap (λ j. test (take j text)) offset ∙ same (m - n) ∙ prefix.longest (m - n) (omega arith) (omega (arith, length-drop n text));
}

-- if an octet that passes `p`, put before a list, never changes whether the list passes `test`, then neither do `n` such octets at the start of a text
pub goes_on_past : (test : List ℕ → Bool) (p : ℕ → Bool) → ((c : ℕ) (s : List ℕ) → p c ≡ true → test (c ∷ s) ≡ test s)
    → (n : ℕ) (text : List ℕ) → n ≤ length text → list_all p (take n text) ≡ true
    → (k : ℕ) → test (take (n + k) text) ≡ test (take k (drop n text))
goes_on_past test p step zero text within pass k = ap (λ m. test (take m text)) (zero-add k)
goes_on_past test p step (suc n) [] within pass k = absurd (omega arith)
goes_on_past test p step (suc n) (c ∷ cs) within pass k =
    let both = and_parts (p c) (list_all p (take n cs)) pass in
    ap (λ m. test (take m (c ∷ cs))) (suc-add n k) ∙ step c (take (n + k) cs) both.0 ∙ goes_on_past test p step n cs (omega arith) both.1 k

-- ---- small facts

-- if `from` has a property, and each number from `from` up to `to` hands it on to the next, then `to` has it
pub hand_on : (P : ℕ → Type 0) (d from to : ℕ) → from + d ≡ to → ((k : ℕ) → from ≤ k → k < to → P k → P (k + 1)) → P from → P to
hand_on P zero from to e step p = subst P (let f : from ≡ to = omega (arith, e) in f) p
hand_on P (suc d) from to e step p = hand_on P d (from + 1) to (omega (arith, e)) (λ k above below. step k (omega arith) below) (step from (omega arith)
    (omega (arith, e)) p)

pub begins-take : (test : ℕ → Bool) (k : ℕ) (s : List ℕ) → begins test s ≡ false → begins test (take k s) ≡ false
begins-take test (suc k) (c ∷ cs) h = h
begins-take test _ _ h = refl

-- if `n` is at or past the end of the text, then no octet that passes a test is at `n`
pub begins_past : (test : ℕ → Bool) (text : List ℕ) (n : ℕ) → length text ≤ n → begins test (drop n text) ≡ false
begins_past test text n past = ap (begins test) (drop_all n text past)

pub begins_at : (test : ℕ → Bool) (text : List ℕ) (n : ℕ) → n < length text → begins test (drop n text) ≡ test (get_or text n 0)
begins_at test text n here = ap (begins test) (rest_at text n here)

-- ---- octets that all pass

pub passing_step : (p : ℕ → Bool) (text : List ℕ) (n : ℕ) → n < length text → p (get_or text n 0) ≡ true
    → GoesOn (list_all p) text n → GoesOn (list_all p) text (n + 1)
passing_step p text n here pass = scan_step (list_all p) text n here (λ k. ap (λ b. b && list_all p (take k (drop (n + 1) text))) pass)

pub passing_stop : (p : ℕ → Bool) (text : List ℕ) (n : ℕ) → n < length text → p (get_or text n 0) ≡ false
    → GoesOn (list_all p) text n → IsLongestPassing (list_all p) text n
passing_stop p text n here fail = scan_stop (list_all p) text n here refl (λ k. ap (λ b. b && list_all p (take k (drop (n + 1) text))) fail)

-- ---- a hyphen without a certain octet after it

pub hyphen_alone : (next : ℕ → Bool) (c k : ℕ) (s : List ℕ) → (c ≡ 45 → begins next s ≡ false) → (is_hyphen c && begins next (take k s)) ≡ false
hyphen_alone next c k s alone = grind (arith, common_steps, begins-take, eqb-true)

-- ---- words

-- a letter, digit or `_` continues the rest of a word
pub word_step : (text : List ℕ) (n : ℕ) → n < length text → is_word_octet (get_or text n 0) ≡ true
    → GoesOn is_word_rest text n → GoesOn is_word_rest text (n + 1)
word_step text n here pass =
    let rest = λ (k : ℕ). take k (drop (n + 1) text) in
    scan_step is_word_rest text n here (λ k. ap (λ b. (b || (is_hyphen (get_or text n 0) && begins is_word_octet (rest k))) && is_word_rest (rest k)) pass)

-- a hyphen that a letter, digit or `_` follows continues the rest of a word, together with this octet
pub hyphen_step : (text : List ℕ) (n : ℕ) → n + 1 < length text → get_or text n 0 ≡ 45 → is_word_octet (get_or text (n + 1) 0) ≡ true
    → GoesOn is_word_rest text n → GoesOn is_word_rest text (n + 2)
hyphen_step text n here hyphen pass = scan_two is_word_rest text n here (λ k. rw (hyphen, pass) refl)

pub word_stop : (text : List ℕ) (n : ℕ) → n < length text → is_word_octet (get_or text n 0) ≡ false
    → (get_or text n 0 ≡ 45 → begins is_word_octet (drop (n + 1) text) ≡ false)
    → GoesOn is_word_rest text n → IsLongestPassing is_word_rest text n
word_stop text n here fail next =
    scan_stop is_word_rest text n here refl (λ k. rw (fail, hyphen_alone is_word_octet (get_or text n 0) k (drop (n + 1) text) next) refl)

-- a run of letters, digits and `_` continues the rest of a word up to the end of the run
pub word_run_goes : (text : List ℕ) (from to : ℕ) → GoesOn is_word_rest text from → IsRunBetween is_word_octet text from to
    → GoesOn is_word_rest text to
word_run_goes text from to goes run =
    let ordered : from ≤ to = run.ordered in
    let within : to ≤ length text = run.within in
    hand_on (GoesOn is_word_rest text) (to - from) from to (omega arith) (λ k above below. word_step text k (omega arith) (run.passes k above below)) goes

pub goes_from_start : (test : List ℕ → Bool) (text : List ℕ) → GoesOn test text 0
goes_from_start test text = record { within = omega arith; same = λ k. ap (λ m. test (take m text)) (zero-add k) }

-- a word ends before an octet that is neither a letter, digit or `_` nor a hyphen before one
pub word_ends : (text : List ℕ) (n : ℕ) → (n < length text → is_word_octet (get_or text n 0) ≡ false)
    → (n + 1 < length text → get_or text n 0 ≡ 45 → is_word_octet (get_or text (n + 1) 0) ≡ false)
    → GoesOn is_word_rest text n → IsLongestPassing is_word_rest text n
word_ends text n stops next goes = elim (cases_lt n (length text)) [
  | inl here ↦ word_stop text n here (stops here)
      (λ hyphen. elim (cases_lt (n + 1) (length text)) [
        | inl more ↦ begins_at is_word_octet text (n + 1) more ∙ next more hyphen
        | inr past ↦ begins_past is_word_octet text (n + 1) past
      ])
      goes
  | inr past ↦ scan_end is_word_rest text n refl (λ k h. absurd (omega arith)) goes
]

-- ---- remarks

-- an octet continues a remark if it is neither a newline nor a hyphen before another hyphen
pub remark_step : (text : List ℕ) (n : ℕ) → n < length text → (get_or text n 0 ≡ 10 → ⊥)
    → (get_or text n 0 ≡ 45 → begins is_hyphen (drop (n + 1) text) ≡ false)
    → GoesOn is_remark_rest text n → GoesOn is_remark_rest text (n + 1)
remark_step text n here plain alone =
    scan_step is_remark_rest text n here
    (λ k. rw (ne_eqb (get_or text n 0) 10 plain, hyphen_alone is_hyphen (get_or text n 0) k (drop (n + 1) text) alone) refl)

-- if `s` begins where a remark ends, then a prefix of `s` is the rest of a remark if and only if it consists of hyphens
pub closing_run : (k : ℕ) (s : List ℕ) → IsRemarkEnd s → is_remark_rest (take k s) ≡ list_all is_hyphen (take k s)
closing_run zero s h = refl
closing_run (suc zero) s h = grind (arith, common_steps)
closing_run (suc (suc k)) s h = grind (arith, common_steps)

-- ---- comments

-- if `s` doesn't begin with a hyphen, then a prefix of `s` is the rest of a comment if and only if it is the rest of a remark
pub remark_begins : (k : ℕ) (s : List ℕ) → begins is_hyphen s ≡ false → is_comment_rest (take k s) ≡ is_remark_rest (take k s)
remark_begins (suc k) (c ∷ cs) h = ap (λ b. cond b (is_comment_rest (take k cs)) (is_remark_rest (c ∷ take k cs))) h
remark_begins _ _ h = refl

-- no hyphen follows the longest run of hyphens at the start of a text
pub run_closed : (text : List ℕ) (n : ℕ) → IsLongestPassing (list_all is_hyphen) text n → begins is_hyphen (drop n text) ≡ false
run_closed text n prefix = grind (arith, common_steps, cases_lt, begins_at, false_from_ne_true, list_all_more, begins_past)

-- After the first two hyphens of a comment, its longest rest is `o` hyphens, as many as there are, then `n` octets of a remark up to its end, and then `r`
-- hyphens, as many as there are.
pub comment_prefix : (text remark closing : List ℕ) (o n r : ℕ) → IsLongestPassing (list_all is_hyphen) text o → remark ≡ drop o text
    → n ≤ length remark → GoesOn is_remark_rest remark n → IsRemarkEnd (drop n remark) → closing ≡ drop n remark
    → IsLongestPassing (list_all is_hyphen) closing r
    → IsLongestPassing is_comment_rest text (o + (n + r))
comment_prefix text remark closing o n r opening remark_is within goes ends closing_is run =
    longest_after is_comment_rest is_remark_rest text o (n + r) opening.within
    (λ k. goes_on_past is_comment_rest is_hyphen (λ c s h. ap (λ b. cond b (is_comment_rest s) (is_remark_rest
    (c ∷ s))) h) o text opening.within opening.passes k
    ∙ remark_begins k (drop o text) (run_closed text o opening))
    (subst (λ s. IsLongestPassing is_remark_rest s (n + r)) remark_is
    (longest_after is_remark_rest (list_all is_hyphen) remark n r within (λ k. goes.same k ∙ closing_run k (drop n remark) ends)
    (subst (λ s. IsLongestPassing (list_all is_hyphen) s r) closing_is run)))
