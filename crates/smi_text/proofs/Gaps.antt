-- Gaps are blank octets and comments. They are skipped until no gap begins.
use Rattle.std.proofs.{lemmas.Grind.common_steps, lemmas.List.drop_all}
use Rattle.std.proofs.Common.{◌≡◌, ℕ, zero, suc, ◌+◌, ◌<◌, ◌≤◌, true, false, cond, List, [], ◌∷◌, length, get_or, take, drop, refl, sym, ap, ◌∙◌, inl}
use Rattle.std.proofs.Common.{inr, arith, ◌-◌, add-zero, Option}
use Rattle.std.proofs.lemmas.Bool.{eqb-true, ne_eqb, false≢true, or_cases}
use Rattle.smi_text.specs.declared.lexer.class.Class.TheVariants as C
use Rattle.smi_text.specs.lexer.Lexeme.{Part, gap, begins, is_blank, is_hyphen}
use Rattle.std.specs.Bool.{then_some}
use Rattle.smi_text.specs.lexer.LongestMatch.{HasNoGap, IsLongestPassing, IsPartPrefix, Skips, hyphen_part, is_comment_rest, is_nothing, ArePassedBetween}
use Rattle.smi_text.specs.lexer.LongestMatch.{is_space_or_tab, newlines, part_in, part_of}
use Rattle.smi_text.proofs.{Scans.rest_at, Scans.rest_of_two, LexedItems.newlines-one, LexedItems.skips_gap, Parts.none_some}
use Rattle.smi_text.proofs.{Parts.prefix_after_first, Parts.prefix_cons, Parts.part_prefix, Scans.begins-take, Scans.hand_on}
use Rattle.smi_text.proofs.PartLaws.{blank_class, comment_one_line, comment_opens, part_is, two_hyphens}

-- ---- a blank octet

nothing_prefix : (cs : List ℕ) → IsLongestPassing is_nothing cs 0
nothing_prefix cs = grind (arith, common_steps)

pub blank_prefix : (c : ℕ) (cs : List ℕ) → is_blank c ≡ true → IsPartPrefix part_of (c ∷ cs) gap 1
blank_prefix c cs h =
    prefix_after_first c cs C.Blank (sym (blank_class c h)) gap 0 (part_prefix is_nothing (part_in C.Blank) gap cs 0 (λ s. refl) (nothing_prefix cs))

skips_blank : (text : List ℕ) (n lines more : ℕ) → n < length text → is_blank (get_or text n 0) ≡ true → newlines (get_or text n 0 ∷ []) ≡ more
    → Skips text n lines → Skips text (n + 1) (lines + more)
skips_blank text n lines more here blank ended skips = grind (arith, common_steps, rest_at, skips_gap, blank_prefix)

-- if the octets before offset `n` can be skipped, then a newline at `n` can be skipped too, and ends one more line
pub skips_newline : (text : List ℕ) (n lines : ℕ) → n < length text → get_or text n 0 ≡ 10 → Skips text n lines → Skips text (n + 1) (lines + 1)
skips_newline text n lines here newline skips = skips_blank text n lines 1 here (ap is_blank newline) (rw newline refl) skips

pub skips_other : (text : List ℕ) (n lines : ℕ) → n < length text → (get_or text n 0 ≡ 10 → ⊥) → is_blank (get_or text n 0) ≡ true
    → Skips text n lines → Skips text (n + 1) lines
skips_other text n lines here other blank skips =
    let none = newlines-one (get_or text n 0) ∙ ap (λ b. cond b 1 0) (ne_eqb (get_or text n 0) 10 other) in
    rw add-zero at (skips_blank text n lines 0 here blank none skips)

-- a space or a tab is blank, and ends no line
ends_no_line : (c : ℕ) → is_space_or_tab c ≡ true → (c ≡ 10 → ⊥) × (is_blank c ≡ true)
ends_no_line c is = grind (arith, common_steps, or_cases, eqb-true)

skips_space : (text : List ℕ) (n lines : ℕ) → n < length text → is_space_or_tab (get_or text n 0) ≡ true
    → Skips text n lines → Skips text (n + 1) lines
skips_space text n lines here is skips = grind (arith, common_steps, skips_other, ends_no_line)

-- if the octets before offset `n` can be skipped, then a space at `n` and the spaces and tabs after it, up to offset `to`, can be skipped too
pub skips_run : (text : List ℕ) (n to lines : ℕ) → n < length text → get_or text n 0 ≡ 32 → ArePassedBetween is_space_or_tab text (n + 1) to
    → Skips text n lines → Skips text to lines
skips_run text n to lines here space run skips =
    let ordered : n + 1 ≤ to = run.ordered in
    let within : to ≤ length text = run.within in
    hand_on (λ m. Skips text m lines) (to - (n + 1)) (n + 1) to (omega arith)
    (λ k above below. skips_space text k lines (omega arith) (run.passes k above below))
    (skips_space text n lines here (ap is_space_or_tab space) skips)

-- ---- comments

pub comment_part : (s : List ℕ) (n : ℕ) → IsLongestPassing is_comment_rest s n → IsPartPrefix part_of (45 ∷ 45 ∷ s) gap (2 + n)
comment_part s n prefix =
    let offset : (n + 1) + 1 ≡ 2 + n = omega arith in
    let after_hyphens : List ℕ → Option Part = λ s. then_some (is_comment_rest s) gap in
    rw offset at (prefix_after_first 45 (45 ∷ s) C.Hyphen refl gap (n + 1) (prefix_cons hyphen_part after_hyphens 45 s gap n (λ s. refl)
    (part_prefix is_comment_rest after_hyphens gap s n (λ s. refl) prefix)))

pub skips_comment : (text : List ℕ) (n lines k : ℕ) → n + 1 < length text → get_or text n 0 ≡ 45 → get_or text (n + 1) 0 ≡ 45
    → IsLongestPassing is_comment_rest (drop (n + 2) text) k → Skips text n lines → Skips text (n + (2 + k)) lines
skips_comment text n lines k here first second prefix skips =
    let after_hyphens = drop (n + 2) text in
    let rest : drop n text ≡ 45 ∷ 45 ∷ after_hyphens = rw (first, second) at (rest_of_two text n here) in
    let two : 2 + k ≡ suc (suc k) = omega arith in
    rw add-zero at (skips_gap text n lines (2 + k) 0 (rw rest (comment_part after_hyphens k prefix))
    (rw (rest, two) (comment_one_line (45 ∷ 45 ∷ take k after_hyphens) (two_hyphens (take k after_hyphens) prefix.passes))) skips)

-- ---- the end of the gaps

pub no_gap_of_nothing : HasNoGap []
unfolding part_of
no_gap_of_nothing = grind (arith, common_steps)

no_gap_at : (c : ℕ) (cs : List ℕ) → is_blank c ≡ false → (c ≡ 45 → begins is_hyphen cs ≡ false) → HasNoGap (c ∷ cs)
unfolding part_of
no_gap_at c cs plain alone zero is = none_some gap is
no_gap_at c cs plain alone (suc m) is =
    elim (part_is (c ∷ take m cs) gap is) [
      | inl (d, one, blank) ↦ false≢true (sym plain ∙ ap is_blank (let e : c ≡ d = cc in e) ∙ blank)
      | inr comment ↦
          let opens = comment_opens c (take m cs) comment in
          false≢true (sym (begins-take is_hyphen m cs (alone opens.0)) ∙ opens.1)
    ]

pub gaps_end : (text : List ℕ) (n : ℕ) → length text ≤ n → HasNoGap (drop n text)
gaps_end text n past = rw (drop_all n text past) no_gap_of_nothing

pub gaps_stop : (text : List ℕ) (n : ℕ) → n < length text → is_blank (get_or text n 0) ≡ false
    → (get_or text n 0 ≡ 45 → begins is_hyphen (drop (n + 1) text) ≡ false) → HasNoGap (drop n text)
gaps_stop text n here plain alone = rw (rest_at text n here) (no_gap_at (get_or text n 0) (drop (n + 1) text) plain alone)
