-- By `Lexes`, a text has the items that `items_at` computes for it (`lexes`), and no other list of items (`sole_items`).
use Rattle.std.proofs.{lemmas.Grind.common_steps, lemmas.Bool.cases_lt, Math.Seq.drop-append_seam, lemmas.List.Sums.sum_by-append}
use Rattle.std.proofs.Common.{◌≡◌, ℕ, zero, suc, ◌+◌, ◌<◌, ◌≤◌, Option, Some, None, Ok, List, [], ◌∷◌, ◌++◌, length, take, drop, refl, sym, ap, ◌∙◌}
use Rattle.std.proofs.Common.{⊎_elim, arith, length-append, length-take-le, length-drop, append_assoc, slice_range}
use Rattle.std.proofs.lemmas.List.{take_all, take-append-drop}
use Rattle.smi_text.specs.{lexer.Token.Item, lexer.Token.Lexeme, lexer.Token.tokens_of, lexer.Lexeme.Part, lexer.Lexeme.gap, lexer.Lexeme.lexeme}
use Rattle.smi_text.specs.lexer.Lexes.{AreInOrder, IsLongest, Lexes, breaks, ends, gives, lexeme_after, passes}
use Rattle.smi_text.specs.lexer.LongestMatch.{IsPartPrefix, items_at, longest_prefix, newlines, part_of, part_or_shorter}
use Rattle.smi_text.proofs.LexedItems.{prefix_some, items-prefix, items-none, items-nothing}
use Rattle.smi_text.proofs.{PartLaws.is_part, PartLaws.part_is, Parts.none_some}

-- ---- the longest prefix, by the relation and by the reading

none_unless : (r : Option Part) → ((part : Part) → r ≡ Some part → ⊥) → r ≡ None
none_unless r h = grind (arith, common_steps)

longest-prefix : (part : Part) (n : ℕ) (text : List ℕ) → IsPartPrefix part_of text part n → IsLongest part n text
longest-prefix part n text prefix = grind (arith, common_steps, part_is, none_some, is_part)

prefix-longest : (part : Part) (n : ℕ) (text : List ℕ) → IsLongest part n text → IsPartPrefix part_of text part n
prefix-longest part n text longest = record {
  within = longest.within;
  reads = is_part part (take n text) longest.is_one;
  longest = λ m above within. none_unless (part_of (take m text)) (λ other h. longest.longest other m above within (part_is (take m text) other h));
}

-- the result of a search is the part and the length of the longest prefix of at most `n` octets that is a part, or None if no such prefix is a part
abbrev Finds : ℕ → List ℕ → Option (Part × ℕ) → Type 0
Finds n text None = (m : ℕ) → m ≤ n → part_of (take m text) ≡ None
Finds n text (Some prefix) = (prefix.1 ≤ n) × (part_of (take prefix.1 text) ≡ Some prefix.0) × ((m : ℕ) → prefix.1 < m → m ≤ n → part_of (take m text) ≡ None)

finds_step : (n : ℕ) (text : List ℕ) (r : Option Part) (found : Option (Part × ℕ)) → part_of (take (suc n) text) ≡ r → Finds n text found
    → Finds (suc n) text (part_or_shorter (suc n) r found)
finds_step n text (Some part) found is below = (omega arith, is, λ m above within. absurd (omega arith))
finds_step n text None None is below = λ m within. ⊎_elim (λ here. ap (λ k. part_of (take k text)) (let e : m ≡ suc n = omega arith in e)
    ∙ is) (λ shorter. below m shorter) (cases_lt n m)
finds_step n text None (Some prefix) is below = (
  omega (arith, below.0),
  below.1,
  λ m above within. ⊎_elim (λ here. ap (λ k. part_of (take k text)) (let e : m ≡ suc n = omega arith in e)
      ∙ is) (λ shorter. below.2 m above shorter) (cases_lt n m),
)

finds : (n : ℕ) (text : List ℕ) → Finds n text (longest_prefix n text)
unfolding part_of
finds zero text = λ m within. let e : m ≡ 0 = omega arith in ap (λ k. part_of (take k text)) e
finds (suc n) text = finds_step n text (part_of (take (suc n) text)) (longest_prefix n text) refl (finds n text)

-- ---- offsets

-- for the items after the first `n` octets of `text`, the octets and newlines of `before` and of these `n` octets can be counted separately
line_count : (before text : List ℕ) (n : ℕ) → n ≤ length text
    → items_at 0 (length (before ++ take n text)) (newlines (before ++ take n text)) (drop n text) ≡ items_at 0 (length before + n)
    (newlines before + newlines (take n text)) (drop n text)
line_count before text n within = grind (arith, common_steps, length-append, length-take-le, sum_by-append)

-- if the search finds nothing, then no prefix is a part
none_of : (text : List ℕ) → Finds (length text) text None → (m : ℕ) → part_of (take m text) ≡ None
none_of text none m = grind (arith, common_steps, ⊎_elim, take_all, cases_lt)

-- ---- the items

-- the items that `items_at` computes are the items of the text, as `Lexes` defines them
pub lexes : (n : ℕ) (before text : List ℕ) → length text ≤ n → Lexes before text (items_at 0 (length before) (newlines before) text)
lexes n before [] within = rw (items-nothing (length before) (newlines before)) ends
lexes zero before (c ∷ cs) within = absurd (omega arith)
lexes (suc n) before (c ∷ cs) within = by_prefix (longest_prefix (length (c ∷ cs)) (c ∷ cs)) (finds (length (c ∷ cs)) (c ∷ cs)) (lexes n)
  where
    by_part : (part : Part) (k : ℕ) → IsPartPrefix part_of (c ∷ cs) part k
        → Lexes (before ++ take k (c ∷ cs)) (drop k (c ∷ cs)) (items_at 0 (length (before ++ take k (c ∷ cs))) (newlines (before ++ take k (c ∷ cs))) (drop k
        (c ∷ cs)))
        → Lexes before (c ∷ cs) (items_at 0 (length before) (newlines before) (c ∷ cs))
    by_part gap k prefix rest =
        rw (items-prefix (c ∷ cs) gap k (length before) (newlines before) prefix, ← line_count before (c ∷ cs) k prefix.within)
        (passes k (longest-prefix gap k (c ∷ cs) prefix) rest)
    by_part (lexeme kind) k prefix rest =
        rw (items-prefix (c ∷ cs) (lexeme kind) k (length before) (newlines before) prefix, ← line_count before (c ∷ cs) k prefix.within)
        (gives kind k (longest-prefix (lexeme kind) k (c ∷ cs) prefix) rest)

    by_prefix : (found : Option (Part × ℕ)) → Finds (length (c ∷ cs)) (c ∷ cs) found
        → ((before text : List ℕ) → length text ≤ n → Lexes before text (items_at 0 (length before) (newlines before) text))
        → Lexes before (c ∷ cs) (items_at 0 (length before) (newlines before) (c ∷ cs))
    by_prefix None none below =
        let all = none_of (c ∷ cs) none in
        rw (items-none c cs (length before) (newlines before) all)
        (breaks c cs (λ part m h. none_some part (sym (all m) ∙ is_part part (take m (c ∷ cs)) h)))
    by_prefix (Some found) is below =
        let prefix : IsPartPrefix part_of (c ∷ cs) found.0 found.1 = record { within = is.0; reads = is.1; longest = is.2 } in
        let some : 0 < found.1 = prefix_some (c ∷ cs) found.0 found.1 prefix in
        by_part found.0 found.1 prefix (below (before ++ take found.1 (c ∷ cs)) (drop found.1 (c ∷ cs)) (omega (arith, length-drop found.1 (c ∷ cs))))

-- the items of a text, as `Lexes` defines them, are those that `items_at` computes
pub sole_items : {before text : List ℕ} {items : List Item} → Lexes before text items → items ≡ items_at 0 (length before) (newlines before) text
sole_items (ends {before}) = sym (items-nothing (length before) (newlines before))
sole_items (passes {before} {text} {items} n longest rest) =
    sole_items rest ∙ line_count before text n longest.within ∙ sym (items-prefix text gap n (length before) (newlines before)
    (prefix-longest gap n text longest))
sole_items (gives {before} {text} {items} kind n longest rest) =
    ap (λ more. Ok (lexeme_after before kind (take n text)) ∷ more) (sole_items rest ∙ line_count before text n longest.within)
    ∙ sym (items-prefix text (lexeme kind) n (length before) (newlines before) (prefix-longest (lexeme kind) n text longest))
sole_items (breaks {before} c cs none) =
    sym (items-none c cs (length before) (newlines before) (λ m. none_unless (part_of (take m (c ∷ cs))) (λ part h. none part m (part_is (take m
    (c ∷ cs)) part h))))

pub one_list : (before text : List ℕ) (xs ys : List Item) → Lexes before text xs → Lexes before text ys → xs ≡ ys
one_list before text xs ys first second = sole_items first ∙ sym (sole_items second)

-- ---- spans

earlier : (source : List ℕ) (low high : ℕ) (tokens : List Lexeme) → low ≤ high → AreInOrder source high tokens → AreInOrder source low tokens
earlier source low high [] below h = tt
earlier source low high (t ∷ ts) below h = (omega (arith, h.0), h.1, h.2, h.3, h.4)

-- if a source is `before` followed by `text`, then the first `n` octets of `text` are the source's in the span that begins after `before`
span_of : (before text : List ℕ) (n : ℕ) → n ≤ length text → take n text ≡ slice_range (before ++ text) (length before) (length before + length (take n text))
span_of before text n within = grind (arith, common_steps, length-take-le, drop-append_seam)

pub in_order : {before text : List ℕ} {items : List Item} → Lexes before text items → AreInOrder (before ++ text) (length before) (tokens_of items)
in_order ends = tt
in_order (passes {before} {text} {items} n longest rest) =
    earlier (before ++ text) (length before) (length (before ++ take n text)) (tokens_of items) (omega (arith, length-append before (take n text)))
    (rw (append_assoc, take-append-drop) at (in_order rest))
in_order (gives {before} {text} {items} kind n longest rest) =
    grind (arith, common_steps, in_order rest, prefix_some, prefix-longest, length-take-le, length-append, span_of, append_assoc, take-append-drop)
in_order (breaks c cs none) = tt
