-- The formats of tokens that are stored as they are, and of the names of an INDEX, are lawful. The format `up_to n`, of at most n names, is made of other
-- formats, and reads what `read_index n` reads.
use Rattle.std.proofs.lemmas.Grind.{common_steps}
use Rattle.std.proofs.Common.{◌≡◌, ℕ, zero, suc, ◌≤◌, nat_le, Bool, true, false, List, [], ◌∷◌, length, Option, Some, None, if◌then◌else◌, refl, sym}
use Rattle.std.proofs.Common.{◌∙◌, arith, inl, inr, ◌⊎◌, ◌&&◌, not, Ok}
use Rattle.std.specs.Prelude.{codes, ◌==◌, map}
use Rattle.smi_text.specs.declared.lexer.token.TokenKind.TheVariants as K
use Rattle.smi_text.specs.{lexer.Token.Item, declared.trees.names.Name.Name, trees.Spelling.of_balanced, declared.trees.tree.TokenText.TokenText}
use Rattle.smi_text.specs.trees.Mark.{Mark, sign, spelled, same_kind, same_text}
use Rattle.smi_text.specs.private.Format.{Format, ItemsMatch, a_word, a_kind, begins, preceded, either, maybe, pair, shaped, token, lower, no_word}
use Rattle.smi_text.specs.private.Format.{no_kind, prepend}
use Rattle.smi_text.specs.private.Grammar.{index_parts, implied_name, index_names, read_index, with_names, depth_after, is_outside, balanced_tokens}
use Rattle.smi_text.specs.private.Grammar.{before_assign, before_end, read_balanced}
use Rattle.smi_text.specs.trees.Spelling as say
use Rattle.smi_text.proofs.{Productions.formats, Lawful.Lawful, Many.ItemsMatch-length, Braces.is_balanced, Braces.prefixes_counted}
use Rattle.smi_text.proofs.Marks.{begins-append, begins-none, if-inv, map-inv}
use Rattle.smi_text.proofs.Laws.{never-matched, lower-law, pair-law, maybe-law, either-law, made-law, after-word, after-sign, some-inj, same-token}
use Rattle.smi_text.proofs.Laws.{kept-law}
use Rattle.smi_text.specs.declared.trees.tree.IndexParts.{IndexParts}
use Rattle.std.proofs.lemmas.Bool.{and_parts, and_from, or_parts, not-true, not-false}

-- the names of an INDEX, made of what was read: a last name after IMPLIED (`inl`), or a name without IMPLIED and the names after its comma, if any (`inr`)
abbrev to_names : Name ⊎ (Name × Option IndexParts) → IndexParts
to_names (inl x) = index_parts (x ∷ []) true
to_names (inr (x, None)) = index_parts (x ∷ []) false
to_names (inr (x, Some p)) = index_parts (x ∷ p.names) p.implied

-- an index of at most n names
abbrev up_to : ℕ → Format IndexParts
up_to zero = record { read = λ ts. None; first = a_word (codes "IMPLIED") ∷ a_kind K.Lower ∷ []; stop = []; empty = false }
up_to (suc n) = shaped to_names (either implied_name (pair lower (maybe (preceded (token K.Comma) (up_to n)))))

abbrev of_up_to : ℕ → IndexParts → List Mark
of_up_to n p = if nat_le (length p.names) n then say.of_index_names p.names p.implied else say.nothing

-- the spelling of the pieces of an index, if `s` is the spelling of the names after a comma
abbrev of_pieces : (IndexParts → List Mark) → Name ⊎ (Name × Option IndexParts) → List Mark
of_pieces s (inl x) = say.word (codes "IMPLIED") ∷ say.lower x ∷ []
of_pieces s (inr p) = say.lower p.0 ∷ say.of_option (λ q. sign K.Comma ∷ s q) p.1

forth : (n : ℕ) (ts rest : List Item) (x : Name ⊎ (Name × Option IndexParts)) → ItemsMatch (of_pieces (of_up_to n) x) ts rest
    → ItemsMatch (of_up_to (suc n) (to_names x)) ts rest
forth n ts rest x h = grind (arith, common_steps, never-matched)

back : (n : ℕ) (xs : List Name) (b : Bool) (ts rest : List Item) → ItemsMatch (of_up_to (suc n) (index_parts xs b)) ts rest
    → (x : Name ⊎ (Name × Option IndexParts)) × (to_names x ≡ index_parts xs b) × ItemsMatch (of_pieces (of_up_to n) x) ts rest
back n [] b ts rest h = absurd (grind (arith, common_steps, never-matched))
back n (x ∷ []) true ts rest h = (inl x, refl, grind (arith, common_steps, never-matched))
back n (x ∷ []) false ts rest h = (inr (x, None), refl, grind (arith, common_steps, never-matched))
back n (x ∷ (y ∷ ys)) b ts rest h = (inr (x, Some (index_parts (y ∷ ys) b)), refl, grind (arith, common_steps, never-matched))

law : (n : ℕ) → Lawful (of_up_to n) (up_to n)
unfolding formats
law zero = grind (arith, common_steps, never-matched)
law (suc n) = made-law
    (either-law {u = of_pieces (of_up_to n)} (after-word lower-law) (pair-law lower-law (maybe-law (after-sign (law n)) refl) refl) refl)
    (forth n) (λ ts rest p h. back n p.names p.implied ts rest h)

-- with the same bound, the format `up_to n` and `read_index` read the same
reads : (n : ℕ) (ts : List Item) → (up_to n).read ts ≡ read_index n ts
unfolding formats read_index with_names
reads zero ts = refl
reads (suc n) ts = grind (arith, common_steps, reads n)

stops : (n : ℕ) (rest : List Item) → begins (a_kind K.Comma ∷ []) rest ≡ false → begins (up_to n).stop rest ≡ false
unfolding formats
stops zero rest h = begins-none rest
stops (suc n) rest h = grind (arith, common_steps, begins-append, stops n rest h)

-- the spelling of the names of an index is `nothing`, or has at least as many marks as there are names
few : (xs : List Name) (b : Bool) → say.of_index_names xs b ≡ say.nothing ⊎ (length xs ≤ length (say.of_index_names xs b))
few [] b = inl refl
few (x ∷ []) b = inr (grind arith)
few (x ∷ (y ∷ ys)) b = inr (grind (arith, common_steps, few (y ∷ ys) b))

-- the number of tokens is a bound on the names that they spell, so tokens that match the names match them within this bound
bounded : (x : IndexParts) (ts rest : List Item) → ItemsMatch (say.of_index_names x.names x.implied) ts rest
    → ItemsMatch (of_up_to (suc (length ts)) x) ts rest
bounded x ts rest h =
    grind (arith, common_steps, few x.names x.implied, ItemsMatch-length (say.of_index_names x.names x.implied) ts rest h, never-matched)

pub index_names-law : Lawful (λ (p : IndexParts). say.of_index_names p.names p.implied) index_names
index_names-law = unfold index_names formats in record {
  takes = λ ts rest x h. let n = suc (length ts) in grind (arith, common_steps, (law n).takes ts rest x (reads n ts ∙ h), never-matched);
  again = λ x ts rest h k. let n = suc (length ts) in sym (reads n ts) ∙ (law n).again x ts rest (bounded x ts rest h) (stops n rest k);
  starts = λ x ts rest h. (law (suc (length ts))).starts x ts rest (bounded x ts rest h);
}

-- ---- runs of tokens that are stored as they are

pub before_assign-law : Lawful (λ (x : TokenText). spelled x.kind x.text (not (same_kind x.kind K.Assign)) ∷ []) before_assign
unfolding before_assign
before_assign-law = kept-law (no_kind K.Assign ∷ []) (λ k x. not (same_kind k K.Assign)) (λ t h. grind arith)

pub before_end-law : Lawful (λ (x : TokenText). spelled x.kind x.text (not (same_kind x.kind K.Upper && same_text x.text (codes "END"))) ∷ [])
    before_end
unfolding before_end
before_end-law =
    kept-law (no_word (codes "END") ∷ []) (λ k x. not (same_kind k K.Upper && same_text x (codes "END"))) (λ t h. grind arith)

abbrev raw_marks : List TokenText → List Mark
raw_marks xs = map (λ x. spelled x.kind x.text true) xs

balanced_tokens-takes : (depth : ℕ) (ts rest : List Item) (xs : List TokenText) → read_balanced depth ts ≡ Some (xs, rest)
    → (is_balanced depth xs ≡ true) × ItemsMatch (raw_marks xs) ts rest
unfolding read_balanced is_balanced prepend
balanced_tokens-takes depth (Ok t ∷ ts) rest xs h =
    elim (if-inv (is_outside t.kind depth) (Some ([], Ok t ∷ ts)) _ (Some (xs, rest)) h) [
      | inl p ↦ grind (arith, common_steps, some-inj, and_parts)
      | inr p ↦
          let r = map-inv _ (read_balanced (depth_after t.kind depth) ts) (xs, rest) p.1 in
          grind (arith, common_steps, and_from, balanced_tokens-takes (depth_after t.kind depth) ts r.0.1 r.0.0 r.1)
    ]
balanced_tokens-takes depth _ rest xs h = grind (arith, common_steps, if-inv, some-inj)

balanced_tokens-end : (depth : ℕ) (rest : List Item) → depth == 0 ≡ true → begins (no_kind K.CloseBrace ∷ []) rest ≡ false
    → read_balanced depth rest ≡ Some ([], rest)
unfolding read_balanced begins
balanced_tokens-end depth rest d s = grind (arith, common_steps, and_from, not-false, or_parts)

balanced_tokens-again : (depth : ℕ) (xs : List TokenText) (ts rest : List Item) → is_balanced depth xs ≡ true → ItemsMatch (raw_marks xs) ts rest
    → begins (no_kind K.CloseBrace ∷ []) rest ≡ false → read_balanced depth ts ≡ Some (xs, rest)
unfolding is_balanced read_balanced prepend
balanced_tokens-again depth [] ts rest b h s = rw h (balanced_tokens-end depth rest b s)
balanced_tokens-again depth (x ∷ xs) ts rest b h s =
    grind (arith, common_steps, and_parts, not-true, same-token, balanced_tokens-again (depth_after x.kind depth) xs)

balanced_tokens-starts : (xs : List TokenText) (ts rest : List Item) → is_balanced 0 xs ≡ true → ItemsMatch (raw_marks xs) ts rest
    → (begins (no_kind K.CloseBrace ∷ []) ts ≡ true) ⊎ (ts ≡ rest)
unfolding begins is_balanced
balanced_tokens-starts [] ts rest b h = inr h
balanced_tokens-starts (x ∷ xs) ts rest b h = grind (arith, common_steps, and_parts)

balanced_tokens-pieces : (xs : List TokenText) (ts rest : List Item) → ItemsMatch (of_balanced xs) ts rest
    → (is_balanced 0 xs ≡ true) × ItemsMatch (raw_marks xs) ts rest
balanced_tokens-pieces xs ts rest h = grind (arith, common_steps, is_balanced, never-matched, prefixes_counted)

pub balanced_tokens-law : Lawful of_balanced balanced_tokens
unfolding balanced_tokens
balanced_tokens-law = record {
  takes = λ ts rest xs h. let p = balanced_tokens-takes 0 ts rest xs h in rw (prefixes_counted xs, p.0) p.1;
  again = λ xs ts rest h s. let p = balanced_tokens-pieces xs ts rest h in balanced_tokens-again 0 xs ts rest p.0 p.1 s;
  starts = grind (arith, common_steps, balanced_tokens-pieces, balanced_tokens-starts);
}
