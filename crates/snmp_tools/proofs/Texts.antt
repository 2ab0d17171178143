-- Lemmas about texts that are appended one after the other, and about texts that were printed or not.
use Rattle.std.proofs.Common.{arith, ◌≡◌, ◌∙◌, ◌+◌, ◌<◌, ap, ℕ, List, [], ◌∷◌, ◌++◌, Option, Some, None, inl, inr, Bor, sym, append_assoc, drop}
use Rattle.std.proofs.Common.{get_or, length, take}
use Rattle.std.proofs.{lemmas.Grind.common_steps, lemmas.List.drop_more, lemmas.List.map-append, lemmas.List.take-append-drop, lemmas.List.take_more}
use Rattle.snmp_io.specs.{Draft.Written, Draft.Adds, Output.Stream, Output.stream_after}
use Rattle.snmp_words.specs.Words.{texts_at}
use Rattle.snmp_tools.specs.{Lines.IsTextPrinted, Lines.StopsAtText, FaultText.Fault}

-- if `a` is appended and then `b`, then `a ++ b` is appended
pub adds_both : (old middle new : Written) (a b : List ℕ) → Adds old a middle → Adds middle b new → Adds old (a ++ b) new
adds_both old middle new a b one two = grind (arith, common_steps, append_assoc)

-- if `a` is appended and then `b ++ c`, then `a ++ b ++ c` is appended
pub adds_after : (old middle new : Written) (a b c : List ℕ) → Adds old a middle → Adds middle (b ++ c) new → Adds old (a ++ b ++ c) new
adds_after old middle new a b c one two = grind (arith, common_steps, append_assoc, adds_both)

-- the first `i + 1` texts are the first `i` and the one at index `i`
pub texts-more : (texts : List (Bor (List ℕ))) (i : ℕ) (d : Bor (List ℕ)) → i < length texts
    → texts_at (take (i + 1) texts) ≡ texts_at (take i texts) ++ (get_or texts i d).now ∷ []
texts-more texts i d inside = grind (arith, common_steps, take_more, map-append)

-- all texts are those before index `i`, the one there, and those after it
pub texts-parts : (texts : List (Bor (List ℕ))) (i : ℕ) (d : Bor (List ℕ)) → i < length texts
    → texts_at texts ≡ texts_at (take i texts) ++ (get_or texts i d).now ∷ texts_at (drop (i + 1) texts)
texts-parts texts i d inside =
    ap texts_at (sym (take-append-drop i texts))
    ∙ map-append (λ (p : Bor (List ℕ)). p.now) (take i texts) (drop i texts)
    ∙ ap (λ (rest : List (Bor (List ℕ))). texts_at (take i texts) ++ texts_at rest) (drop_more texts i d inside)

-- if no fault is reported, the text was printed
pub printed : (before after : Stream) (text line : List ℕ) (fault : Option Fault) → text ≡ line → fault ≡ None → IsTextPrinted before text after fault
    → after ≡ stream_after before line
printed before after text line fault same none (inl (is, e)) = is ∙ ap (stream_after before) same
printed before after text line fault same none (inr (inl (kept, e))) = let no : ⊥ = cc in absurd no
printed before after text line fault same none (inr (inr (fails, e))) = let no : ⊥ = cc in absurd no

-- if `text` wasn't printed for the reason `why`, and a `?` returns this reason, then `StopsAtText` holds of `line`, which is `text`, and this reason
pub stopped : (before after : Stream) (text line : List ℕ) (fault returned : Option Fault) (why : Fault) → text ≡ line → fault ≡ Some why
    → returned ≡ Some why → IsTextPrinted before text after fault → StopsAtText before line after returned
stopped before after text line fault returned why same some is (inl (taken, e)) = let no : ⊥ = cc in absurd no
stopped before after text line fault returned why same some is (inr (inl (kept, e))) = inl (kept, cc)
stopped before after text line fault returned why same some is (inr (inr (fails, e))) = grind (arith, common_steps)
