-- A text that an output takes piece by piece.
use Rattle.std.proofs.Common.{◌≡◌, ◌∙◌, ◌+◌, ◌-◌, ◌++◌, ℕ, List, take, drop, length, ap, sym, subst, length-drop}
use Rattle.std.proofs.{Math.Seq.take-add, Math.Seq.take-length, lemmas.List.take-append-drop}
use Rattle.snmp_io.specs.{Count.HasIncreased, Output.FailsWithin, Output.Stream, Output.stream_after, Streams.stream_after-twice}

pub rest_whole : (w : ℕ) (text : List ℕ) → take (length text - w) (drop w text) ≡ drop w text
rest_whole w text = ap (λ n. take n (drop w text)) (sym (length-drop w text)) ∙ take-length (drop w text)

-- if the first `w` octets of the text were taken, and then the next `n` (or all that follow, if these are fewer), then the first `w + n` were taken (or all)
pub extended_take : (before now after : Stream) (w n : ℕ) (text : List ℕ) → now ≡ stream_after before (take w text)
    → after ≡ stream_after now (take n (take (length text - w) (drop w text))) → after ≡ stream_after before (take (w + n) text)
extended_take before now after w n text first more =
    more
    ∙ ap (λ (s : Stream). stream_after s (take n (take (length text - w) (drop w text)))) first
    ∙ stream_after-twice before (take w text) _
    ∙ ap (λ rest. stream_after before (take w text ++ take n rest)) (rest_whole w text)
    ∙ ap (stream_after before) (sym (take-add w n text))

-- if w octets of the text were taken and then a write failed, then a write failed after a prefix of the text (`FailsWithin`)
pub fails_after_prefix : (before now after : Stream) (w : ℕ) (text : List ℕ) → now ≡ stream_after before (take w text)
    → after.taken ≡ now.taken → HasIncreased now.faults after.faults → FailsWithin before text after
fails_after_prefix before now after w text is nothing risen = record {
  begun = record {
    prefix = take w text;
    rest = drop w text;
    parts = sym (take-append-drop w text);
    taken = nothing ∙ ap (λ (s : Stream). s.taken) is;
  };
  counted = let P : ℕ → Type 0 = λ n. HasIncreased n after.faults in subst P (ap (λ (s : Stream). s.faults) is) risen;
}
