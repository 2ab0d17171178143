-- A vector load has 16 lanes of one octet each. If the top bit of a lane is set if and only if its octet fails a test, then the run of octets that pass ends
-- before the lowest such lane, if there is one.
use Rattle.std.proofs.Common.{◌≡◌, ℕ, ◌+◌, ◌%◌, ◌^◌, ◌≤◌, Bool, true, not, List, map, length, get_or, Fits, w8, sym, ap, ◌∙◌, arith}
use Rattle.std.proofs.{lemmas.Bool.agree_below, lemmas.Bool.agree_below_at, lemmas.Bool.not-true, lemmas.Bool.not-false, lemmas.List.length-map}
use Rattle.std.proofs.lemmas.Simd.{map-map, mask_l-mod, length-chunk, first_set_mask_l, run_in_chunk_le, run_in_chunk_fails, run_in_chunk_stops}
use Rattle.std.specs.List.{prefix_len}
use lib.Lanes.{chunk, mask_l, top}
use Rattle.smi_text.specs.lexer.LongestMatch.{IsRunIn, first_set}

-- if the top bit of each lane is set if and only if its octet fails the test, then the run ends at the lowest lane that is set, or after 16 octets if none is
pub run_in : (test : ℕ → Bool) (text : List ℕ) (at run : ℕ) (lanes : List ℕ) → at + 16 ≤ length text
    → ((k : ℕ) → Fits w8 (get_or text k 0)) → run ≡ first_set (mask_l (map (top 7) lanes) % 2 ^ 64)
    → (f : ℕ → ℕ) → lanes ≡ map f (chunk at 16 text) → agree_below (λ x. top 7 (f x)) (λ x. not (test x)) 256 ≡ true
    → IsRunIn test text at run
run_in test text at run lanes room fits found f are agree =
    let stops = λ (x : ℕ). top 7 (f x) in
    let octets = chunk at 16 text in
    let long : length octets ≡ 16 = length-chunk at 16 text room in
    let mask : mask_l (map (top 7) lanes) % 2 ^ 64 ≡ mask_l (map stops octets) = ap (λ l. mask_l l % 2 ^ 64) (ap (map (top 7)) are ∙ map-map (top 7) f octets)
    ∙ mask_l-mod (map stops octets) 64 (omega (arith, length-map octets stops, long)) in
    let counted : run ≡ prefix_len (λ x. not (stops x)) octets = found ∙ ap first_set mask ∙ first_set_mask_l stops octets 16 long (omega arith) in
    record {
      within = run_in_chunk_le stops text at 16 run 0 room counted;
      passes = λ k from to.
          not-false _ (sym (agree_below_at stops (λ x. not (test x)) 256 (get_or text k 0) agree (fits k).fits)
          ∙ run_in_chunk_fails stops text at 16 run 0 room counted k from to);
      stops = λ short.
          not-true _ (sym (agree_below_at stops (λ x. not (test x)) 256 (get_or text (at + run) 0) agree (fits (at + run)).fits)
          ∙ run_in_chunk_stops stops text at 16 run 0 room counted short);
    }
