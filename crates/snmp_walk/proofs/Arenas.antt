-- If octets and a span for them are appended, the datagrams are those from before and then one more (`cut-push`).
use Rattle.std.proofs.{lemmas.Grind.common_steps, Math.Seq.drop-append_seam, lemmas.Option.slice_get-map}
use Rattle.std.proofs.Common.{◌≡◌, ℕ, zero, suc, ◌+◌, ◌-◌, ◌≤◌, List, [], ◌∷◌, ◌++◌, length, refl, ◌∙◌, ap, arith, Some, length-drop}
use Rattle.std.proofs.lemmas.List.{take-append-le, drop-append-le, take_all, map-append}
use Rattle.std.proofs.lemmas.List.Elements.{All-head, All-tail}
use Rattle.std.specs.{List.All, List.slice_get, Option.option_map}
use Rattle.snmp_walk.specs.{declared.arena.Span.Span, Arena.cut_at, Arena.cut, Traffic.datagram_at}

abbrev Within : List ℕ → Span → Type 0
Within octets s = s.start + s.len ≤ length octets

cut_at-append : (octets more : List ℕ) (s : Span) → Within octets s → cut_at (octets ++ more) s ≡ cut_at octets s
cut_at-append octets more s h = grind (arith, common_steps, drop-append-le, length-drop, take-append-le)

cut-append : (octets more : List ℕ) (spans : List Span) → All (Within octets) spans → cut (octets ++ more) spans ≡ cut octets spans
cut-append octets more [] h = refl
cut-append octets more (s ∷ spans) h =
    let here = cut_at-append octets more s (All-head (Within octets) s spans h) in
    let rest = cut-append octets more spans (All-tail (Within octets) s spans h) in
    cc

pub cut-push : (octets more : List ℕ) (spans : List Span) (s : Span) → All (Within octets) spans → s.start ≡ length octets → s.len ≡ length more
    → cut (octets ++ more) (spans ++ s ∷ []) ≡ cut octets spans ++ more ∷ []
cut-push octets more spans s h start len = grind (arith, common_steps, drop-append_seam, take_all, map-append, cut-append)

pub numbered : (sent : List (List ℕ)) (number : ℕ) → 1 ≤ number → datagram_at sent number ≡ slice_get sent (number - 1)
numbered sent zero h = let no : 1 ≤ 0 = h in absurd (omega (arith, no))
numbered sent (suc k) h = let e : suc k - 1 ≡ k = omega arith in rw e refl

pub cut_found : (octets : List ℕ) (spans : List Span) (k : ℕ) (s : Span) → slice_get spans k ≡ Some s → slice_get (cut octets spans) k ≡ Some (cut_at octets s)
cut_found octets spans k s e = slice_get-map (cut_at octets) spans k ∙ ap (option_map (cut_at octets)) e
