-- If each octet of a string is plain, and the form isn't `Hexadecimal`, then the string is shown unchanged between quotes (`shown_where_plain`); octets
-- that pass the tests by SIMD are plain (`plain_lanes`).
use Rattle.std.proofs.{lemmas.Grind.common_steps, lemmas.List.length-map}
use Rattle.std.proofs.Common.{◌≡◌, ℕ, suc, ◌+◌, ◌%◌, ◌^◌, ◌≤◌, Bool, true, false, cond, ltb, eqb, List, [], ◌∷◌, length, get_or, map, replicate, w8}
use Rattle.std.proofs.Common.{refl, sym, ap, ◌∙◌, arith, ◌||◌, not}
use Rattle.std.specs.{Bool.◌==◌, Bool.OnTrue, List.flat_map, List.list_all}
use Rattle.std.proofs.lemmas.Bool.{and_parts, and_from, not-true, eqb-true, OnTrue_from}
use Rattle.std.proofs.lemmas.Simd.{length-chunk, bitmask_splat, tops_compared, zip2_splat_left, mask_l-mod, none_from_empty_mask}
use lib.Lanes.{chunk, mask_l, zip2, top}
use Rattle.smi_value.specs.{declared.letters.StringForm.StringForm, Texts.is_printable, Texts.escape_octet}
use Rattle.smi_value.specs.declared.letters.StringForm.TheVariants as strings
use Rattle.smi_value.specs.Pieces.{ArePlain, IsShownPlain, is_plain, printable_or_dot}

-- if at most 64 lanes are tested against `y`, with `y` on the left, then the mask has one bit for each lane: the result of its test
left_mask : (t : ℕ → ℕ → Bool) (lanes : List ℕ) (n y : ℕ) → length lanes ≡ n → n ≤ 64
    → mask_l (map (top 7) (zip2 (λ a b. cond (t a b) 255 0) (replicate n y) lanes)) % 2 ^ 64 ≡ mask_l (map (λ x. t y x) lanes)
left_mask t lanes n y long few =
    ap (λ l. mask_l l % 2 ^ 64) (tops_compared w8 t (replicate n y) lanes ∙ zip2_splat_left t y n lanes long)
    ∙ mask_l-mod (map (λ x. t y x) lanes) 64 (omega (arith, length-map lanes (λ x. t y x)))

plain_by_tests : (octet : ℕ) → ltb octet 32 ≡ false → ltb 126 octet ≡ false → eqb octet 34 ≡ false → eqb octet 92 ≡ false → is_plain octet ≡ true
plain_by_tests octet low high quote backslash = grind (arith, common_steps)

-- the masks of the `n` octets from offset `at` on: which of them are below `y`, above `y` and equal to `y`
abbrev mask_below : List ℕ → ℕ → ℕ → ℕ → ℕ
mask_below octets at n y = mask_l (map (top 7) (zip2 (λ a b. cond (ltb a b) 255 0) (chunk at n octets) (replicate n y))) % 2 ^ 64

abbrev mask_above : List ℕ → ℕ → ℕ → ℕ → ℕ
mask_above octets at n y = mask_l (map (top 7) (zip2 (λ a b. cond (ltb a b) 255 0) (replicate n y) (chunk at n octets))) % 2 ^ 64

abbrev mask_equal : List ℕ → ℕ → ℕ → ℕ → ℕ
mask_equal octets at n y = mask_l (map (top 7) (zip2 (λ a b. cond (eqb a b) 255 0) (chunk at n octets) (replicate n y))) % 2 ^ 64

lanes_pass : (octets : List ℕ) (at n : ℕ) → at + n ≤ length octets → n ≤ 64 → mask_below octets at n 32 ≡ 0 → mask_above octets at n 126 ≡ 0
    → mask_equal octets at n 34 ≡ 0 → mask_equal octets at n 92 ≡ 0 → ArePlain octets at (at + n)
lanes_pass octets at n room few low high quote backslash k from to =
    let lanes : List ℕ = chunk at n octets in
    let long : length lanes ≡ n = length-chunk at n octets room in
    let a = sym (bitmask_splat w8 ltb lanes n 32 long few) ∙ low in
    let b = sym (left_mask ltb lanes n 126 long few) ∙ high in
    let c = sym (bitmask_splat w8 eqb lanes n 34 long few) ∙ quote in
    let d = sym (bitmask_splat w8 eqb lanes n 92 long few) ∙ backslash in
    plain_by_tests (get_or octets k 0)
    (none_from_empty_mask (λ x. ltb x 32) octets at n 0 room a k from to)
    (none_from_empty_mask (λ x. ltb 126 x) octets at n 0 room b k from to)
    (none_from_empty_mask (λ x. eqb x 34) octets at n 0 room c k from to)
    (none_from_empty_mask (λ x. eqb x 92) octets at n 0 room d k from to)

-- if none of the `n` octets from offset `at` on, at most 64, is below 32, above 126 or `"`, and a test says that none is a backslash, then they are plain
pub plain_lanes : (octets : List ℕ) (at n : ℕ) → at + n ≤ length octets → n ≤ 64 → mask_below octets at n 32 ≡ 0 → mask_above octets at n 126 ≡ 0
    → mask_equal octets at n 34 ≡ 0 → OnTrue (mask_equal octets at n 92 == 0) (ArePlain octets at (at + n))
plain_lanes octets at n room few low high quote =
    let all : (mask_equal octets at n 92 == 0) ≡ true → ArePlain octets at (at + n) = λ e.
    lanes_pass octets at n room few low high quote (eqb-true (mask_equal octets at n 92) 0 e) in
    OnTrue_from (mask_equal octets at n 92 == 0) (ArePlain octets at (at + n)) all

shown_same : (octets : List ℕ) → ArePlain octets 0 (length octets)
    → (list_all is_printable octets ≡ true) × (flat_map (λ octet. escape_octet (printable_or_dot octet)) octets ≡ octets)
shown_same [] h = (refl, refl)
shown_same (octet ∷ more) h =
    let first : is_plain octet ≡ true = h 0 (omega arith) (omega arith) in
    let here = and_parts (is_printable octet) (not ((octet == 34) || (octet == 92))) first in
    let bare : ((octet == 34) || (octet == 92)) ≡ false = not-true _ here.1 in
    let rest = shown_same more (λ k low high. h (suc k) (omega arith) (omega arith)) in
    (and_from (is_printable octet) (list_all is_printable more) here.0 rest.0, rw (here.0, bare) (ap (λ (t : List ℕ). octet ∷ t) rest.1))

shown_plain : (form : StringForm) (octets : List ℕ) → (form ≡ strings.Hexadecimal → ⊥) → ArePlain octets 0 (length octets) → IsShownPlain form octets
shown_plain strings.Plain octets text h = let same = shown_same octets h in record { text = same.0; same = same.1 }
shown_plain strings.Hexadecimal octets text h = absurd (text refl)
shown_plain strings.Text octets text h = record { text = refl; same = (shown_same octets h).1 }

pub shown_where_plain : (b : Bool) (form : StringForm) (octets : List ℕ) → (form ≡ strings.Hexadecimal → ⊥) → OnTrue b (ArePlain octets 0 (length octets))
    → OnTrue b (IsShownPlain form octets)
shown_where_plain true form octets text h = shown_plain form octets text h
shown_where_plain false form octets text h = tt
