-- Only one increasing list has exactly the set bits of a value of BITS (`same_bits`), and `octet_bits` of each octet in turn shows them (`bits_shown`).
use Rattle.std.proofs.{lemmas.Grind.common_steps, lemmas.List.get_or_default, lemmas.List.Kept.AllPairs-filter, lemmas.Map.Made.Contains-tail}
use Rattle.std.proofs.Common.{◌≡◌, ℕ, zero, suc, ◌+◌, ◌-◌, ◌*◌, ◌/◌, ◌%◌, ◌^◌, ◌<◌, ◌≤◌, Bool, true, eqb, List, [], ◌∷◌, ◌++◌, length, get_or, refl}
use Rattle.std.proofs.Common.{sym, ◌∙◌, ap, arith, append_assoc}
use Rattle.std.specs.{Prelude.Contains, Prelude.codes, List.filter, List.flat_map, List.enumerate_from, List.range_with_len}
use Rattle.std.proofs.lemmas.Bool.{cond_both, eqb-true, eq-eqb}
use Rattle.std.proofs.lemmas.List.Elements.{All-contains, All-filter, filter_passes}
use Rattle.std.proofs.lemmas.List.FromFn.{get_or-range_with_len, length-range_with_len}
use Rattle.smi_text.specs.declared.trees.tree.NamedNumber.{NamedNumber}
use Rattle.smi_value.specs.{declared.letters.Letters.Letters, Texts.hexadecimal_text}
use Rattle.smi_value.specs.Pieces.{AreSetBits, IsBitSet, IsBitsText, bit_text, octet_bits, set_bit_text, type_word}

-- ---- increasing numbers

abbrev Rises : List ℕ → Type 0
Rises ns = (i j : ℕ) → i < j → j < length ns → get_or ns i 0 < get_or ns j 0

after : (n : ℕ) (ns : List ℕ) (m : ℕ) → Contains ns m → Contains (n ∷ ns) m
after n ns m (i, l, e) = (suc i, omega arith, e)

below : (n : ℕ) (ns : List ℕ) (m : ℕ) → Rises (n ∷ ns) → Contains ns m → n < m
below n ns m h (i, l, e) = let less = h 0 (suc i) (omega arith) (omega arith) in omega (arith, e, get_or_default ns i 0 m l)

least : (n : ℕ) (ns : List ℕ) (m : ℕ) → Rises (n ∷ ns) → Contains (n ∷ ns) m → n ≤ m
least n ns m h (zero, l, e) = omega (arith, e)
least n ns m h (suc i, l, e) = let less = below n ns m h (i, omega arith, e) in omega arith

-- if two increasing lists contain the same numbers, then they are equal
one_list : (xs ys : List ℕ) → Rises xs → Rises ys → ((n : ℕ) → Contains xs n → Contains ys n) → ((n : ℕ) → Contains ys n → Contains xs n) → xs ≡ ys
one_list [] [] h k to back = refl
one_list [] (y ∷ ys) h k to back = let there = back y (0, omega arith, refl) in absurd (omega (arith, there.1))
one_list (x ∷ xs) [] h k to back = let there = to x (0, omega arith, refl) in absurd (omega (arith, there.1))
one_list (x ∷ xs) (y ∷ ys) h k to back =
    let low = least x xs y h (back y (0, omega arith, refl)) in
    let high = least y ys x k (to x (0, omega arith, refl)) in
    let same : x ≡ y = omega arith in
    let rest = one_list xs ys (λ i j l w. h (suc i) (suc j) (omega arith) (omega arith)) (λ i j l w. k (suc i) (suc j) (omega arith) (omega arith))
    (λ n there. let more = below x xs n h there in Contains-tail y ys n (λ e. omega arith) (to n (after x xs n there)))
    (λ n there. let more = below y ys n k there in Contains-tail x xs n (λ e. omega arith) (back n (after y ys n there))) in
    λ i. same i ∷ rest i

pub same_bits : (octets a b : List ℕ) → AreSetBits octets a → AreSetBits octets b → a ≡ b
same_bits octets a b h k = one_list a b h.rising k.rising (λ n there. k.all n (h.set n there)) (λ n there. h.all n (k.set n there))

-- ---- the numbers m with s m = 1, among the `count` numbers from n on

kept : (p : ℕ → Bool) (ns : List ℕ) (m : ℕ) → p m ≡ true → Contains ns m → Contains (filter p ns) m
kept p [] m pass there = there
kept p (n ∷ ns) m pass (zero, l, e) = let here : p n ≡ true = ap p e ∙ pass in rw here (0, omega arith, e)
kept p (n ∷ ns) m pass (suc i, l, e) =
    let rest = kept p ns m pass (i, omega arith, e) in
    cond_both (p n) (n ∷ filter p ns) (filter p ns) (λ ms. Contains ms m) (λ yes. after n (filter p ns) m rest) (λ no. rest)

abbrev picked : (ℕ → ℕ) → ℕ → ℕ → List ℕ
picked s n count = filter (λ m. eqb (s m) 1) (range_with_len n count)

module _ (s : ℕ → ℕ) (count : ℕ) where
  at : (i d : ℕ) → i < length (range_with_len 0 count) → (i < count) × (get_or (range_with_len 0 count) i d ≡ i)
  at i d low = let within : i < count = omega (arith, length-range_with_len 0 count) in (within, omega (arith, get_or-range_with_len 0 count i d within))

  picked-rises : Rises (picked s 0 count)
  picked-rises i j l w = AllPairs-filter (λ m n. m < n) (λ m. eqb (s m) 1) (range_with_len 0 count)
      (λ i j d less low. omega (arith, at i d (omega arith), at j d low)) i j 0 l w

  picked-is : (m : ℕ) → Contains (picked s 0 count) m → (m < count) × (s m ≡ 1)
  picked-is m there =
      let all = All-filter (λ n. eqb (s n) 1) (λ n. n < count) (range_with_len 0 count) (λ i d low. omega (arith, at i d low)) in
      let passes = filter_passes (λ n. eqb (s n) 1) (range_with_len 0 count) in (
        All-contains (λ n. n < count) (picked s 0 count) m all there,
        eqb-true (s m) 1 (All-contains (λ n. eqb (s n) 1 ≡ true) (picked s 0 count) m passes there),
      )

  is-picked : (m : ℕ) → m < count → s m ≡ 1 → Contains (picked s 0 count) m
  is-picked m low set = kept (λ n. eqb (s n) 1) (range_with_len 0 count) m (eq-eqb (s m) 1 set)
      (m, omega (arith, length-range_with_len 0 count), omega (arith, get_or-range_with_len 0 count m m low))

-- ---- the bits of octets

digit : ℕ → ℕ → ℕ
digit octet j = octet / 2 ^ (7 - j) % 2

bit : List ℕ → ℕ → ℕ
bit octets n = digit (get_or octets (n / 8) 0) (n % 8)

bit-at : (octets : List ℕ) (n k j : ℕ) → n ≡ 8 * k + j → j < 8 → bit octets n ≡ digit (get_or octets k 0) j
unfolding bit
bit-at octets n k j e l = let index : n / 8 ≡ k = omega arith in let within : n % 8 ≡ j = omega arith in cc

set_bits : List ℕ → List ℕ
set_bits octets = picked (bit octets) 0 (8 * length octets)

digit_set : (octet j : ℕ) → octet / 2 ^ (7 - j) % 2 ≡ 1 → digit octet j ≡ 1
unfolding digit
digit_set octet j e = e

is_set : (octets : List ℕ) (n : ℕ) → (n < 8 * length octets) × (bit octets n ≡ 1) → IsBitSet octets n
unfolding bit digit
is_set octets n (l, e) = record { k = n / 8; j = n % 8; index = omega arith; octet = omega arith; within = omega arith; set = e }

are_set : (octets : List ℕ) → AreSetBits octets (set_bits octets)
unfolding set_bits
are_set octets = record {
  rising = picked-rises (bit octets) (8 * length octets);
  set = λ n there. is_set octets n (picked-is (bit octets) (8 * length octets) n there);
  all = λ n h. is-picked (bit octets) (8 * length octets) n (omega (arith, h.index, h.octet, h.within))
      (bit-at octets n h.k h.j h.index h.within ∙ digit_set (get_or octets h.k 0) h.j h.set);
}

-- ---- the text of the set bits

module _ (letters : Letters) (names : List NamedNumber) where
  shown : (ℕ → ℕ) → ℕ → ℕ → List ℕ
  shown s n count = flat_map (set_bit_text letters names) (picked s n count)

  -- if bit `n`, with `m` the same number, is `a`, and `rest` is the text of those of the next `count` bits that are set, then the text of bit `m` followed by
  -- `rest` is the text of those of the `count + 1` bits from `n` on that are set
  one_more : (s : ℕ → ℕ) (n count m a : ℕ) (rest : List ℕ) → n ≡ m → s n ≡ a → shown s (n + 1) count ≡ rest
      → shown s n (suc count) ≡ bit_text letters names m a ++ rest
  unfolding shown
  one_more s n count m a rest e f g = grind (arith, common_steps)

  octet_shown : (s : ℕ → ℕ) (k n octet count : ℕ) (rest : List ℕ) → n ≡ 8 * k → ((j m : ℕ) → j < 8 → m ≡ n + j → s m ≡ digit octet j)
      → shown s (n + 1 + 1 + 1 + 1 + 1 + 1 + 1 + 1) count ≡ rest
      → shown s n (suc (suc (suc (suc (suc (suc (suc (suc count)))))))) ≡ octet_bits letters names (k, octet) ++ rest
  unfolding digit
  octet_shown s k n octet count rest e h g =
      let last : octet / 2 ^ (7 - 7) % 2 ≡ octet % 2 = omega arith in
      one_more s n _ (8 * k) _ _ e (h 0 _ (omega arith) (omega arith)) (
      one_more s _ _ (8 * k + 1) _ _ (omega arith) (h 1 _ (omega arith) (omega arith)) (
      one_more s _ _ (8 * k + 2) _ _ (omega arith) (h 2 _ (omega arith) (omega arith)) (
      one_more s _ _ (8 * k + 3) _ _ (omega arith) (h 3 _ (omega arith) (omega arith)) (
      one_more s _ _ (8 * k + 4) _ _ (omega arith) (h 4 _ (omega arith) (omega arith)) (
      one_more s _ _ (8 * k + 5) _ _ (omega arith) (h 5 _ (omega arith) (omega arith)) (
      one_more s _ _ (8 * k + 6) _ _ (omega arith) (h 6 _ (omega arith) (omega arith)) (
      one_more s _ _ (8 * k + 7) _ _ (omega arith) (h 7 _ (omega arith) (omega arith) ∙ last) g)))))))
      ∙ simp append_assoc

  octets_shown : (s : ℕ → ℕ) (k n : ℕ) (octets : List ℕ) → n ≡ 8 * k
      → ((i j m : ℕ) → i < length octets → j < 8 → m ≡ n + 8 * i + j → s m ≡ digit (get_or octets i 0) j)
      → shown s n (8 * length octets) ≡ flat_map (octet_bits letters names) (enumerate_from k octets)
  unfolding shown
  octets_shown s k n [] e h = refl
  octets_shown s k n (octet ∷ octets) e h =
      let count : 8 * length (octet ∷ octets) ≡ suc (suc (suc (suc (suc (suc (suc (suc (8 * length octets)))))))) = omega arith in
      let rest = octets_shown s (k + 1) (n + 1 + 1 + 1 + 1 + 1 + 1 + 1 + 1) octets (omega arith)
      (λ i j m l w is. h (suc i) j m (omega arith) w (omega arith)) in
      ap (shown s n) count ∙ octet_shown s k n octet (8 * length octets) _ e (λ j m l is. h 0 j m (omega arith) l (omega arith)) rest

  pub bits_shown : (octets : List ℕ) → IsBitsText letters names octets (type_word letters (codes "BITS: ") ++ hexadecimal_text octets
      ++ flat_map (octet_bits letters names) (enumerate_from 0 octets))
  unfolding set_bits shown
  bits_shown octets = record {
    bits = set_bits octets;
    are = are_set octets;
    whole = ap (λ t. type_word letters (codes "BITS: ") ++ hexadecimal_text octets ++ t)
        (sym (octets_shown (bit octets) 0 0 octets refl (λ i j m l w is. bit-at octets m i j (omega (arith, is)) w)));
  }

  pub bits_once : (octets a b : List ℕ) → IsBitsText letters names octets a → IsBitsText letters names octets b → a ≡ b
  bits_once octets a b h k = grind (arith, common_steps, same_bits)
