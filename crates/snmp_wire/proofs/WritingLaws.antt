-- What successive writing functions do to a slice, from its end to its start. For proofs about
-- values and messages.
use Rattle.std.proofs.{lemmas.Grind.common_steps, lemmas.List.take-take, lemmas.List.drop_more}
use Rattle.std.proofs.Common.{◌≡◌, ℕ, ◌+◌, ◌-◌, ◌<◌, ◌≤◌, suc, zero, List, [], ◌∷◌, ◌++◌, length, take, drop, get_or, sym, ap, ◌∙◌, arith}
use Rattle.std.proofs.Common.{append_assoc, length-append}
use Rattle.std.specs.List.{flat_map}
use Rattle.snmp_wire.specs.ber.Writing.{Writes}

-- if a prefix is unchanged, so is each shorter prefix
pub kept : (k start : ℕ) (old new : List ℕ)
    → k ≤ start → take start new ≡ take start old → take k new ≡ take k old
kept k start old new h e =
    sym (take-take k start new h) ∙ ap (take k) e ∙ take-take k start old h

-- if `prefix` is written before `back`, both together are written
pub writes_then : {old : List ℕ} {start middle end : ℕ} {prefix back mid new : List ℕ}
    → Writes old middle end back mid → Writes mid start middle prefix new
    → Writes old start end (prefix ++ back) new
writes_then {old} {start} {middle} {end} {prefix} {back} {mid} {new} w v = grind (arith, common_steps, length-append, kept, append_assoc)

-- if `text` is written, so is any string that equals it
pub writes_same : {old : List ℕ} {start end : ℕ} {text new other : List ℕ}
    → Writes old start end text new → text ≡ other → Writes old start end other new
writes_same {old} {start} {end} {text} {new} {other} w e = grind (arith, common_steps)

-- ---- pieces, one for each element of a list, written from the last to the first

-- the pieces from index `i` on are the piece at `i` and the pieces after it
pub flat_map-drop : {X : Type 0} (f : X → List ℕ) (xs : List X) (i : ℕ) (x d : X)
    → i < length xs → x ≡ get_or xs i d
    → flat_map f (drop i xs) ≡ f x ++ flat_map f (drop (i + 1) xs)
flat_map-drop f xs i x d h e = grind (arith, common_steps, drop_more)

-- the pieces from index `i` on are as long as the piece at `i` and the pieces after it
pub length-flat_map_drop : {X : Type 0} (f : X → List ℕ) (xs : List X) (i : ℕ) (x d : X)
    → i < length xs → x ≡ get_or xs i d
    → length (flat_map f (drop i xs)) ≡ length (f x) + length (flat_map f (drop (i + 1) xs))
length-flat_map_drop f xs i x d h e = grind (arith, common_steps, flat_map-drop, length-append)

-- the pieces from index `i` on are no longer than all pieces
pub flat_map_rest : {X : Type 0} (f : X → List ℕ) (xs : List X) (i : ℕ)
    → length (flat_map f (drop i xs)) ≤ length (flat_map f xs)
flat_map_rest f xs zero = omega arith
flat_map_rest f [] (suc i) = omega arith
flat_map_rest f (x ∷ xs) (suc i) = grind (arith, common_steps, flat_map_rest f xs i, length-append)

-- if the pieces from index `i` on were written, and then the piece before them, then the pieces from `i - 1` on were written
pub writes_piece : {X : Type 0} {old mid new : List ℕ} {start middle end : ℕ}
    (f : X → List ℕ) (xs : List X) (i : ℕ) (x d : X)
    → 0 < i → i ≤ length xs → x ≡ get_or xs (i - 1) d
    → Writes old middle end (flat_map f (drop i xs)) mid → Writes mid start middle (f x) new
    → Writes old start end (flat_map f (drop (i - 1) xs)) new
writes_piece f xs i x d some h e w v =
    let next : i - 1 + 1 ≡ i = omega arith in
    writes_same (writes_then w v) (sym (flat_map-drop f xs (i - 1) x d (omega arith) e
    ∙ ap (λ k. f x ++ flat_map f (drop k xs)) next))

-- if there is room for all pieces, and those from index `i` on are written, then there is room for
-- the piece at `i - 1` before them
pub piece_fits : {X : Type 0} {old mid : List ℕ} {middle end : ℕ}
    (f : X → List ℕ) (xs : List X) (i : ℕ) (x d : X)
    → 0 < i → i ≤ length xs → x ≡ get_or xs (i - 1) d
    → Writes old middle end (flat_map f (drop i xs)) mid → length (flat_map f xs) ≤ end
    → length (f x) ≤ middle
piece_fits f xs i x d some h e w room =
    let next : i - 1 + 1 ≡ i = omega arith in
    let suffix = ap (λ k. length (flat_map f (drop k xs))) next in
    omega (arith, length-flat_map_drop f xs (i - 1) x d (omega arith) e, suffix, flat_map_rest f xs (i - 1), w.begins)

-- if the pieces from index 0 on are written, then all pieces are
pub writes_pieces : {X : Type 0} {old new : List ℕ} {start end : ℕ}
    (f : X → List ℕ) (xs : List X) (i : ℕ) → i ≤ 0
    → Writes old start end (flat_map f (drop i xs)) new
    → Writes old start end (flat_map f xs) new
writes_pieces f xs i h w = grind (arith, common_steps, writes_same)
