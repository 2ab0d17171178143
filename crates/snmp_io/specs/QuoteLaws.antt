-- Quotes octet by octet, for proofs here and in the crates above: a text is closed if and only if
-- no quote is open after it (`none_open`, `is_closed`), and it is cut outside quotes in at most
-- one way (`cut_once`).
use Rattle.std.specs.Prelude.{◌≡◌, ◌≢◌, ℕ, Bool, true, false}
use Rattle.std.specs.Prelude.{All, List, [], ◌∷◌, ◌++◌, Option, Some, None}
use Rattle.std.specs.List.{concat}
use Rattle.std.proofs.Common.{◌∙◌, ap, inl, inr, refl, sym, subst, cond, nat_eq}
use Rattle.std.proofs.lemmas.List.{append_assoc}
use Rattle.std.proofs.lemmas.Bool.{eq-eqb, eqb-false, eqb-true, ne_eqb}
use Rattle.std.proofs.lemmas.List.Elements.{All-cons, All-head, All-nil, All-tail}
use Rattle.snmp_io.specs.Quotes.{is_quote, open_after, HasNoneOutside, IsClosed, IsCut, IsPiece}

-- the quote that is open after the octets, if any; `quote` is the one open before them, if any
abbrev pub quote_after : Option ℕ → List ℕ → Option ℕ
quote_after quote [] = quote
quote_after quote (octet ∷ more) = quote_after (open_after quote octet) more

pub quote_after_both : (quote : Option ℕ) (prefix back : List ℕ)
    → quote_after quote (prefix ++ back) ≡ quote_after (quote_after quote prefix) back
quote_after_both quote [] back = refl
quote_after_both quote (octet ∷ prefix) back = quote_after_both (open_after quote octet) prefix back

-- if the octet `quote` isn't among `inside`, then a quote that is open before `inside` is closed by
-- the `quote` after it
closed_by : (quote : ℕ) (inside : List ℕ) → All (λ octet. octet ≢ quote) inside
    → quote_after (Some quote) (inside ++ quote ∷ []) ≡ None
closed_by quote [] none = rw (quote_after, eq-eqb quote quote refl) refl
closed_by quote (octet ∷ more) none =
    let other : (nat_eq octet quote) ≡ false =
    ne_eqb octet quote (All-head (λ o. o ≢ quote) octet more none) in
    rw (quote_after, other) (closed_by quote more (All-tail (λ o. o ≢ quote) octet more none))

piece_closes : (piece : List ℕ) → IsPiece piece → quote_after None piece ≡ None
piece_closes piece (inl (octet, plain, is)) = rw (quote_after, is, plain) refl
piece_closes piece (inr (quote, inside, opens, none, is)) =
    rw (quote_after, is, opens) (closed_by quote inside none)

-- if a text is closed, then no quote is open after it
pub none_open : (text : List ℕ) → IsClosed text → quote_after None text ≡ None
none_open text (pieces, all, is) = ap (quote_after None) is ∙ none_after pieces all
  where
    none_after : (pieces : List (List ℕ)) → All IsPiece pieces
        → quote_after None (concat pieces) ≡ None
    none_after [] all = refl
    none_after (piece ∷ more) all =
        quote_after_both None piece (concat more)
        ∙ ap (λ (q : Option ℕ). quote_after q (concat more))
        (piece_closes piece (All-head IsPiece piece more all))
        ∙ none_after more (All-tail IsPiece piece more all)

-- if no quote is open before `text`, then `text` is closed; if `quote` is open before it, then
-- `text` has that quote again, and what follows the first one is closed
abbrev IsClosedAfter : Option ℕ → List ℕ → Type 0
IsClosedAfter None text = IsClosed text
IsClosedAfter (Some quote) text = (inside rest : List ℕ) × All (λ octet. octet ≢ quote) inside
    × IsClosed rest × (text ≡ inside ++ quote ∷ rest)

abbrev ClosesAfterAny : List ℕ → Type 0
ClosesAfterAny text = (quote : Option ℕ) → quote_after quote text ≡ None → IsClosedAfter quote text

closed_after : (quote : Option ℕ) (text : List ℕ) → quote_after quote text ≡ None
    → IsClosedAfter quote text
closed_after None [] at_end = ([], All-nil IsPiece, refl)
closed_after (Some quote) [] at_end = let no : ⊥ = cc in absurd no
closed_after None (octet ∷ more) at_end =
    at (is_quote octet) refl (λ quote. closed_after quote more)
  where
    quoted : is_quote octet ≡ true → IsClosedAfter (Some octet) more → IsClosed (octet ∷ more)
    quoted opens (inside, rest, none, (pieces, all, is), e) =
        let piece : List ℕ = octet ∷ inside ++ octet ∷ [] in (
          piece ∷ pieces,
          All-cons IsPiece piece pieces (inr (octet, inside, opens, none, refl)) all,
          ap (λ (t : List ℕ). octet ∷ t) (e ∙ ap (λ (t : List ℕ). inside ++ octet ∷ t) is
              ∙ sym (append_assoc inside (octet ∷ []) (concat pieces))),
        )

    at : (b : Bool) → is_quote octet ≡ b → ClosesAfterAny more → IsClosed (octet ∷ more)
    at false e later =
        let after : Bool → Type 0 = λ b. quote_after (cond b (Some octet) None) more ≡ None in
        let closed : IsClosed more = later None (subst after e at_end) in (
          (octet ∷ []) ∷ closed.0,
          All-cons IsPiece (octet ∷ []) closed.0 (inl (octet, e, refl)) closed.1,
          ap (λ (t : List ℕ). octet ∷ t) closed.2,
        )
    at true e later =
        let after : Bool → Type 0 = λ b. quote_after (cond b (Some octet) None) more ≡ None in
        quoted e (later (Some octet) (subst after e at_end))
closed_after (Some quote) (octet ∷ more) at_end =
    at (nat_eq octet quote) refl (λ other. closed_after other more)
  where
    at : (b : Bool) → (nat_eq octet quote) ≡ b → ClosesAfterAny more
        → IsClosedAfter (Some quote) (octet ∷ more)
    at true e later =
        let after : Bool → Type 0 = λ b. quote_after (cond b None (Some quote)) more ≡ None in
        let closed : IsClosed more = later None (subst after e at_end) in
        let is : octet ∷ more ≡ quote ∷ more =
        ap (λ (n : ℕ). n ∷ more) (eqb-true octet quote e) in
        ([], more, All-nil (λ o. o ≢ quote), closed, is)
    at false e later =
        let after : Bool → Type 0 = λ b. quote_after (cond b None (Some quote)) more ≡ None in
        let closed : IsClosedAfter (Some quote) more =
        later (Some quote) (subst after e at_end) in (
          octet ∷ closed.0,
          closed.1,
          All-cons (λ o. o ≢ quote) octet closed.0 (eqb-false octet quote e) closed.2,
          closed.3,
          ap (λ (t : List ℕ). octet ∷ t) closed.4,
        )

-- if no quote is open after a text, then it is closed
pub is_closed : (text : List ℕ) → quote_after None text ≡ None → IsClosed text
is_closed text none = closed_after None text none

-- a quote is open before each `stop` in the text; `quote` is the one open before the text, if any
abbrev pub HasNoneAfter : (stop : ℕ) → Option ℕ → List ℕ → Type 0
HasNoneAfter stop quote text = (before after : List ℕ) → text ≡ before ++ stop ∷ after
    → quote_after quote before ≢ None

pub none_later : (stop : ℕ) (quote : Option ℕ) (x : ℕ) (text : List ℕ)
    → HasNoneAfter stop quote (x ∷ text) → HasNoneAfter stop (open_after quote x) text
none_later stop quote x text h =
    λ before after e. h (x ∷ before) after (ap (λ (t : List ℕ). x ∷ t) e)

abbrev first_of : List ℕ → ℕ
first_of [] = 0
first_of (x ∷ more) = x

abbrev without_first : List ℕ → List ℕ
without_first [] = []
without_first (x ∷ more) = more

same_cut : (stop : ℕ) (quote : Option ℕ) (prefix rest other other_rest : List ℕ)
    → prefix ++ stop ∷ rest ≡ other ++ stop ∷ other_rest
    → quote_after quote prefix ≡ None → quote_after quote other ≡ None
    → HasNoneAfter stop quote prefix → HasNoneAfter stop quote other
    → (other ≡ prefix) × (other_rest ≡ rest)
same_cut stop quote [] rest [] other_rest e f g h k = (refl, sym (ap without_first e))
same_cut stop quote [] rest (y ∷ other) other_rest e f g h k =
    absurd (k [] other (ap (λ (x : ℕ). x ∷ other) (sym (ap first_of e))) f)
same_cut stop quote (x ∷ prefix) rest [] other_rest e f g h k =
    absurd (h [] prefix (ap (λ (y : ℕ). y ∷ prefix) (ap first_of e)) g)
same_cut stop quote (x ∷ prefix) rest (y ∷ other) other_rest e f g h k =
    let same : y ≡ x = sym (ap first_of e) in
    let G : ℕ → Type 0 = λ z. quote_after (open_after quote z) other ≡ None in
    let K : ℕ → Type 0 = λ z. HasNoneAfter stop (open_after quote z) other in
    let later = same_cut stop (open_after quote x) prefix rest other other_rest
    (ap without_first e) f
    (subst G same g) (none_later stop quote x prefix h)
    (subst K same (none_later stop quote y other k)) in
    (ap (λ (z : ℕ). z ∷ other) same ∙ ap (λ (t : List ℕ). x ∷ t) later.0, later.1)

-- if `stop` never occurs outside quotes, then a quote is open before each of its occurrences;
-- `none_outside` is the converse
pub never_outside : (stop : ℕ) (text : List ℕ) → HasNoneOutside stop text
    → HasNoneAfter stop None text
never_outside stop text none before after e at_end = none before after e (is_closed before at_end)

pub none_outside : (stop : ℕ) (text : List ℕ) → HasNoneAfter stop None text
    → HasNoneOutside stop text
none_outside stop text none before after e closed = none before after e (none_open before closed)

-- a text is cut at its first `stop` outside quotes in only one way
pub cut_once : (stop : ℕ) (text prefix rest other other_rest : List ℕ) → IsCut stop text prefix rest
    → IsCut stop text other other_rest → (other ≡ prefix) × (other_rest ≡ rest)
cut_once stop text prefix rest other other_rest h k =
    same_cut stop None prefix rest other other_rest (sym h.parts
    ∙ k.parts) (none_open prefix h.outside)
    (none_open other k.outside)
    (never_outside stop prefix h.first) (never_outside stop other k.first)
