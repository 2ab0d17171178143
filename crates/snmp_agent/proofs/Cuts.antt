-- A string is split at its first bar in only one way (`same_cut`), and so is a line at the bar that ends its name (`same_end`).
use Rattle.std.proofs.Common.{◌≡◌, ◌≢◌, ℕ, ◌<◌, List, ◌∷◌, ◌++◌, length, refl, sym, arith}
use Rattle.std.specs.List.{All}
use Rattle.std.proofs.{lemmas.List.append_cancel_left, lemmas.List.Elements.All-contains, lemmas.List.Elements.Contains-append_right}
use Rattle.snmp_io.specs.{QuoteLaws.cut_once, Quotes.IsCut}
use Rattle.snmp_agent.specs.table.Format.{Format, EndsAtBar, bar, first_format, second_format}
use Rattle.snmp_agent.proofs.Lists.{inside, same_prefix}

-- the string contains no bar
abbrev pub HasNoBar : List ℕ → Type 0
HasNoBar text = All (λ octet. octet ≢ bar) text

-- a string without a bar can't be split
pub no_cut : (text prefix back : List ℕ) → HasNoBar text → text ≡ prefix ++ bar ∷ back → ⊥
no_cut text prefix back h e =
    All-contains (λ octet. octet ≢ bar) text bar h (rw e (Contains-append_right prefix (bar ∷ back) bar (0, omega arith, refl))) refl

-- if a string is split at its first bar in two ways, then both are the same: neither `prefix` nor `other` has a bar
pub same_cut : (prefix back other after : List ℕ) → HasNoBar prefix → HasNoBar other → prefix ++ bar ∷ back ≡ other ++ bar ∷ after
    → (prefix ≡ other) × (back ≡ after)
same_cut prefix back other after h k e =
    let early : length prefix < length other → ⊥ = λ low.
    let there = inside prefix bar back other (bar ∷ after) e low in no_cut other prefix there.0 k there.1 in
    let late : length other < length prefix → ⊥ = λ low.
    let there = inside other bar after prefix (bar ∷ back) (sym e) low in no_cut prefix other there.0 h there.1 in
    let same : prefix ≡ other = same_prefix prefix other (bar ∷ back) (bar ∷ after) e (omega (arith, early, late)) in
    let rest : bar ∷ back ≡ bar ∷ after = append_cancel_left other _ _ (rw same at e) in (same, cc)

-- if a line is split in two ways at a bar that ends its name, then both are the same
pub same_end : (format : Format) (name back other after : List ℕ) → EndsAtBar format name → EndsAtBar format other
    → name ++ bar ∷ back ≡ other ++ bar ∷ after → (name ≡ other) × (back ≡ after)
same_end first_format name back other after h k e = same_cut name back other after h k e
same_end (second_format names) name back other after h k e =
    let cut : IsCut bar (name ++ bar ∷ back) name back = record { parts = refl; outside = h.0; first = h.1 } in
    let again : IsCut bar (name ++ bar ∷ back) other after = record { parts = e; outside = k.0; first = k.1 } in
    let same = cut_once bar (name ++ bar ∷ back) name back other after cut again in
    (sym same.0, sym same.1)
