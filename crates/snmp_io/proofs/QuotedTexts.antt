-- For loops that look for the octet `stop` outside quotes: what they know after each octet (`IsSoFar`).
use Rattle.std.proofs.Common.{◌≡◌, ◌+◌, ◌<◌, ◌∙◌, ℕ, List, [], ◌∷◌, ◌++◌, length, take, get_or, Option, None, refl, sym, ap, subst}
use Rattle.std.proofs.lemmas.List.{take_more}
use Rattle.snmp_io.specs.{QuoteLaws.quote_after, QuoteLaws.quote_after_both, QuoteLaws.HasNoneAfter, QuoteLaws.none_later, Quotes.open_after}

none_in_nothing : (stop : ℕ) (before after : List ℕ) → [] ≡ before ++ stop ∷ after → ⊥
none_in_nothing stop [] after e = let wrong : ⊥ = cc in wrong
none_in_nothing stop (x ∷ before) after e = let wrong : ⊥ = cc in wrong

none_more : (stop : ℕ) (quote : Option ℕ) (prefix : List ℕ) (x : ℕ) → HasNoneAfter stop quote prefix
    → (quote_after quote prefix ≡ None → x ≡ stop → ⊥) → HasNoneAfter stop quote (prefix ++ x ∷ [])
none_more stop quote [] x h not_here [] after e now = let same : x ≡ stop = cc in not_here now same
none_more stop quote [] x h not_here (y ∷ before) after e now = let rest : [] ≡ before ++ stop ∷ after = cc in none_in_nothing stop before after rest
none_more stop quote (z ∷ prefix) x h not_here [] after e now =
    let same : z ≡ stop = cc in
    h [] prefix (ap (λ (y : ℕ). y ∷ prefix) same) now
none_more stop quote (z ∷ prefix) x h not_here (y ∷ before) after e now =
    let same : y ≡ z = cc in
    let more : prefix ++ x ∷ [] ≡ before ++ stop ∷ after = cc in
    let P : ℕ → Type 0 = λ w. quote_after (open_after quote w) before ≡ None in
    none_more stop (open_after quote z) prefix x (none_later stop quote z prefix h) not_here before after more (subst P same now)

-- in the first `at` octets of the text, `stop` doesn't occur outside quotes; `quote` is the quote that is open after them, if any
pub record IsSoFar (stop : ℕ) (text : List ℕ) (at : ℕ) (quote : Option ℕ) : Type 0 where
  pub now : quote ≡ quote_after None (take at text)
  pub none : HasNoneAfter stop None (take at text)

pub read_nothing : (stop : ℕ) (text : List ℕ) → IsSoFar stop text 0 None
read_nothing stop text = record { now = refl; none = λ before after e _. none_in_nothing stop before after e }

pub read_more : (stop : ℕ) (text : List ℕ) (at : ℕ) (quote : Option ℕ) → at < length text → (quote ≡ None → get_or text at 0 ≡ stop → ⊥)
    → IsSoFar stop text at quote → IsSoFar stop text (at + 1) (open_after quote (get_or text at 0))
read_more stop text at quote low not_here h =
    let x = get_or text at 0 in
    let longer = take_more text at 0 low in
    let P : List ℕ → Type 0 = λ t. HasNoneAfter stop None t in
    record {
      now = ap (λ (q : Option ℕ). open_after q x) h.now ∙ sym (quote_after_both None (take at text) (x ∷ [])) ∙ ap (quote_after None) (sym longer);
      none = subst P (sym longer) (none_more stop None (take at text) x h.none (λ now_open same. not_here (h.now ∙ now_open) same));
    }
