-- Functions that read a text octet by octet, as `IsReader` says: they return its parts (`parts_reader`) or its module (`module_reader`). What such a function
-- reads ends at a dot or at `::`.
use Rattle.std.proofs.Common.{arith, ◌≡◌, ℕ, ◌+◌, ◌<◌, Bool, false, ◌&&◌, nat_eq, List, [], ◌∷◌, ◌++◌, length, take, drop, get_or, Option, Some, None}
use Rattle.std.proofs.Common.{option_map, refl, sym, ap, append_assoc}
use Rattle.std.proofs.{lemmas.Grind.common_steps, lemmas.Bool.cond_both, lemmas.List.drop_more, lemmas.List.take_more}
use Rattle.snmp_io.specs.{Quotes.open_after, QuoteLaws.quote_after}
use Rattle.smi_show.specs.name.Cutting.{is_unquoted, with_prefix, parts_after, is_double_colon, longer_module, module_after}

-- a quote is open, or the octet is neither a dot nor a colon: what is read doesn't end at the octet
abbrev pub Passes : Option ℕ → ℕ → Type 0
Passes None octet = (nat_eq octet 46 ≡ false) × (nat_eq octet 58 ≡ false)
Passes (Some quote) octet = Unit {0}

-- `read` reads a text octet by octet: if `ends` is false at the first octet, then `read` returns what it returns for the octets after it, with the first octet
-- put before that by `before`
pub record IsReader {X : Type 0} (before : List ℕ → X → X) (read : Option ℕ → List ℕ → X) (ends : Option ℕ → List ℕ → Bool) : Type 0 where
  pub none : (state : Option ℕ) (text : List ℕ) → read state text ≡ before [] (read state text)
  pub twice : (a b : List ℕ) (x : X) → before a (before b x) ≡ before (a ++ b) x
  pub next : (state : Option ℕ) (octet : ℕ) (more : List ℕ) → ends state (octet ∷ more) ≡ false
      → read state (octet ∷ more) ≡ before (octet ∷ []) (read (open_after state octet) more)
  pub passes : (state : Option ℕ) (octet : ℕ) (more : List ℕ) → Passes state octet → ends state (octet ∷ more) ≡ false

-- `Passes` holds of each octet of the text, with the quote that is open before the octet
abbrev pub Passing : Option ℕ → List ℕ → Type 0
Passing state [] = Unit {0}
Passing state (octet ∷ more) = Passes state octet × Passing (open_after state octet) more

module _ {X : Type 0} {before : List ℕ → X → X} {read : Option ℕ → List ℕ → X} {ends : Option ℕ → List ℕ → Bool} (r : IsReader before read ends) where
  pub all_pass : (state : Option ℕ) (word rest : List ℕ) → Passing state word → read state (word ++ rest) ≡ before word (read (quote_after state word) rest)
  all_pass state [] rest h = r.none state rest
  all_pass state (octet ∷ word) rest h = grind (arith, common_steps, all_pass (open_after state octet) word rest h.1, quote_after)

  -- if what `read` returns for `text` is what it returns from the offset `at` on, with the first `at` octets put before that, and `ends` is false at `at`, then
  -- the same holds for the offset `at + 1`; `state` is the quote that is open before the offset `at`, if any
  pub one_more : (text : List ℕ) (at : ℕ) (state : Option ℕ) → at < length text → ends state (drop at text) ≡ false
      → read None text ≡ before (take at text) (read state (drop at text))
      → read None text ≡ before (take (at + 1) text) (read (open_after state (get_or text at 0)) (drop (at + 1) text))
  one_more text at state low passes h = grind (arith, common_steps, drop_more, take_more)

-- ---- parts

abbrev pub at_dot : Option ℕ → List ℕ → Bool
at_dot state text = is_unquoted state && nat_eq (get_or text 0 0) 46

pub some_part : (state : Option ℕ) (text : List ℕ) → parts_after state text ≡ with_prefix [] (parts_after state text)
some_part state [] = refl
some_part state (octet ∷ more) = grind (arith, common_steps, cond_both, nat_eq)

prefix_of_prefix : (a b : List ℕ) (parts : List (List ℕ)) → with_prefix a (with_prefix b parts) ≡ with_prefix (a ++ b) parts
prefix_of_prefix a b [] = refl
prefix_of_prefix a b (part ∷ parts) = ap (λ (t : List ℕ). t ∷ parts) (sym (append_assoc a b part))

no_dot : (state : Option ℕ) (octet : ℕ) (more : List ℕ) → Passes state octet → at_dot state (octet ∷ more) ≡ false
no_dot None octet more h = h.0
no_dot (Some quote) octet more h = refl

pub parts_reader : IsReader with_prefix parts_after at_dot
parts_reader = record { none = some_part; twice = prefix_of_prefix; next = λ state octet more e. rw e refl; passes = no_dot }

-- ---- the module

abbrev pub before_module : List ℕ → Option (List ℕ × List ℕ) → Option (List ℕ × List ℕ)
before_module prefix read = option_map (longer_module prefix) read

abbrev pub at_colons : Option ℕ → List ℕ → Bool
at_colons state text = is_unquoted state && is_double_colon text

some_module : (read : Option (List ℕ × List ℕ)) → read ≡ before_module [] read
some_module None = refl
some_module (Some (name, rest)) = refl

longer_twice : (a b : List ℕ) (read : Option (List ℕ × List ℕ)) → before_module a (before_module b read) ≡ before_module (a ++ b) read
longer_twice a b None = refl
longer_twice a b (Some (name, rest)) = ap (λ (t : List ℕ). Some (t, rest)) (sym (append_assoc a b name))

pub no_colon : (octet : ℕ) (rest : List ℕ) → nat_eq octet 58 ≡ false → is_double_colon (octet ∷ rest) ≡ false
no_colon octet [] h = refl
no_colon octet (next ∷ more) h = rw h refl

no_colons : (state : Option ℕ) (octet : ℕ) (more : List ℕ) → Passes state octet → at_colons state (octet ∷ more) ≡ false
no_colons None octet more h = no_colon octet more h.1
no_colons (Some quote) octet more h = refl

pub module_reader : IsReader before_module module_after at_colons
module_reader = grind (arith, common_steps, some_module, longer_twice, no_colons)
