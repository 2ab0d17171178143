-- A text has exactly one list of parts and at most one module as `Cut` defines them: the computed ones.
use Rattle.std.proofs.{lemmas.Grind.common_steps, lemmas.List.drop_at, lemmas.List.take_at}
use Rattle.std.proofs.Common.{◌≡◌, ℕ, ◌+◌, ◌<◌, ◌≤◌, ◌⊎◌, inl, inr, suc, true, false, nat_eq, List, [], ◌∷◌, ◌++◌, take, drop, length}
use Rattle.std.proofs.Common.{Option, Some, None, refl, sym, ◌∙◌, ap, subst, arith, length-append}
use Rattle.std.proofs.lemmas.Bool.{and_parts, both_ways, cond_both, eqb-true}
use Rattle.snmp_io.specs.Quotes.{HasNoneOutside, IsClosed, IsCut, open_after}
use Rattle.snmp_io.specs.QuoteLaws.{cut_once, is_closed, none_open, none_outside, quote_after}
use Rattle.smi_show.specs.name.Cut.{AreParts, HasNoModule, IsModuleCut}
use Rattle.smi_show.specs.name.Cutting.{is_double_colon, module_after, name_parts, parts_after, with_prefix}
use Rattle.smi_show.proofs.Readers.{at_colons, at_dot, before_module}

-- wherever `text`, before which `quote` is open, has the octets `stop` outside quotes, `P` holds of the text before them
abbrev Wherever : List ℕ → Option ℕ → List ℕ → (List ℕ → Type 0) → Type 0
Wherever stop quote text P = (before after : List ℕ) → text ≡ before ++ (stop ++ after) → quote_after quote before ≡ None → P before

abbrev Nowhere : List ℕ → Option ℕ → List ℕ → Type 0
Nowhere stop quote text = Wherever stop quote text (λ before. ⊥)

nothing : (octet : ℕ) (before after : List ℕ) → [] ≡ before ++ octet ∷ after → ⊥
nothing octet [] after e = cc
nothing octet (o ∷ before) after e = cc

-- if `P` holds wherever `stop` occurs outside quotes in `text`, `P before` implies `Q` of `octet` followed by `before`, and `Q []` holds if `stop` begins at
-- `octet` outside quotes, then `Q` holds wherever `stop` occurs outside quotes in `octet` followed by `text`
later : (stop : List ℕ) (quote : Option ℕ) (octet : ℕ) (text : List ℕ) (P Q : List ℕ → Type 0)
    → ((after : List ℕ) → octet ∷ text ≡ stop ++ after → quote ≡ None → Q []) → ((before : List ℕ) → P before → Q (octet ∷ before))
    → Wherever stop (open_after quote octet) text P → Wherever stop quote (octet ∷ text) Q
later stop quote octet text P Q here more h [] after e q = here after e q
later stop quote octet text P Q here more h (o ∷ before) after e q = grind (arith, common_steps, quote_after)

-- ---- parts

-- `parts` are the parts of `text`, before which `quote` is open
abbrev PartsFrom : Option ℕ → List ℕ → List (List ℕ) → Type 0
PartsFrom quote text [] = ⊥
PartsFrom quote text (part ∷ []) = Nowhere (46 ∷ []) quote text × (part ≡ text)
PartsFrom quote text (part ∷ next ∷ more) = (rest : List ℕ) × (text ≡ part ++ 46 ∷ rest) × (quote_after quote part ≡ None)
    × Nowhere (46 ∷ []) quote part × PartsFrom None rest (next ∷ more)

is_dot : (quote : Option ℕ) (text after : List ℕ) → quote ≡ None → text ≡ 46 ∷ after → at_dot quote text ≡ true
is_dot quote text after none is = rw (none, is) refl

nowhere_later : (quote : Option ℕ) (octet : ℕ) (text : List ℕ) → at_dot quote (octet ∷ text) ≡ false → Nowhere (46 ∷ []) (open_after quote octet) text
    → Nowhere (46 ∷ []) quote (octet ∷ text)
nowhere_later quote octet text other = later (46 ∷ []) quote octet text (λ before. ⊥) (λ before. ⊥)
    (λ after e q. both_ways (at_dot quote (octet ∷ text)) other (is_dot quote (octet ∷ text) after q e)) (λ before no. no)

-- if `parts` are the parts of `text`, and `octet` isn't a dot outside quotes, then the parts of `octet` and `text` are `parts` with `octet` put before the
-- first one
parts_more : (quote : Option ℕ) (octet : ℕ) (text : List ℕ) (parts : List (List ℕ)) → at_dot quote (octet ∷ text) ≡ false
    → PartsFrom (open_after quote octet) text parts → PartsFrom quote (octet ∷ text) (with_prefix (octet ∷ []) parts)
parts_more quote octet text [] other h = absurd h
parts_more quote octet text (part ∷ []) other h = (nowhere_later quote octet text other h.0, ap (λ (t : List ℕ). octet ∷ t) h.1)
parts_more quote octet text (part ∷ next ∷ more) other (rest, is, closed, first, h) =
    (rest, ap (λ (t : List ℕ). octet ∷ t) is, closed, nowhere_later quote octet part other first, h)

-- if `parts` are the parts of `text`, then the parts of a dot and `text` are an empty part and `parts`
parts_here : (octet : ℕ) (text : List ℕ) (parts : List (List ℕ)) → octet ≡ 46 → PartsFrom None text parts → PartsFrom None (octet ∷ text) ([] ∷ parts)
parts_here octet text [] is h = absurd h
parts_here octet text (part ∷ more) is h = grind (arith, common_steps, nothing)

parts_from : (quote : Option ℕ) (text : List ℕ) → PartsFrom quote text (parts_after quote text)
parts_from quote [] = (λ before after e q. nothing 46 before after e, refl)
parts_from None (octet ∷ more) =
    grind (arith, common_steps, parts_from None more, parts_from (open_after None octet) more, later, cond_both, nat_eq, parts_here, eqb-true, parts_more)
parts_from (Some q) (octet ∷ more) = grind (arith, common_steps, parts_from (open_after (Some q) octet) more, parts_more)

plain_parts : (text : List ℕ) (parts : List (List ℕ)) → PartsFrom None text parts → AreParts text parts
plain_parts text [] h = h
plain_parts text (part ∷ []) h = (none_outside 46 text h.0, h.1)
plain_parts text (part ∷ next ∷ more) (rest, is, closed, first, h) = (
  rest,
  record { parts = is; outside = is_closed part closed; first = none_outside 46 part first },
  plain_parts rest (next ∷ more) h,
)

pub are_parts : (text : List ℕ) → AreParts text (name_parts text)
are_parts text = plain_parts text (name_parts text) (parts_from None text)

same_parts : (text : List ℕ) (parts others : List (List ℕ)) → AreParts text parts → AreParts text others → parts ≡ others
same_parts text [] others h k = absurd h
same_parts text (part ∷ parts) [] h k = absurd k
same_parts text (part ∷ []) (other ∷ []) h k = ap (λ (t : List ℕ). t ∷ []) (h.1 ∙ sym k.1)
same_parts text (part ∷ []) (other ∷ next ∷ more) h (rest, cut, k) = absurd (h.0 other rest cut.parts cut.outside)
same_parts text (part ∷ next ∷ more) (other ∷ []) (rest, cut, h) k = absurd (k.0 part rest cut.parts cut.outside)
same_parts text (part ∷ next ∷ more) (other ∷ second ∷ others) (rest, cut, h) (left, same, k) =
    let one = cut_once 46 text other left part rest same cut in
    let more_same = same_parts left (next ∷ more) (second ∷ others) (subst (λ (t : List ℕ). AreParts t (next ∷ more)) one.1 h) k in
    λ i. one.0 i ∷ more_same i

pub only_parts : (text : List ℕ) (parts : List (List ℕ)) → AreParts text parts → parts ≡ name_parts text
only_parts text parts h = same_parts text parts (name_parts text) h (are_parts text)

-- if a text is cut at its first dot outside quotes, its parts are the part before the dot and the parts of the rest
parts_by : (text part rest : List ℕ) (parts : List (List ℕ)) → IsCut 46 text part rest → AreParts rest parts → AreParts text (part ∷ parts)
parts_by text part rest [] cut h = absurd h
parts_by text part rest (next ∷ more) cut h = (rest, cut, h)

pub part_before : (text part rest : List ℕ) → IsCut 46 text part rest → (part ∷ name_parts rest ≡ name_parts text) × (length rest < length text)
part_before text part rest cut =
    let long : length text ≡ length part + suc (length rest) = ap length cut.parts ∙ length-append part (46 ∷ rest) in
    (only_parts text (part ∷ name_parts rest) (parts_by text part rest (name_parts rest) cut (are_parts rest)), omega (arith, long))

pub one_part : (text : List ℕ) → HasNoneOutside 46 text → text ∷ [] ≡ name_parts text
one_part text none = only_parts text (text ∷ []) (none, refl)

-- ---- the module

-- the pair is the text before and after the first `::` outside quotes in `text`, before which `quote` is open; it is None if there is none
abbrev FoundFrom : Option ℕ → List ℕ → Option (List ℕ × List ℕ) → Type 0
FoundFrom quote text None = Nowhere (58 ∷ 58 ∷ []) quote text
FoundFrom quote text (Some (home, rest)) = (text ≡ home ++ 58 ∷ 58 ∷ rest) × (quote_after quote home ≡ None)
    × Wherever (58 ∷ 58 ∷ []) quote text (λ before. length home ≤ length before)

are_colons : (quote : Option ℕ) (text after : List ℕ) → quote ≡ None → text ≡ 58 ∷ 58 ∷ after → at_colons quote text ≡ true
are_colons quote text after none is = rw (none, is) refl

colons : (text : List ℕ) → is_double_colon text ≡ true → text ≡ 58 ∷ 58 ∷ drop 2 text
colons [] e = cc
colons (first ∷ []) e = cc
colons (first ∷ second ∷ more) e = grind (arith, common_steps, and_parts, nat_eq, eqb-true)

module_here : (quote : Option ℕ) (octet : ℕ) (more : List ℕ) → at_colons quote (octet ∷ more) ≡ true
    → FoundFrom quote (octet ∷ more) (Some ([], drop 1 more))
module_here None octet more e = (colons (octet ∷ more) e, refl, λ before after f q. omega arith)
module_here (Some q) octet more e = let no : ⊥ = cc in absurd no

-- if no `::` outside quotes begins at `octet`, then what is found in `octet` and `more` is what is found in `more`, with `octet` put before the module
module_more : (quote : Option ℕ) (octet : ℕ) (more : List ℕ) (read : Option (List ℕ × List ℕ)) → at_colons quote (octet ∷ more) ≡ false
    → FoundFrom (open_after quote octet) more read → FoundFrom quote (octet ∷ more) (before_module (octet ∷ []) read)
module_more quote octet more read other = at read
  where
    not_here : (after : List ℕ) → octet ∷ more ≡ 58 ∷ 58 ∷ after → quote ≡ None → ⊥
    not_here after e q = both_ways (at_colons quote (octet ∷ more)) other (are_colons quote (octet ∷ more) after q e)

    at : (read : Option (List ℕ × List ℕ)) → FoundFrom (open_after quote octet) more read → FoundFrom quote (octet ∷ more) (before_module (octet ∷ []) read)
    at None h = later (58 ∷ 58 ∷ []) quote octet more (λ before. ⊥) (λ before. ⊥) not_here (λ before no. no) h
    at (Some (home, rest)) (is, closed, first) = (
      ap (λ (t : List ℕ). octet ∷ t) is,
      closed,
      later (58 ∷ 58 ∷ []) quote octet more (λ before. length home ≤ length before) (λ before. suc (length home) ≤ length before)
          (λ after e q. absurd (not_here after e q)) (λ before low. omega (arith, low)) first,
    )

found_from : (quote : Option ℕ) (text : List ℕ) → FoundFrom quote text (module_after quote text)
found_from quote [] = λ before after e q. nothing 58 before (58 ∷ after) e
found_from quote (octet ∷ more) =
    grind (arith, common_steps, found_from (open_after quote octet) more, cond_both, at_colons, before_module, module_here, module_more)

pub has_module : (text : List ℕ) (home rest : List ℕ) → module_after None text ≡ Some (home, rest) → IsModuleCut text home rest
has_module text home rest is = grind (arith, common_steps, found_from, is_closed, none_open)

pub has_no_module : (text : List ℕ) → module_after None text ≡ None → HasNoModule text
has_no_module text is before after e closed = grind (arith, common_steps, found_from, none_open)

-- two prefixes of one text that are equally long are the same
same_prefixes : (a b x y : List ℕ) → length a ≡ length b → a ++ x ≡ b ++ y → (a ≡ b) × (x ≡ y)
same_prefixes a b x y same e = (
  sym (take_at a x (length b) same) ∙ ap (take (length b)) e ∙ take_at b y (length b) refl,
  sym (drop_at a x (length b) same) ∙ ap (drop (length b)) e ∙ drop_at b y (length b) refl,
)

pub one_module : (text home rest : List ℕ) → IsModuleCut text home rest → module_after None text ≡ Some (home, rest)
one_module text home rest h = grind (arith, common_steps, found_from, none_open, is_closed, same_prefixes)

pub no_module : (text : List ℕ) → HasNoModule text → module_after None text ≡ None
no_module text none = grind (arith, common_steps, found_from, is_closed)

-- a text without a colon outside quotes has no module
pub no_colon_outside : (text : List ℕ) → HasNoneOutside 58 text → None ≡ module_after None text
no_colon_outside text none = sym (no_module text (λ before after e closed. none before (58 ∷ after) e closed))

-- `prefix` is at most as long as `before`, or begins with `before` and `c`
abbrev IsBeforeOrIn : ℕ → (prefix before : List ℕ) → Type 0
IsBeforeOrIn c prefix before = (length prefix ≤ length before) ⊎ ((more : List ℕ) × (prefix ≡ before ++ c ∷ more))

one_longer : (c o p : ℕ) (prefix before : List ℕ) → o ≡ p → IsBeforeOrIn c prefix before → IsBeforeOrIn c (o ∷ prefix) (p ∷ before)
one_longer c o p prefix before is (inl low) = inl (omega (arith, low))
one_longer c o p prefix before is (inr (more, e)) = inr (more, λ i. is i ∷ e i)

before_or_in : (c : ℕ) (prefix before rest after : List ℕ) → prefix ++ rest ≡ before ++ c ∷ after → IsBeforeOrIn c prefix before
before_or_in c [] before rest after e = inl (omega arith)
before_or_in c (o ∷ prefix) [] rest after e = inr (prefix, let is : o ≡ c = cc in λ i. is i ∷ prefix)
before_or_in c (o ∷ prefix) (p ∷ before) rest after e =
    let is : o ≡ p = cc in
    let more : prefix ++ rest ≡ before ++ c ∷ after = cc in
    one_longer c o p prefix before is (before_or_in c prefix before rest after more)

module_first : (home before : List ℕ) → HasNoneOutside 58 home → IsClosed before
    → IsBeforeOrIn 58 home before → length home ≤ length before
module_first home before none closed (inl low) = low
module_first home before none closed (inr (more, is)) = absurd (none before more is closed)

pub module_before : (text home rest : List ℕ) → IsCut 58 text home (58 ∷ rest) → Some (home, rest) ≡ module_after None text
module_before text home rest cut = sym (one_module text home rest (record {
  parts = cut.parts;
  outside = cut.outside;
  first = λ before after e closed.
      module_first home before cut.first closed (before_or_in 58 home before (58 ∷ 58 ∷ rest) (58 ∷ after) (sym cut.parts ∙ e));
}))
