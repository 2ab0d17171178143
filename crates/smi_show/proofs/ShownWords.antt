-- A label and pieces that are joined by dots are cut at these dots and nowhere else.
use Rattle.std.proofs.Common.{arith, ◌≡◌, ℕ, true, false, eqb, List, [], ◌∷◌, ◌++◌, map, All, decimal, Option, Some, None, refl, ◌∙◌, ap}
use Rattle.std.proofs.{lemmas.Grind.common_steps, lemmas.Bool.and_parts, lemmas.Bool.eq-eqb, lemmas.List.append-nil}
use Rattle.std.specs.List.{list_all}
use Rattle.std.proofs.lemmas.List.Elements.{All-head, All-tail}
use Rattle.snmp_io.specs.QuoteLaws.{quote_after}
use Rattle.smi_show.specs.index.Pieces.{Piece, plain_number, counted_text, plain_text, is_quotable, IsPiece, shown_piece, shown_pieces}
use Rattle.smi_show.specs.name.Cutting.{with_prefix, parts_after, name_parts, module_after}
use Rattle.smi_show.proofs.{Numerals.written_numeral, PlainOctets.ArePlain, PlainOctets.apart, PlainOctets.plain_digits}
use Rattle.smi_show.proofs.Readers.{Passing, all_pass, before_module, module_reader, no_colon, parts_reader}

-- `word` has neither a dot nor a colon outside quotes, and no quote is open after it
pub record IsWhole (word : List ℕ) : Type 0 where
  pub passing : Passing None word
  pub closed : quote_after None word ≡ None

pub cuts : (word rest : List ℕ) → IsWhole word → name_parts (word ++ rest) ≡ with_prefix word (name_parts rest)
cuts word rest w = all_pass parts_reader None word rest w.passing ∙ ap (λ (q : Option ℕ). with_prefix word (parts_after q rest)) w.closed

pub scopes : (word rest : List ℕ) → IsWhole word → module_after None (word ++ rest) ≡ before_module word (module_after None rest)
scopes word rest w = all_pass module_reader None word rest w.passing ∙ ap (λ (q : Option ℕ). before_module word (module_after q rest)) w.closed

pub plain_is_whole : (word : List ℕ) → ArePlain word → IsWhole word
unfolding ArePlain
plain_is_whole [] h = record { passing = tt; closed = refl }
plain_is_whole (octet ∷ more) h = grind (arith, common_steps, plain_is_whole more h.1)

-- each of `octets` may appear between quotes: if `quote` is open before `octets` and another `quote` follows them, then no part and no module ends in this
-- text (`Passing`), and no quote is open after it
quoted : (quote : ℕ) (octets : List ℕ) → is_quotable quote ≡ false → list_all is_quotable octets ≡ true
    → Passing (Some quote) (octets ++ quote ∷ []) × (quote_after (Some quote) (octets ++ quote ∷ []) ≡ None)
quoted quote [] bad h = ((tt, tt), rw (eq-eqb quote quote refl) refl)
quoted quote (octet ∷ octets) bad h =
    let all = and_parts (is_quotable octet) (list_all is_quotable octets) h in
    let other : eqb octet quote ≡ false = apart is_quotable octet quote all.0 bad in
    let rest = quoted quote octets bad all.1 in
    ((tt, rw other rest.0), rw (quote_after, other) rest.1)

pub piece_is_whole : (piece : Piece) → IsPiece piece → IsWhole (shown_piece piece)
piece_is_whole (plain_number n) h = plain_is_whole (decimal n) (plain_digits (decimal n) (written_numeral n h).digits)
piece_is_whole (counted_text octets) h =
    let inside = quoted 34 octets refl h in record { passing = ((refl, refl), inside.0); closed = inside.1 }
piece_is_whole (plain_text octets) h =
    let inside = quoted 39 octets refl h.1 in record { passing = ((refl, refl), inside.0); closed = inside.1 }

-- the parts of `word` followed by pieces, each after a dot, are `word` and then the text of each piece
pub joined_parts : (word : List ℕ) (pieces : List Piece) → IsWhole word → All IsPiece pieces
    → name_parts (word ++ shown_pieces pieces) ≡ word ∷ map shown_piece pieces
joined_parts word [] whole all = cuts word [] whole ∙ ap (λ (t : List ℕ). t ∷ []) (append-nil word)
joined_parts word (piece ∷ pieces) whole all = grind (
  arith,
  common_steps,
  joined_parts (shown_piece piece) pieces (piece_is_whole piece (All-head IsPiece piece pieces all)) (All-tail IsPiece piece pieces all),
  cuts,
  append-nil,
  piece_is_whole,
  All-head,
  All-tail,
)

-- if a text has no module, then a dot followed by this text has no module either
pub dot_module : (rest : List ℕ) → module_after None rest ≡ None → module_after None (46 ∷ rest) ≡ None
dot_module rest none = rw (no_colon 46 rest refl, none) refl

pub joined_module : (word : List ℕ) (pieces : List Piece) → IsWhole word → All IsPiece pieces → module_after None (word ++ shown_pieces pieces) ≡ None
joined_module word [] whole all = scopes word [] whole
joined_module word (piece ∷ pieces) whole all = grind (
  arith,
  common_steps,
  joined_module (shown_piece piece) pieces (piece_is_whole piece (All-head IsPiece piece pieces all)) (All-tail IsPiece piece pieces all),
  scopes,
  before_module,
  dot_module,
  piece_is_whole,
  All-head,
  All-tail,
)
