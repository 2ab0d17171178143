-- Productions of the grammar as values. A format says how a value, such as a definition, is read
-- from the leading tokens, with which tokens it can begin, and which must not follow it.
use Rattle.std.specs.Prelude.{◌≡◌, ℕ, Bool, true, false, ◌&&◌, ◌||◌, not, List, [], ◌∷◌, ◌++◌}
use Rattle.std.specs.Prelude.{length, Option, Some, None, Ok, Err, drop, if◌then◌else◌}
use Rattle.std.specs.Prelude.{option_and_then, option_map, refl, unwrap_or}
use Rattle.std.specs.List.{list_any, list_all}
use Rattle.std.proofs.Common.{◌⊎◌, inl, inr, zero, suc}
use Rattle.smi_text.specs.declared.lexer.token.TokenKind.{TokenKind}
use Rattle.smi_text.specs.declared.lexer.token.TokenKind.TheVariants.{Lower, Upper}
use Rattle.smi_text.specs.{lexer.Token.Lexeme, lexer.Token.Item, trees.Word.is_word}
use Rattle.smi_text.specs.{trees.Reserved.is_reserved, declared.trees.names.Name.Name}
use Rattle.smi_text.specs.trees.Mark.{Mark, same_kind, same_text, MarksToken}
use Rattle.smi_text.specs.lexer.Lexeme.{sign_text}

-- A condition on the token ahead, which is the next to be read. In this order: it is this word of
-- the grammar; it begins with an upper-case letter and isn't reserved; it is of this kind; it isn't
-- this word; it isn't of this kind.
pub data Ahead : Type 0 where
  a_word : List ℕ → Ahead
  a_name : Ahead
  a_kind : TokenKind → Ahead
  no_word : List ℕ → Ahead
  no_kind : TokenKind → Ahead

abbrev pub is_this_word : List ℕ → Lexeme → Bool
is_this_word w t = same_kind t.kind Upper && same_text t.text w

abbrev pub meets : Lexeme → Ahead → Bool
meets t (a_word w) = is_this_word w t
meets t a_name = same_kind t.kind Upper && not (is_reserved t.text)
meets t (a_kind k) = same_kind t.kind k
meets t (no_word w) = not (is_this_word w t)
meets t (no_kind k) = not (same_kind t.kind k)

-- the token ahead; None at the end of the text, and at a fault
abbrev pub token_ahead : List Item → Option Lexeme
token_ahead [] = None
token_ahead (Ok t ∷ items) = Some t
token_ahead (Err fault ∷ items) = None

abbrev pub meets_any : List Ahead → Option Lexeme → Bool
meets_any cs None = false
meets_any cs (Some t) = list_any (meets t) cs

-- whether the items begin with a token that meets one of the conditions
unfoldable pub begins : List Ahead → List Item → Bool
begins cs items = meets_any cs (token_ahead items)

-- the items are one token for each mark, as that mark describes it, followed by `rest`
abbrev pub ItemsMatch : List Mark → List Item → List Item → Type 0
ItemsMatch [] items rest = items ≡ rest
ItemsMatch (m ∷ ms) [] rest = ⊥
ItemsMatch (m ∷ ms) (Ok t ∷ items) rest = MarksToken m t × ItemsMatch ms items rest
ItemsMatch (m ∷ ms) (Err fault ∷ items) rest = ⊥

-- true only if no token meets both conditions; some pairs are compared only the other way round
abbrev pub half_apart : Ahead → Ahead → Bool
half_apart (a_word v) (a_word w) = not (same_text v w)
half_apart (a_word v) a_name = is_reserved v
half_apart (a_word v) (a_kind k) = not (same_kind Upper k)
half_apart (a_word v) (no_word w) = same_text v w
half_apart a_name (a_kind k) = not (same_kind Upper k)
half_apart (a_kind j) (a_kind k) = not (same_kind j k)
half_apart (a_kind j) (no_kind k) = same_kind j k
half_apart (a_kind j) (no_word w) = false
half_apart _ _ = false

-- true only if no token meets both a condition of `cs` and a condition of `ds`
abbrev pub apart : List Ahead → List Ahead → Bool
apart cs ds = list_all (λ c. list_all (λ d. half_apart c d || half_apart d c) ds) cs

-- a value that was read, and the items after it; None if no value can be read
abbrev pub Parsed : Type 0 → Type 0
Parsed A = Option (A × List Item)

pub record Format (A : Type 0) : Type 0 where
  pub read : List Item → Parsed A
  -- if tokens are read, the first of them meets one of these conditions
  pub first : List Ahead
  -- the tokens that are read must not be followed by one that meets one of these conditions
  pub stop : List Ahead
  -- whether `read` may return a value without taking a token
  pub empty : Bool

-- reads the token ahead as what `pick` returns for it; fails if `pick` returns None, or no token is
-- ahead
abbrev pub one : {A : Type 0} → List Ahead → (Lexeme → Option A) → Format A
one cs pick = record {
  read = λ ts. option_map (λ x. (x, drop 1 ts)) (option_and_then pick (token_ahead ts));
  first = cs;
  stop = [];
  empty = false;
}

-- reads a token of kind `k` with the text `x`; the format's `first` is `c`
abbrev pub exact : Ahead → TokenKind → List ℕ → Format (Unit {0})
exact c k x =
    one (c ∷ []) (λ t. if same_kind t.kind k && same_text t.text x then Some tt else None)

-- reads the word `w` of the grammar; `token` reads a sign, a token whose kind has only one text
unfoldable pub word : List ℕ → Format (Unit {0})
word w = exact (a_word w) Upper w

unfoldable pub token : TokenKind → Format (Unit {0})
token k = exact (a_kind k) k (sign_text k)

-- the text of a token of this kind
unfoldable pub text : TokenKind → Format (List ℕ)
text k = one (a_kind k ∷ []) (λ t. if same_kind t.kind k then Some t.text else None)

-- the text of a token of this kind, if the text passes the test `ok`
unfoldable pub text_where : TokenKind → (List ℕ → Bool) → Format (List ℕ)
text_where k ok = one (a_kind k ∷ [])
    (λ t. if same_kind t.kind k && ok t.text then Some t.text else None)

-- `b` says whether `x` is a word; if it is, this is the name with the octets `x`, otherwise None
abbrev pub name_when : (x : List ℕ) (b : Bool) → is_word x ≡ b → Option Name
name_when x true word = Some (record { octets = x; lexical = word })
name_when x false other = None

abbrev pub name_of : List ℕ → Option Name
name_of x = name_when x (is_word x) refl

-- reads a token of kind `k` as a name, if its text is a word that passes `ok`; the format's `first`
-- is `cs`
abbrev pub name_where : List Ahead → TokenKind → (List ℕ → Bool) → Format Name
name_where cs k ok =
    one cs (λ t. if same_kind t.kind k && ok t.text then name_of t.text else None)

-- a name that begins with a lower-case letter
unfoldable pub lower : Format Name
lower = name_where (a_kind Lower ∷ []) Lower (λ _. true)

-- a name that begins with an upper-case letter and isn't a reserved word
unfoldable pub name : Format Name
name = name_where (a_name ∷ []) Upper (λ x. not (is_reserved x))

-- the pair of what `f` reads and what `g` reads from the items after it, and the items after both
abbrev pub read_pair : {A B : Type 0} → (List Item → Parsed A) → (List Item → Parsed B)
    → List Item → Parsed (A × B)
read_pair f g ts = option_and_then (λ p. option_map (λ q. ((p.0, q.0), q.1)) (g p.1)) (f ts)

unfoldable pub pair : {A B : Type 0} → Format A → Format B → Format (A × B)
pair f g = record {
  read = read_pair f.read g.read;
  first = if f.empty then f.first ++ g.first else f.first;
  stop = if g.empty then g.stop ++ f.stop else g.stop;
  empty = f.empty && g.empty;
}

-- the format that reads what `f` reads, with `to` applied to the result
unfoldable pub shaped : {A B : Type 0} → (A → B) → Format A → Format B
shaped to f = record {
  read = λ ts. option_map (λ p. (to p.0, p.1)) (f.read ts);
  first = f.first;
  stop = f.stop;
  empty = f.empty;
}

-- reads with `w` and then with `f`, and returns only what `f` read; `before` reads with `f` and
-- then with `w`, and also returns only what `f` read
unfoldable pub preceded : {A : Type 0} → Format (Unit {0}) → Format A → Format A
preceded {A} w f = shaped (λ (p : (Unit {0}) × A). p.1) (pair w f)

unfoldable pub before : {A : Type 0} → Format A → Format (Unit {0}) → Format A
before {A} f w = shaped (λ (p : A × (Unit {0})). p.0) (pair f w)

-- reads with `f` if the token ahead meets a condition of `f.first`; otherwise takes no token and
-- returns None as the value
unfoldable pub maybe : {A : Type 0} → Format A → Format (Option A)
maybe f = record {
  read = λ ts. if begins f.first ts then option_map (λ p. (Some p.0, p.1)) (f.read ts) else Some
      (None, ts);
  first = f.first;
  stop = f.first ++ f.stop;
  empty = true;
}

-- reads with `f` if the token ahead meets a condition of `f.first`, and otherwise with `g`
unfoldable pub either : {A B : Type 0} → Format A → Format B → Format (A ⊎ B)
either f g = record {
  read = λ ts. if begins f.first ts then option_map (λ p. (inl p.0, p.1))
      (f.read ts) else option_map (λ p. (inr p.0, p.1)) (g.read ts);
  first = f.first ++ g.first;
  stop = f.stop ++ g.stop;
  empty = false;
}

-- reads with `f` again and again, at most `n` times, as long as the token ahead meets a condition
-- of `f.first`; fails if one of these reads fails
unfoldable pub read_many : {A : Type 0} → Format A → ℕ → List Item → Parsed (List A)
read_many f zero ts = Some ([], ts)
read_many f (suc n) ts =
    if begins f.first ts then option_and_then (λ p. option_map (λ q. (p.0 ∷ q.0, q.1))
    (read_many f n p.1)) (f.read ts) else Some ([], ts)

unfoldable pub many : {A : Type 0} → Format A → Format (List A)
many f = record {
  read = λ ts. read_many f (suc (length ts)) ts;
  first = f.first;
  stop = f.first ++ f.stop;
  empty = true;
}

-- puts `xs` before the list that was read, if one was
unfoldable pub prepend : {A : Type 0} → List A → Parsed (List A) → Parsed (List A)
prepend xs r = option_map (λ p. (xs ++ p.0, p.1)) r

-- reads with `f` once, and then with `g` any number of times; the results are one list
unfoldable pub some_of : {A : Type 0} → Format A → Format A → Format (List A)
some_of f g = record {
  read = λ ts. option_and_then (λ p. prepend (p.0 ∷ []) ((many g).read p.1)) (f.read ts);
  first = (pair f (many g)).first;
  stop = (pair f (many g)).stop;
  empty = (pair f (many g)).empty;
}

-- reads with `f` one or more times, with a sign of kind `k` between each two
unfoldable pub separated : {A : Type 0} → TokenKind → Format A → Format (List A)
separated k f = some_of f (preceded (token k) f)

-- the line of the token ahead, or 0 if no token is ahead
abbrev pub line_ahead : List Item → ℕ
line_ahead items = unwrap_or (option_map (λ t. t.line) (token_ahead items)) 0

-- reads with `f`, and pairs the result with the line of the token ahead
unfoldable pub lined : {A : Type 0} → Format A → Format (ℕ × A)
lined f = record {
  read = λ ts. option_map (λ p. ((line_ahead ts, p.0), p.1)) (f.read ts);
  first = f.first;
  stop = f.stop;
  empty = false;
}
