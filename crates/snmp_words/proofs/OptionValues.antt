-- The texts and numbers that were given for a command's options (the parser's rows: one for each id, with its texts), and the job that they ask for.
use Rattle.std.proofs.Common.{◌≡◌, ◌∙◌, ◌++◌, ap, ap₂, refl, subst, sym, true, false, Bool, List, [], ◌∷◌, Option, Some, None, ℕ, ◌⊎◌, inl, inr}
use Rattle.std.proofs.lemmas.Grind.{common_steps}
use Rattle.std.proofs.Common.{arith, Bor, unwrap_or, option_map, option_and_then}
use Rattle.std.specs.{Prelude.if◌then◌else◌, Prelude.MatchOption, List.flat_map, List.join_by, Str.Parse.digits_value, Str.Parse.without_leading_plus}
use Rattle.clap.specs.{Values.IsUnsignedIn, ValueTests.is_unsigned_in, Simple.subcommand_of, Walk.Row, Walk.Text, Walk.first_of, Walk.texts}
use Rattle.clap.proofs.ValueTestLemmas.{Accepts-accepts, accepts-Accepts}
use Rattle.clap.specs.declared.builder.value_parser.ValueParser.TheVariants.{Unsigned}
use Rattle.snmp_words.specs.Command.{snmp_app}
use Rattle.snmp_words.specs.Words.{AreNumbersOf, IsNumberOf, Numbers, StateJob, Stated, StatesNumber, number_in, numbers_in, readings, stated_among}
use Rattle.snmp_words.specs.Words.{stated_in}

-- joining texts with nothing between them is appending them, one after the other
pub joined : (given : List (Bor (List ℕ))) → join_by (λ s. s.now) [] given ≡ flat_map (λ t. t) (texts given)
joined [] = refl
joined (s ∷ more) = ap (λ t. s.now ++ t) (rest more)
  where
    rest : (xs : List (Bor (List ℕ))) → flat_map (λ s. [] ++ s.now) xs ≡ flat_map (λ t. t) (texts xs)
    rest [] = refl
    rest (x ∷ xs) = ap (λ t. x.now ++ t) (rest xs)

pub number_read : (low high : ℕ) (text : List ℕ) → IsUnsignedIn low high text → Some (digits_value 10 (without_leading_plus text)) ≡ number_in low high text
number_read low high text is =
    ap (λ b. if b then Some (digits_value 10 (without_leading_plus text)) else None) (sym (Accepts-accepts false (Unsigned low high) text is))

pub number_refused : (low high : ℕ) (text : List ℕ) → (IsUnsignedIn low high text → ⊥) → None ≡ number_in low high text
number_refused low high text not_in = go (is_unsigned_in low high text) (λ e. not_in (accepts-Accepts false (Unsigned low high) text e))
  where
    go : (b : Bool) → (b ≡ true → ⊥) → None ≡ (if b then Some (digits_value 10 (without_leading_plus text)) else None)
    go true never = absurd (never refl)
    go false never = refl

-- the numbers that `numbers_in` computes from the parser's rows are the numbers of the options, as `IsNumberOf` says
are_numbers : (rows : List Row) → AreNumbersOf rows (numbers_in rows)
are_numbers rows id default low high = by (first_of id rows)
  where
    in_range : (text : List ℕ) (m : ℕ) → StatesNumber low high text m → is_unsigned_in low high text ≡ true
    in_range text m h = Accepts-accepts false (Unsigned low high) text (
      h.digits,
      omega (arith, h.value, h.fits),
      omega (arith, h.value, h.from),
      omega (arith, h.value, h.to),
    )

    at : (text : List ℕ) (b : Bool) → is_unsigned_in low high text ≡ b
        → let n : ℕ = unwrap_or (if b then Some (digits_value 10 (without_leading_plus text)) else None) default in
        StatesNumber low high text n ⊎ (((m : ℕ) → StatesNumber low high text m → ⊥) × (n ≡ default))
    at text true e =
        let is : IsUnsignedIn low high text = accepts-Accepts false (Unsigned low high) text e in
        inl (record { digits = is.0; value = refl; fits = is.1; from = is.2; to = is.3 })
    at text false e = inr ((λ m h. let yes = in_range text m h in let no : ⊥ = cc in no), refl)

    by : (given : Option (List ℕ)) → let n : ℕ = unwrap_or (option_and_then (number_in low high) given) default in
        MatchOption given (n ≡ default) (λ text. StatesNumber low high text n ⊎ (((m : ℕ) → StatesNumber low high text m → ⊥) × (n ≡ default)))
    by None = refl
    by (Some text) = at text (is_unsigned_in low high text) refl

-- an option has at most one number: if `n` and `m` are its numbers, they are equal
one_number : (id : List ℕ) (default low high : ℕ) (rows : List Row) (n m : ℕ)
    → IsNumberOf id default low high rows n → IsNumberOf id default low high rows m → n ≡ m
one_number id default low high rows n m = by (first_of id rows)
  where
    by : (given : Option Text)
        → MatchOption given (n ≡ default) (λ text. StatesNumber low high text n ⊎ (((k : ℕ) → StatesNumber low high text k → ⊥) × (n ≡ default)))
        → MatchOption given (m ≡ default) (λ text. StatesNumber low high text m ⊎ (((k : ℕ) → StatesNumber low high text k → ⊥) × (m ≡ default)))
        → n ≡ m
    by None h k = h ∙ sym k
    by (Some text) (inl h) (inl k) = h.value ∙ sym k.value
    by (Some text) (inl h) (inr k) = absurd (k.0 n h)
    by (Some text) (inr h) (inl k) = absurd (h.0 m k)
    by (Some text) (inr h) (inr k) = h.1 ∙ sym k.1

-- if `stated_in` computes `job` from the subcommand that `words` name, then `words` ask for `job`
pub states : (words : List Text) (job : Stated) → stated_in (subcommand_of snmp_app words) ≡ Some job → StateJob words job
states words job = at (subcommand_of snmp_app words) refl
  where
    at : (given : Option (Text × List Row)) → subcommand_of snmp_app words ≡ given → stated_in given ≡ Some job → StateJob words job
    at None is e = let no : ⊥ = cc in absurd no
    at (Some (command, rows)) is e = record {
      command = command;
      rows = rows;
      given = is;
      numbers = numbers_in rows;
      are_numbers = are_numbers rows;
      stated = e;
    }

pub one_job : (words : List Text) (job other : Stated) → StateJob words job → StateJob words other → job ≡ other
one_job words job other h k =
    let is : (h.command, h.rows) ≡ (k.command, k.rows) = (let e = h.given in let f = k.given in cc) in
    same _ _ is h.numbers k.numbers h.are_numbers k.are_numbers h.stated k.stated
  where
    same : (p q : Text × List Row) → p ≡ q → (m n : Numbers) → AreNumbersOf p.1 m → AreNumbersOf q.1 n
        → stated_among (readings m) p ≡ Some job → stated_among (readings n) q ≡ Some other → job ≡ other
    same p q is m n are others e f =
        let of_q : AreNumbersOf q.1 m = subst (λ (r : Text × List Row). AreNumbersOf r.1 m) is are in
        let numbers : m ≡ n = λ i id default low high. one_number id default low high q.1 _ _ (of_q id default low high) (others id default low high) i in
        let both : stated_among (readings m) p ≡ stated_among (readings n) q =
        ap₂ (λ (x : Numbers) (r : Text × List Row). stated_among (readings x) r) numbers is in
        let jobs : Some job ≡ Some other = sym e ∙ both ∙ f in cc

-- If `found` is a slice with the texts `rows`, and `all` is this slice, then `all` has the texts `rows`. If `found` and `rows` are None, and `all` is `none`,
-- which is empty, then `all` has no texts.
pub found_texts : (found : Option (Bor (List (Bor (List ℕ))))) (rows : Option (List (List ℕ))) (none all : Bor (List (Bor (List ℕ))))
    → option_map (λ s. texts s.now) found ≡ rows → none.now ≡ [] → all ≡ unwrap_or found none → texts all.now ≡ unwrap_or rows []
found_texts None rows none all e empty is = grind (arith, common_steps)
found_texts (Some s) rows none all e empty is = grind (arith, common_steps)
