-- In the answer to a GetBulk of one name, each binding answers a GetNext of the name before it (`one_bulk`).
use Rattle.std.proofs.{lemmas.Grind.common_steps, lemmas.Int.ints, lemmas.Bool.cases_lt, lemmas.Bool.or_right}
use Rattle.std.proofs.Common.{◌≡◌, ◌≢◌, ◌⊎◌, inl, inr, true, false, ℕ, zero, suc, ◌<◌, ◌≤◌, ℤ, pos, negsuc, ◌≤ℤ◌, List, [], ◌∷◌, ◌++◌, length, take}
use Rattle.std.proofs.Common.{drop, refl, sym, ◌∙◌, ap, subst, arith, length-append, append_assoc}
use Rattle.std.specs.{Prelude.unsigned_abs, Prelude.◌||◌, List.list_any}
use Rattle.snmp_wire.specs.Message.{Datum, VarBind, Message, null_value, end_of_mib_view}
use Rattle.snmp_walk.specs.{Names.is_end, Progress.IsChain, private.Codec.Codec}
use Rattle.snmp_agent.specs.table.Table.{MibView, IsMibView, IsNext, IsNextAfter}
use Rattle.snmp_agent.specs.Reply.{AreAnswers, AreEnds, AreRounds, IsBulk, joined, or_zero}
use Rattle.snmp_walk.proofs.Variables.{next_first}

-- ---- chains

pub chain_prefix : (Next : List ℕ → VarBind → Type 0) (o : List ℕ) (prefix more : List VarBind) → IsChain Next o (prefix ++ more) → IsChain Next o prefix
chain_prefix Next o [] more h = tt
chain_prefix Next o (p ∷ prefix) more h = (h.0, chain_prefix Next p.name prefix more h.1)

pub chain_by : (Next Other : List ℕ → VarBind → Type 0) → ((o : List ℕ) (p : VarBind) → Next o p → Other o p) → (o : List ℕ) (ps : List VarBind)
    → IsChain Next o ps → IsChain Other o ps
chain_by Next Other by o [] h = tt
chain_by Next Other by o (p ∷ ps) h = (by o p h.0, chain_by Next Other by p.name ps h.1)

-- ---- one name

-- the bindings of a request for one name
abbrev asked_of : List ℕ → List VarBind
asked_of o = record { name = o; value = null_value } ∷ []

one_given : (R : VarBind → VarBind → Type 0) (o : List ℕ) (round : List VarBind) → AreAnswers R (asked_of o) round
    → (p : VarBind) × (round ≡ p ∷ []) × R (record { name = o; value = null_value }) p
one_given R o [] h = absurd h
one_given R o (p ∷ []) h = (p, refl, h.0)
one_given R o (p ∷ q ∷ more) h = absurd h.1

no_names : (R : VarBind → VarBind → Type 0) (names given : List VarBind) → AreAnswers R (take 0 names) given → given ≡ []
no_names R names [] h = refl
no_names R names (p ∷ given) h = absurd h

repeats : (z : ℤ) → or_zero z ≤ unsigned_abs z
repeats (pos n) = omega (arith, ints)
repeats (negsuc n) = omega (arith, ints)

some_repeats : (z : ℤ) → pos 1 ≤ℤ z → (or_zero z ≡ unsigned_abs z) × (0 < or_zero z)
some_repeats (pos n) h = (omega (arith, ints), omega (arith, ints, h))
some_repeats (negsuc n) h = absurd (omega (arith, ints, h))

any_later : (xs ys : List VarBind) → list_any (λ p. is_end p.value) ys ≡ true → list_any (λ p. is_end p.value) (xs ++ ys) ≡ true
any_later [] ys h = h
any_later (x ∷ xs) ys h = or_right (is_end x.value) (list_any (λ p. is_end p.value) (xs ++ ys)) (any_later xs ys h)

end_joined : (before : List (List VarBind)) (p : VarBind) → p.value ≡ end_of_mib_view
    → list_any (λ q. is_end q.value) (joined (before ++ (p ∷ []) ∷ [])) ≡ true
end_joined [] p h = ap (λ (v : Datum). is_end v || false) h
end_joined (r ∷ before) p h = any_later r (joined (before ++ (p ∷ []) ∷ [])) (end_joined before p h)

module _ (codec : Codec) (view : MibView) (good : IsMibView view) where
  -- a name has at most one successor
  one_next : (o : List ℕ) (p q : VarBind) → IsNext view o p → IsNext view o q → p ≡ q
  one_next o p q a b = next_first view good codec o p a ∙ sym (next_first view good codec o q b)

  one_after : (i : ℕ) (o : List ℕ) (p q : VarBind) → IsNextAfter view i o p → IsNextAfter view i o q → p ≡ q
  one_after zero o p q a b = one_next o p q a b
  one_after (suc i) o p q a b =
      let same : a.0 ≡ b.0 = one_after i o a.0 b.0 a.1 b.1 in
      one_next b.0.name p q (subst (λ (r : VarBind). IsNext view r.name p) same a.2) b.2

  -- o is the name that i GetNexts reach from `asked`: each after the first asks from the name that the one before it returned. If i is 0, o is `asked`. The
  -- arguments are `asked`, i and o.
  abbrev IsSuccessor : List ℕ → ℕ → List ℕ → Type 0
  IsSuccessor asked zero o = o ≡ asked
  IsSuccessor asked (suc i) o = (q : VarBind) × IsNextAfter view i asked q × (q.name ≡ o)

  next_after : (asked : List ℕ) (i : ℕ) (o : List ℕ) (p : VarBind) → IsSuccessor asked i o → IsNextAfter view i asked p → IsNext view o p
  next_after asked zero o p at h = subst (λ (n : List ℕ). IsNext view n p) (sym at) h
  next_after asked (suc i) o p at h = grind (arith, common_steps, one_after)

  -- Each round of a GetBulk of one name has one binding. If the rounds `before` have reached the name o, the bindings of the other rounds, `rest`, are a chain
  -- from o.
  chained : (asked : List ℕ) (repetitions : ℕ) (rounds : List (List VarBind)) → AreRounds view repetitions (asked_of asked) rounds
      → (rest before : List (List VarBind)) (o : List ℕ) → rounds ≡ before ++ rest → IsSuccessor asked (length before) o
      → IsChain (IsNext view) o (joined rest) × (length (joined rest) ≡ length rest)
  chained asked repetitions rounds are [] before o e at = (tt, refl)
  chained asked repetitions rounds are (round ∷ later) before o e at =
      let p = one_given (λ a g. IsNextAfter view (length before) a.name g) asked round (are.successors before later round e) in
      let whole : rounds ≡ (before ++ round ∷ []) ++ later = e ∙ sym (append_assoc before (round ∷ []) later) in
      let long : suc (length before) ≡ length (before ++ round ∷ []) = omega (arith, length-append before (round ∷ [])) in
      let there : IsSuccessor asked (suc (length before)) p.0.name = (p.0, p.2, refl) in
      let rest = chained asked repetitions rounds are later (before ++ round ∷ []) p.0.name whole (subst (λ
      (k : ℕ). IsSuccessor asked k p.0.name) long there) in
      let first : joined (round ∷ later) ≡ p.0 ∷ joined later = ap (λ (r : List VarBind). r ++ joined later) p.1 in (
        subst (λ (ps : List VarBind). IsChain (IsNext view) o ps) (sym first) (next_after asked (length before) o p.0 at p.2, rest.0),
        ap length first ∙ omega (arith, rest.1),
      )

  -- `all` is what a GetBulk of the name `asked` asks for: a chain of at most |`repetitions`| bindings; with at least one repetition, it isn't empty, and is
  -- shorter only if it has an endOfMibView
  pub record IsOneBulk (asked : List ℕ) (repetitions : ℤ) (all : List VarBind) : Type 0 where
    pub chain : IsChain (IsNext view) asked all
    pub few : length all ≤ unsigned_abs repetitions
    pub some : pos 1 ≤ℤ repetitions → all ≢ []
    pub full : pos 1 ≤ℤ repetitions → (length all ≡ unsigned_abs repetitions) ⊎ (list_any (λ p. is_end p.value) all ≡ true)

  bulk_rounds : (asked : List ℕ) (repetitions : ℤ) (rounds : List (List VarBind)) → AreRounds view (or_zero repetitions) (asked_of asked) rounds
      → IsOneBulk asked repetitions (joined rounds)
  bulk_rounds asked repetitions rounds are =
      let h = chained asked (or_zero repetitions) rounds are rounds [] asked refl refl in
      record {
        chain = h.0;
        few = omega (arith, h.1, are.few, repeats repetitions);
        some = λ positive none.
            let short : length rounds ≡ 0 = sym h.1 ∙ ap length none in
            let last = are.closed (omega (arith, short, (some_repeats repetitions positive).1)) in
            omega (arith, short, ap length last.2, length-append last.0 (last.1 ∷ []));
        full = λ positive. elim (cases_lt (length rounds) (or_zero repetitions)) [
          | inl less ↦
              let last = are.closed less in
              let p = one_given (λ a g. IsNextAfter view (length last.0) a.name g) asked last.1 (are.successors last.0 [] last.1 last.2) in
              let value : p.0.value ≡ end_of_mib_view = (subst AreEnds p.1 last.3).0 in
              let parts : rounds ≡ last.0 ++ (p.0 ∷ []) ∷ [] = last.2 ∙ ap (λ (r : List VarBind). last.0 ++ r ∷ []) p.1 in
              inr (ap (λ (rs : List (List VarBind)). list_any (λ q. is_end q.value) (joined rs)) parts ∙ end_joined last.0 p.0 value)
          | inr all ↦ inl (omega (arith, h.1, are.few, all, (some_repeats repetitions positive).0))
        ];
      }

  pub one_bulk : (q : Message) (asked : List ℕ) (all : List VarBind) → q.a ≡ pos 0 → q.bindings ≡ asked_of asked → IsBulk view q all → IsOneBulk asked q.b all
  one_bulk q asked all a names h =
      let none : h.singles ≡ [] = no_names (λ n g. IsNext view n.name g) q.bindings h.singles (subst (λ (z : ℤ). AreAnswers (λ n g. IsNext view n.name g)
      (take (or_zero z) q.bindings) h.singles) a h.are_singles) in
      let rounds : AreRounds view (or_zero q.b) (asked_of asked) h.rounds =
      subst (λ (ns : List VarBind). AreRounds view (or_zero q.b) ns h.rounds) names (subst (λ (z : ℤ). AreRounds view (or_zero q.b) (drop
      (or_zero z) q.bindings) h.rounds) a h.are_rounds) in
      let is : all ≡ joined h.rounds = h.parts ∙ ap (λ (ps : List VarBind). ps ++ joined h.rounds) none in
      subst (λ (ps : List VarBind). IsOneBulk asked q.b ps) (sym is) (bulk_rounds asked q.b h.rounds rounds)
