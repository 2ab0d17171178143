-- The lines of a reply are written at once, as if the line of each binding was written by itself
-- (`given_if`, `refused_next`, `refused_at`, `refused_if`).
use Rattle.std.proofs.Common.{arith, ◌≡◌, ◌∙◌, ◌++◌, ◌⊎◌, ℕ, List, [], ◌∷◌, Result, Ok, Err, OnOk, OnErr, IfErr, true, false, inl, inr, ap, refl}
use Rattle.std.proofs.Common.{subst, sym, append-nil, append_assoc}
use Rattle.std.proofs.lemmas.Grind.{common_steps}
use Rattle.std.specs.Result.{is_err}
use Rattle.smi_value.specs.declared.letters.Letters.{Letters}
use Rattle.snmp_wire.specs.Message.{VarBind}
use Rattle.snmp_walk.specs.{declared.end.SinkFault.SinkFault, Sink.TakesAll}
use Rattle.snmp_walk.specs.declared.end.SinkFault.TheVariants as fault
use Rattle.snmp_io.specs.{Streams.octets_after-twice, Streams.stream_after-twice, Output.FailsWithin, Output.Stream, Output.octets_after, Output.stream_after}
use Rattle.smi_show.specs.Line.{IsLine}
use Rattle.snmp_tools.specs.Lines.{AreLines}
use Rattle.smi_tree.specs.{Tree.Contents}
use Rattle.snmp_tools.proofs.Printed.{lines_of_both, prints}

-- `line` begins with `prefix`; or `prefix` is `line` followed by some `more`, and `rest` is `more` followed by `left`
abbrev Ends : (line rest prefix left : List ℕ) → Type 0
Ends line rest prefix left = ((cut : List ℕ) × (line ≡ prefix ++ cut)) ⊎ ((more : List ℕ) × (prefix ≡ line ++ more) × (rest ≡ more ++ left))

where_it_ends : (line rest prefix left : List ℕ) → line ++ rest ≡ prefix ++ left → Ends line rest prefix left
where_it_ends [] rest prefix left e = inr (prefix, refl, e)
where_it_ends (x ∷ line) rest [] left e = inl (x ∷ line, refl)
where_it_ends (x ∷ line) rest (y ∷ prefix) left e = grind (arith, common_steps, where_it_ends line rest prefix left)

-- a write of two texts fails within the first or, after it, within the second
fails_in_one : (before after : Stream) (a b : List ℕ) → FailsWithin before (a ++ b) after
    → FailsWithin before a after ⊎ FailsWithin (stream_after before a) b after
fails_in_one before after a b f =
    elim (where_it_ends a b f.begun.prefix f.begun.rest f.begun.parts) [
      | inl h ↦ inl record {
        begun = record { prefix = f.begun.prefix; rest = h.0; parts = h.1; taken = f.begun.taken };
        counted = f.counted;
      }
      | inr h ↦ inr record {
        begun = record {
          prefix = h.0;
          rest = f.begun.rest;
          parts = h.2;
          taken = f.begun.taken ∙ ap (octets_after before.taken) h.1 ∙ sym (octets_after-twice before.taken a h.0);
        };
        counted = f.counted;
      }
    ]

-- if `text` has the lines of `rows`, and `line` is the line of the row `p` by the same tree and letters, then `text` followed by `line` has the lines of
-- `rows` and then `p`
pub next_line : (tree first : Contents) (letters from : Letters) (rows : List VarBind) (p : VarBind) (text line all : List ℕ)
    → tree ≡ first → letters ≡ from → AreLines first from rows text → IsLine tree letters p.name p.value line → all ≡ text ++ line
    → AreLines first from (rows ++ p ∷ []) all
next_line tree first letters from rows p text line all same_tree same_letters lines is e = grind (arith, common_steps, lines_of_both, append-nil)

-- what is promised at `Ok` holds if the result isn't an error
pub at_ok : {E P : Type 0} (result : Result (Unit {0}) E) → false ≡ is_err result → OnOk result P → P
at_ok (Ok done) e h = h
at_ok (Err why) e h = let no : ⊥ = cc in absurd no

-- what is promised at an error holds if the result is one
pub at_err : {E P : Type 0} (result : Result (Unit {0}) E) → true ≡ is_err result → OnErr result P → P
at_err (Ok done) e h = let no : ⊥ = cc in absurd no
at_err (Err why) e h = h

-- a printer, which is in state `later s text` after its output took `text` in state `s`
module _ {S N : Type 0} (tree : S → Contents) (letters : S → Letters) (name : S → N) (stream : S → Stream) (later : S → List ℕ → S)
    (same : (s : S) (text : List ℕ) → (tree (later s text) ≡ tree s) × (letters (later s text) ≡ letters s) × (name (later s text) ≡ name s))
    (reaches : (s : S) (text : List ℕ) → stream (later s text) ≡ stream_after (stream s) text) where
  abbrev IsLike : S → S → Type 0
  IsLike new old = (tree new ≡ tree old) × (letters new ≡ letters old) × (name new ≡ name old)

  like_later : (new old : S) (text : List ℕ) → IsLike new old → IsLike new (later old text)
  like_later new old text is = let s = same old text in (is.0 ∙ sym s.0, is.1 ∙ sym s.1, is.2 ∙ sym s.2)

  lines_later : (old : S) (rows : List VarBind) (line text : List ℕ) → AreLines (tree old) (letters old) rows text
      → AreLines (tree (later old line)) (letters (later old line)) rows text
  lines_later old rows line text lines = grind (arith, common_steps)

  -- if all lines were written, the sink took all rows
  pub given_all : (old new : S) (p : VarBind) (more : List VarBind) (text : List ℕ) → IsLike new old
      → AreLines (tree old) (letters old) (p ∷ more) text → stream new ≡ stream_after (stream old) text
      → TakesAll (prints tree letters name stream) old (p ∷ more) new
  given_all old new p [] text is (line, rest, here, none, whole) taken = grind (arith, common_steps, append-nil)
  given_all old new p (q ∷ more) text is (line, rest, here, lines, whole) taken =
      let s = same old line in
      let now : stream new ≡ stream_after (stream (later old line)) rest =
      taken ∙ ap (stream_after (stream old)) whole ∙ sym (stream_after-twice (stream old) line rest)
      ∙ ap (λ st. stream_after st rest) (sym (reaches old line)) in (
        later old line,
        (s.0, s.1, s.2, (line, here, reaches old line)),
        given_all (later old line) new q more rest (like_later new old line is) (lines_later old (q ∷ more) line rest lines) now,
      )

  -- the sink took the rows of `rows` before one of them, and refused this one with the fault `why`
  abbrev IsCutOff : S → List VarBind → SinkFault → S → Type 0
  IsCutOff old rows why new =
      (prefix : List VarBind) × (p : VarBind) × (back : List VarBind) × (rows ≡ prefix ++ p ∷ back) × (between : S)
      × TakesAll (prints tree letters name stream) old prefix between × prints tree letters name stream between p (Err why) new

  refused_here : (old new : S) (p : VarBind) (more : List VarBind) (line : List ℕ) → IsLike new old
      → IsLine (tree old) (letters old) p.name p.value line → FailsWithin (stream old) line (stream new) → IsCutOff old (p ∷ more) fault.Output new
  refused_here old new p more line is here fails = ([], p, more, refl, old, refl, (is.0, is.1, is.2, (line, here, fails)))

  refused_after : (old new : S) (p : VarBind) (more : List VarBind) (line : List ℕ) (why : SinkFault)
      → IsLine (tree old) (letters old) p.name p.value line → IsCutOff (later old line) more why new → IsCutOff old (p ∷ more) why new
  refused_after old new p more line why here (prefix, q, back, order, between, given, refused) =
      let s = same old line in (
        p ∷ prefix,
        q,
        back,
        ap (λ rows. p ∷ rows) order,
        between,
        (later old line, (s.0, s.1, s.2, (line, here, reaches old line)), given),
        refused,
      )

  pub refused_one : (old new : S) (p : VarBind) (more : List VarBind) (text : List ℕ) → IsLike new old
      → AreLines (tree old) (letters old) (p ∷ more) text → FailsWithin (stream old) text (stream new)
      → IsCutOff old (p ∷ more) fault.Output new
  refused_one old new p [] text is (line, rest, here, none, whole) cut =
      let one : text ≡ line = whole ∙ ap (λ t. line ++ t) none ∙ append-nil line in
      refused_here old new p [] line is here (subst (λ t. FailsWithin (stream old) t (stream new)) one cut)
  refused_one old new p (q ∷ more) text is (line, rest, here, lines, whole) cut =
      elim (fails_in_one (stream old) (stream new) line rest (subst (λ t. FailsWithin (stream old) t (stream new)) whole cut)) [
        | inl fails ↦ refused_here old new p (q ∷ more) line is here fails
        | inr fails ↦
            refused_after old new p (q ∷ more) line fault.Output here
            (refused_one (later old line) new q more rest (like_later new old line is) (lines_later old (q ∷ more) line rest lines)
            (subst (λ s. FailsWithin s rest (stream new)) (sym (reaches old line)) fails))
      ]

  -- if a row of `rows` was refused, and `all` begins with `rows`, then this row is the refused one of `all` too
  pub refused_before : (old new : S) (rows left all : List VarBind) (why : SinkFault) → all ≡ rows ++ left → IsCutOff old rows why new
      → IsCutOff old all why new
  refused_before old new rows left all why parts (prefix, p, back, order, between, given, refused) = grind (arith, common_steps, append_assoc)

  -- the lines `text` were passed to the output; before that, the output was as in the state `old`
  module _ (old new : S) (p : VarBind) (more left all : List VarBind) (text sent : List ℕ) (start : Stream) (is : IsLike new old)
      (lines : AreLines (tree old) (letters old) (p ∷ more) text) (parts : all ≡ (p ∷ more) ++ left) (whole : sent ≡ text)
      (first : start ≡ stream old) where
    taken : stream new ≡ stream_after start sent → stream new ≡ stream_after (stream old) text
    taken e = e ∙ ap (λ (st : Stream). stream_after st sent) first ∙ ap (stream_after (stream old)) whole

    pub given_if : (result : Result (Unit {0}) SinkFault) → left ≡ [] → OnOk result (stream new ≡ stream_after start sent)
        → OnOk result (TakesAll (prints tree letters name stream) old all new)
    given_if (Ok done) none e =
        let P : List VarBind → Type 0 = λ rows. TakesAll (prints tree letters name stream) old rows new in
        let is_all : all ≡ p ∷ more = parts ∙ ap (λ ps. (p ∷ more) ++ ps) none ∙ append-nil (p ∷ more) in
        subst P (sym is_all) (given_all old new p more text is lines (taken e))
    given_if (Err why) none e = tt

    -- if `text` was written and memory ran out for the line of the next row, then the sink took the rows before and refused this one
    pub refused_next : (q : VarBind) (more_left : List VarBind) → left ≡ q ∷ more_left → stream new ≡ stream_after start sent
        → IsCutOff old all fault.Memory new
    refused_next q more_left next e = (
      p ∷ more,
      q,
      more_left,
      parts ∙ ap (λ ps. (p ∷ more) ++ ps) next,
      new,
      given_all old new p more text is lines (taken e),
      (refl, refl, refl, refl),
    )

    pub refused_at : (why : SinkFault) → (why ≡ fault.Output) × FailsWithin start sent (stream new) → IsCutOff old all why new
    refused_at why cut =
        let P : Stream → Type 0 = λ st. FailsWithin st text (stream new) in
        let Q : List ℕ → Type 0 = λ t. FailsWithin start t (stream new) in
        let W : SinkFault → Type 0 = λ f. IsCutOff old all f new in
        subst W (sym cut.0)
        (refused_before old new (p ∷ more) left all fault.Output parts
        (refused_one old new p more text is lines (subst P first (subst Q whole cut.1))))

    pub refused_if : (result : Result (Unit {0}) SinkFault) → IfErr result (λ why. (why ≡ fault.Output) × FailsWithin start sent (stream new))
        → IfErr result (λ why. IsCutOff old all why new)
    refused_if (Ok done) cut = tt
    refused_if (Err why) cut = refused_at why cut
