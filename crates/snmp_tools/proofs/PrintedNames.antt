-- Names are printed in order, several by one write. Between writes, the output took a prefix of the texts of the names read so far, and the rest of these
-- texts waits (`IsTakenOrWaits`).
use Rattle.std.proofs.Common.{arith, ◌≡◌, ◌⊎◌, ◌∙◌, ◌++◌, ◌+◌, ◌<◌, ap, inl, inr, refl, sym, subst, ℕ, List, [], ◌∷◌, Bor, Result, Ok, Err}
use Rattle.std.proofs.Common.{take, drop, length, get_or}
use Rattle.std.proofs.Common.{append_assoc, append-nil}
use Rattle.std.proofs.{lemmas.Grind.common_steps, lemmas.List.map-append, lemmas.List.take-append-drop}
use Rattle.std.specs.Prelude.{IfErr, OnOk}
use Rattle.snmp_io.specs.{Count.HasIncreased, Output.FailsWithin, Output.Stream, Output.octets_after, Output.stream_after}
use Rattle.snmp_io.specs.Streams.{stream_after-nil, stream_after-twice, prefix_after}
use Rattle.snmp_words.specs.Words.{texts_at}
use Rattle.snmp_tools.specs.{FaultText.Fault, FaultText.fault_of, FaultText.no_output, FaultText.outcome_of}
use Rattle.snmp_tools.specs.{declared.failure.Failure.Failure, declared.translate.Style.Style}
use Rattle.snmp_tools.specs.translate.TranslateResult.{AreNamesPrinted, HasNoText, IsPrinting, StopsAtName, StopsWithin}
use Rattle.snmp_tools.specs.translate.Text.{AreTextsOf, IsTextOf}
use Rattle.smi_tree.specs.Tree.{Contents}
use Rattle.snmp_tools.proofs.Texts.{texts-more, texts-parts}

-- the texts of `names`, one after the other, are some `taken` followed by `waiting`; the output took `taken`, which changed it from `before` to `now`
abbrev pub IsTakenOrWaits : Contents → Style → (names : List (List ℕ)) → (before now : Stream) → (waiting : List ℕ) → Type 0
IsTakenOrWaits mib style names before now waiting = (taken : List ℕ) × AreTextsOf mib style names (taken ++ waiting) × (now ≡ stream_after before taken)

-- if `text` has the texts of `names`, and `one` is the text of `name`, then `text` followed by `one` has the texts of all of these names
pub AreTextsOf-more : (mib : Contents) (style : Style) (names : List (List ℕ)) (name text one : List ℕ)
    → AreTextsOf mib style names text → IsTextOf mib style name one → AreTextsOf mib style (names ++ name ∷ []) (text ++ one)
AreTextsOf-more mib style [] name text one none is = (one, [], is, refl, ap (λ (t : List ℕ). t ++ one) none ∙ sym (append-nil one))
AreTextsOf-more mib style (n ∷ names) name text one (first, rest, here, more, whole) is =
    (first, rest ++ one, here, AreTextsOf-more mib style names name rest one more is, ap (λ (t : List ℕ). t ++ one) whole ∙ append_assoc first rest one)

module _ (mib : Contents) (style : Style) (before now : Stream) where
  -- if the text of the next name is appended to what waits, then the texts of one name more are taken or wait
  one_more_waits : (names : List (Bor (List ℕ))) (i : ℕ) (d : Bor (List ℕ)) (waiting one : List ℕ) → i < length names
      → IsTakenOrWaits mib style (texts_at (take i names)) before now waiting → IsTextOf mib style (get_or names i d).now one
      → IsTakenOrWaits mib style (texts_at (take (i + 1) names)) before now (waiting ++ one)
  one_more_waits names i d waiting one inside (taken, texts, is) is_text = (
    taken,
    subst (λ (ns : List (List ℕ)). AreTextsOf mib style ns (taken ++ (waiting ++ one))) (sym (texts-more names i d inside))
        (subst (AreTextsOf mib style (texts_at (take i names) ++ (get_or names i d).now ∷ [])) (append_assoc taken waiting one)
        (AreTextsOf-more mib style (texts_at (take i names)) (get_or names i d).now (taken ++ waiting) one texts is_text)),
    is,
  )

  -- if `new` is `old`, which waited, with the text of the next name, then the texts of one name more are taken or wait
  pub more_waits : (names : List (Bor (List ℕ))) (i : ℕ) (d : Bor (List ℕ)) (old new : List ℕ) → i < length names
      → IsTakenOrWaits mib style (texts_at (take i names)) before now old
      → (one : List ℕ) × IsTextOf mib style (get_or names i d).now one × (new ≡ old ++ one)
      → IsTakenOrWaits mib style (texts_at (take (i + 1) names)) before now new
  more_waits names i d old new inside waits (one, is_text, whole) =
      subst (IsTakenOrWaits mib style (texts_at (take (i + 1) names)) before now) (sym whole) (one_more_waits names i d old one inside waits is_text)

  -- if the output takes what waited, then nothing waits any more
  pub waiting_taken : (names : List (List ℕ)) (after : Stream) (waiting : List ℕ) → IsTakenOrWaits mib style names before now waiting
      → after ≡ stream_after now waiting → IsTakenOrWaits mib style names before after []
  waiting_taken names after waiting (taken, texts, is) more = (
    taken ++ waiting,
    subst (AreTextsOf mib style names) (sym (append-nil (taken ++ waiting))) texts,
    more ∙ ap (λ (s : Stream). stream_after s waiting) is ∙ stream_after-twice before taken waiting,
  )

  -- if nothing waits, then all of the names are printed
  none_waits : (names : List (List ℕ)) → IsTakenOrWaits mib style names before now [] → AreNamesPrinted mib style names before now
  none_waits names (taken, texts, is) = (taken, subst (AreTextsOf mib style names) (append-nil taken) texts, is)

  -- if all texts before a name are taken and the name has no text, then printing stops at this name
  pub stops_at : (names : List (Bor (List ℕ))) (i : ℕ) (d : Bor (List ℕ)) (why : Fault) → i < length names
      → IsTakenOrWaits mib style (texts_at (take i names)) before now [] → HasNoText mib (get_or names i d).now why
      → StopsWithin mib style (texts_at names) before now why
  stops_at names i d why inside (taken, texts, is) none = record {
    printed = texts_at (take i names);
    name = (get_or names i d).now;
    left = texts_at (drop (i + 1) names);
    order = texts-parts names i d inside;
    text = taken;
    shown = subst (AreTextsOf mib style (texts_at (take i names))) (append-nil taken) texts;
    stops = inl (none, is);
  }

-- `a` is `c` followed by some `p`. Or `c` is `a` followed by some `p` that isn't empty, and `b` is `p` followed by `d`. If `a ++ b` is `c ++ d`, one of the
-- two holds (`cut`).
abbrev IsCutTwice : (a b c d : List ℕ) → Type 0
IsCutTwice a b c d = ((p : List ℕ) × (a ≡ c ++ p)) ⊎ ((p : List ℕ) × (c ≡ a ++ p) × (b ≡ p ++ d) × (0 < length p))

cut_later : (x : ℕ) (a b c d : List ℕ) → IsCutTwice a b c d → IsCutTwice (x ∷ a) b (x ∷ c) d
cut_later x a b c d (inl (p, e)) = inl (p, ap (λ (t : List ℕ). x ∷ t) e)
cut_later x a b c d (inr (p, e, f, some)) = inr (p, ap (λ (t : List ℕ). x ∷ t) e, f, some)

cut : (a b c d : List ℕ) → a ++ b ≡ c ++ d → IsCutTwice a b c d
cut a b [] d h = inl (a, refl)
cut [] b (y ∷ c) d h = inr (y ∷ c, refl, h, grind (arith, common_steps))
cut (x ∷ a) b (y ∷ c) d h =
    subst (λ (z : ℕ). IsCutTwice (x ∷ a) b (z ∷ c) d) (ap (λ (t : List ℕ). get_or t 0 0) h) (cut_later x a b c d (cut a b c d (ap (drop 1) h)))

-- if printing stops at one of the names in `more` once the text of `name` is taken, then it stops at one of `name ∷ more`
later : (mib : Contents) (style : Style) (name : List ℕ) (more : List (List ℕ)) (before after : Stream) (first : List ℕ) (why : Fault)
    → IsTextOf mib style name first → StopsWithin mib style more (stream_after before first) after why
    → StopsWithin mib style (name ∷ more) before after why
later mib style name more before after first why is stopped = record {
  printed = name ∷ stopped.printed;
  name = stopped.name;
  left = stopped.left;
  order = ap (λ (ns : List (List ℕ)). name ∷ ns) stopped.order;
  text = first ++ stopped.text;
  shown = (first, stopped.text, is, stopped.shown, refl);
  stops = subst (λ (s : Stream). StopsAtName mib style s stopped.name after why) (stream_after-twice before first stopped.text) stopped.stops;
}

-- if the output fails within the text of the first name, then printing stops at that name
at_first : (mib : Contents) (style : Style) (name : List ℕ) (more : List (List ℕ)) (before after : Stream) (first : List ℕ)
    → IsTextOf mib style name first → FailsWithin before first after → StopsWithin mib style (name ∷ more) before after no_output
at_first mib style name more before after first is fails = record {
  printed = [];
  name = name;
  left = more;
  order = refl;
  text = [];
  shown = refl;
  stops = subst (λ (s : Stream). StopsAtName mib style s name after no_output) (sym (stream_after-nil before)) (inr (refl, (first, is, fails)));
}

-- if the output fails within `text`, which is `first` and then `rest`, then it fails within `first`, or takes `first` and fails within `rest`
fails_by_cut : (before after : Stream) (first rest text : List ℕ) (fails : FailsWithin before text after)
    → IsCutTwice first rest fails.begun.prefix fails.begun.rest
    → FailsWithin before first after ⊎ (FailsWithin (stream_after before first) rest after × (0 < length rest))
fails_by_cut before after first rest text fails (inl (p, e)) = inl (record {
  begun = record { prefix = fails.begun.prefix; rest = p; parts = e; taken = fails.begun.taken };
  counted = fails.counted;
})
fails_by_cut before after first rest text fails (inr (p, e, f, some)) = inr (
  record {
    begun = record {
      prefix = p;
      rest = fails.begun.rest;
      parts = f;
      taken = fails.begun.taken ∙ ap (octets_after before.taken) e ∙ sym (ap (λ (s : Stream). s.taken) (stream_after-twice before first p));
    };
    counted = fails.counted;
  },
  grind (arith, common_steps),
)

-- if the output fails within the text of the first name, or within the texts of the later names, then printing stops at one of the names
first_or_later : (mib : Contents) (style : Style) (name : List ℕ) (more : List (List ℕ)) (before after : Stream) (first rest : List ℕ)
    → IsTextOf mib style name first
    → (FailsWithin (stream_after before first) rest after → 0 < length rest → StopsWithin mib style more (stream_after before first) after no_output)
    → FailsWithin before first after ⊎ (FailsWithin (stream_after before first) rest after × (0 < length rest))
    → StopsWithin mib style (name ∷ more) before after no_output
first_or_later mib style name more before after first rest is among (inl here) = at_first mib style name more before after first is here
first_or_later mib style name more before after first rest is among (inr (there, some)) =
    later mib style name more before after first no_output is (among there some)

-- if the output fails within the texts of names, which aren't all empty, then printing stops at one of these names
fails_among : (mib : Contents) (style : Style) (names : List (List ℕ)) (text : List ℕ) (before after : Stream) → AreTextsOf mib style names text
    → 0 < length text → FailsWithin before text after → StopsWithin mib style names before after no_output
fails_among mib style [] text before after none some fails = let no : ⊥ = grind (arith, common_steps) in absurd no
fails_among mib style (name ∷ more) text before after (first, rest, is, texts, whole) some fails =
    first_or_later mib style name more before after first rest is
    (λ there longer. fails_among mib style more rest (stream_after before first) after texts longer there)
    (fails_by_cut before after first rest text fails (cut first rest fails.begun.prefix fails.begun.rest (sym whole ∙ fails.begun.parts)))

-- if printing stopped within `names`, then it stopped within a longer list that begins with them
goes_on : (mib : Contents) (style : Style) (names more : List (List ℕ)) (before after : Stream) (why : Fault)
    → StopsWithin mib style names before after why → StopsWithin mib style (names ++ more) before after why
goes_on mib style names more before after why stopped = record {
  printed = stopped.printed;
  name = stopped.name;
  left = stopped.left ++ more;
  order = ap (λ (ns : List (List ℕ)). ns ++ more) stopped.order ∙ append_assoc stopped.printed (stopped.name ∷ stopped.left) more;
  text = stopped.text;
  shown = stopped.shown;
  stops = stopped.stops;
}

-- if the output fails within what waits of the texts of the first `i` names, then printing stops at one of the names
pub fails_within : (mib : Contents) (style : Style) (names : List (Bor (List ℕ))) (i : ℕ) (before now after : Stream) (waiting : List ℕ)
    → IsTakenOrWaits mib style (texts_at (take i names)) before now waiting → 0 < length waiting → FailsWithin now waiting after
    → StopsWithin mib style (texts_at names) before after no_output
fails_within mib style names i before now after waiting (taken, texts, is) some fails =
    subst (λ (ns : List (List ℕ)). StopsWithin mib style ns before after no_output)
    (sym (map-append (λ (p : Bor (List ℕ)). p.now) (take i names) (drop i names)) ∙ ap texts_at (take-append-drop i names))
    (goes_on mib style (texts_at (take i names)) (texts_at (drop i names)) before after no_output
    (fails_among mib style (texts_at (take i names)) (taken ++ waiting) before after texts (grind (arith, common_steps)) (record {
      begun = prefix_after before now after taken waiting is fails.begun;
      counted = subst (λ (s : Stream). HasIncreased s.faults after.faults) is fails.counted;
    })))

-- if all names were read, and what waits was passed to the output, then the result of this write says whether all names were printed or printing stopped
pub all_written : (mib : Contents) (style : Style) (names : List (Bor (List ℕ))) (i : ℕ) (before now after : Stream) (waiting left : List ℕ)
    (r : Result (Unit {0}) Failure)
    → take i names ≡ names → IsTakenOrWaits mib style (texts_at (take i names)) before now waiting
    → OnOk r ((after ≡ stream_after now waiting) × (left ≡ []))
    → IfErr r (λ e. (fault_of e ≡ no_output) × (0 < length waiting) × FailsWithin now waiting after)
    → IsPrinting mib style (texts_at names) before after (outcome_of r)
all_written mib style names i before now after waiting left (Ok _) all waits written refused =
    subst (λ (ns : List (Bor (List ℕ))). AreNamesPrinted mib style (texts_at ns) before after) all
    (none_waits mib style before after (texts_at (take i names))
    (waiting_taken mib style before now (texts_at (take i names)) after waiting waits written.0))
all_written mib style names i before now after waiting left (Err e) all waits written refused =
    subst (StopsWithin mib style (texts_at names) before after) (sym refused.0)
    (fails_within mib style names i before now after waiting waits refused.1 refused.2)
