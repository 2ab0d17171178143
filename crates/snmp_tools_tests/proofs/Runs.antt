-- If all that is recorded of the events of two ends is the record of one faithful run, then they are the ends of one run (`one_run`).
use Rattle.std.proofs.Common.{◌≡◌, ◌∙◌, ◌⊎◌, inl, inr, ℕ, List, [], ◌∷◌, ◌++◌, refl, sym, ap, subst, append-nil}
use Rattle.snmp_agent.specs.Event.{Event, came, receive_failed, send_failed, sent, silence}
use Rattle.snmp_walk.specs.{Link.OneOf, Network.Happening, Network.IsFaithful, Network.at_agents, Network.at_walk}
use Rattle.snmp_walk.specs.Network.{of_agents, of_walk, tried}
use Rattle.snmp_tools.specs.BothEnds.{AreEndsOfOneRun}
use Rattle.snmp_tools_tests.specs.Recorded.{all_recorded, recorded}

abbrev Run : Type 0
Run = List (Happening (Unit {0}))

abbrev Events : Type 0
Events = List (Event (Unit {0}))

-- ---- events that aren't recorded

abbrev IsQuiet : Happening (Unit {0}) → Type 0
IsQuiet (at_walk e) = recorded e ≡ []
IsQuiet (at_agents e) = recorded e ≡ []

abbrev AreQuiet : Events → Type 0
AreQuiet [] = Unit {0}
AreQuiet (e ∷ more) = (recorded e ≡ []) × AreQuiet more

-- the events are any number, or none, that aren't recorded, then `e`, then others, of which `left` is recorded
record BeginsWith (events : Events) (e : Event (Unit {0})) (left : Events) : Type 0 where
  before : Events
  after : Events
  quiet : AreQuiet before
  parts : events ≡ before ++ e ∷ after
  rest : all_recorded after ≡ left

-- what is recorded of an event is nothing, or the event itself
record_of : (e : Event (Unit {0})) → (recorded e ≡ []) ⊎ (recorded e ≡ e ∷ [])
record_of (came peer d) = inr refl
record_of (sent peer d) = inr refl
record_of silence = inl refl
record_of receive_failed = inl refl
record_of (send_failed peer d) = inl refl

begins : (events : Events) (e : Event (Unit {0})) (left : Events) → all_recorded events ≡ e ∷ left → BeginsWith events e left
begins [] e left is = let no : ⊥ = cc in absurd no
begins (x ∷ events) e left is = elim (record_of x) [
  | inl quiet ↦
      let more = begins events e left (sym (ap (λ (es : Events). es ++ all_recorded events) quiet) ∙ is) in
      record {
        before = x ∷ more.before;
        after = more.after;
        quiet = (quiet, more.quiet);
        parts = ap (λ (es : Events). x ∷ es) more.parts;
        rest = more.rest;
      }
  | inr one ↦
      let both : x ∷ all_recorded events ≡ e ∷ left = sym (ap (λ (es : Events). es ++ all_recorded events) one) ∙ is in
      let same : x ≡ e = cc in
      let rest : all_recorded events ≡ left = cc in
      record {
        before = [];
        after = events;
        quiet = tt;
        parts = ap (λ (y : Event (Unit {0})). y ∷ events) same;
        rest = rest;
      }
]

all_quiet : (events : Events) → all_recorded events ≡ [] → AreQuiet events
all_quiet [] is = tt
all_quiet (x ∷ events) is = elim (record_of x) [
  | inl quiet ↦ (quiet, all_quiet events (sym (ap (λ (es : Events). es ++ all_recorded events) quiet) ∙ is))
  | inr one ↦
      let both : x ∷ all_recorded events ≡ [] = sym (ap (λ (es : Events). es ++ all_recorded events) one) ∙ is in
      let no : ⊥ = cc in
      absurd no
]

-- ---- a run with more events

-- `whole` is the run with more events, which aren't recorded
abbrev IsWithin : (run whole : Run) → Type 0
IsWithin run [] = run ≡ []
IsWithin run (x ∷ whole) = ((rest : Run) × (run ≡ x ∷ rest) × IsWithin rest whole) ⊎ (IsQuiet x × IsWithin run whole)

in_whole : (whole run : Run) (x : Happening (Unit {0})) → IsWithin run whole → OneOf run x → OneOf whole x
in_whole [] run x within one = absurd (subst (λ (r : Run). OneOf r x) within one)
in_whole (y ∷ whole) run x (inl (rest, is, within)) one = elim (subst (λ (r : Run). OneOf r x) is one) [
  | inl same ↦ inl same
  | inr later ↦ inr (in_whole whole rest x within later)
]
in_whole (y ∷ whole) run x (inr (quiet, within)) one = inr (in_whole whole run x within one)

module _ (d : List ℕ) where
  tried_more : (x : Happening (Unit {0})) (run : Run) → OneOf (tried (of_walk run)) d → OneOf (tried (of_walk (x ∷ run))) d
  tried_more (at_walk (sent peer y)) run one = inr one
  tried_more (at_walk (send_failed peer y)) run one = inr one
  tried_more x run one = one

  tried_first : (x : Happening (Unit {0})) (run other : Run) → OneOf (tried (of_walk (x ∷ run))) d
      → OneOf (tried (of_walk (x ∷ other))) d ⊎ OneOf (tried (of_walk run)) d
  tried_first (at_walk (sent peer y)) run other (inl same) = inl (inl same)
  tried_first (at_walk (sent peer y)) run other (inr one) = inr one
  tried_first (at_walk (send_failed peer y)) run other (inl same) = inl (inl same)
  tried_first (at_walk (send_failed peer y)) run other (inr one) = inr one
  tried_first x run other one = inr one

  tried_in_whole : (whole run : Run) → IsWithin run whole → OneOf (tried (of_walk run)) d → OneOf (tried (of_walk whole)) d
  tried_in_whole [] run within one = absurd (subst (λ (r : Run). OneOf (tried (of_walk r)) d) within one)
  tried_in_whole (y ∷ whole) run (inl (rest, is, within)) one =
      elim (tried_first y rest whole (subst (λ (r : Run). OneOf (tried (of_walk r)) d) is one)) [
        | inl here ↦ here
        | inr later ↦ tried_more y whole (tried_in_whole whole rest within later)
      ]
  tried_in_whole (y ∷ whole) run (inr (quiet, within)) one = tried_more y whole (tried_in_whole whole run within one)

-- if the run is within `before`, `x` and `after`, and something is recorded of `x`, then `x` is in the run, and the run up to it is within `before`
up_to : (before after : Run) (x : Happening (Unit {0})) (run : Run) → (IsQuiet x → ⊥) → IsWithin run (before ++ x ∷ after)
    → (first : Run) × (rest : Run) × (run ≡ first ++ x ∷ rest) × IsWithin first before
up_to [] after x run loud (inl (rest, is, within)) = ([], rest, is, refl)
up_to [] after x run loud (inr (quiet, within)) = absurd (loud quiet)
up_to (y ∷ before) after x run loud (inl (rest, is, within)) =
    let s = up_to before after x rest loud within in
    (y ∷ s.0, s.1, is ∙ ap (λ (r : Run). y ∷ r) s.2, inl (s.0, refl, s.3))
up_to (y ∷ before) after x run loud (inr (quiet, within)) =
    let s = up_to before after x run loud within in (s.0, s.1, s.2, inr (quiet, s.3))

loud_came : (peer : Unit {0}) (d : List ℕ) → recorded (came peer d) ≡ [] → ⊥
loud_came peer d quiet = let no : ⊥ = cc in no

faithful_whole : (run whole : Run) → IsFaithful tt run → IsWithin run whole → IsFaithful tt whole
faithful_whole run whole faithful within = record {
  replies = λ before after peer d is m spelt.
      let s = up_to before after (at_walk (came peer d)) run (loud_came peer d) (subst (λ (w : Run). IsWithin run w) is within) in
      elim (faithful.replies s.0 s.1 peer d s.2 m spelt) [
        | inl was ↦ inl (in_whole before s.0 (at_agents (sent tt d)) s.3 was)
        | inr was ↦ inr (in_whole before s.0 (at_agents (send_failed tt d)) s.3 was)
      ];
  requests = λ before after d is.
      let s = up_to before after (at_agents (came tt d)) run (loud_came tt d) (subst (λ (w : Run). IsWithin run w) is within) in
      tried_in_whole d before s.0 s.3 (faithful.requests s.0 s.1 d s.2);
}

-- ---- one run with all events of both ends

record IsJoined (asked served : Events) (run : Run) : Type 0 where
  whole : Run
  walk : of_walk whole ≡ asked
  agents : of_agents whole ≡ served
  within : IsWithin run whole

-- events of an end that aren't recorded can be put before a run
walk_first : (events : Events) (asked served : Events) (run : Run) → AreQuiet events → IsJoined asked served run
    → IsJoined (events ++ asked) served run
walk_first [] asked served run quiet j = j
walk_first (e ∷ events) asked served run quiet j =
    let more = walk_first events asked served run quiet.1 j in
    record {
      whole = at_walk e ∷ more.whole;
      walk = ap (λ (es : Events). e ∷ es) more.walk;
      agents = more.agents;
      within = inr (quiet.0, more.within);
    }

agents_first : (events : Events) (asked served : Events) (run : Run) → AreQuiet events → IsJoined asked served run
    → IsJoined asked (events ++ served) run
agents_first [] asked served run quiet j = j
agents_first (e ∷ events) asked served run quiet j =
    let more = agents_first events asked served run quiet.1 j in
    record {
      whole = at_agents e ∷ more.whole;
      walk = more.walk;
      agents = ap (λ (es : Events). e ∷ es) more.agents;
      within = inr (quiet.0, more.within);
    }

joined : (run : Run) (asked served : Events) → all_recorded asked ≡ of_walk run → all_recorded served ≡ of_agents run → IsJoined asked served run
joined [] asked served walk agents =
    let none : IsJoined [] [] [] = record { whole = []; walk = refl; agents = refl; within = refl } in
    let j = agents_first served [] [] [] (all_quiet served agents) none in
    let k = walk_first asked [] (served ++ []) [] (all_quiet asked walk) j in
    subst (λ (es : Events). IsJoined es served []) (append-nil asked)
    (subst (λ (es : Events). IsJoined (asked ++ []) es []) (append-nil served) k)
joined (at_walk e ∷ run) asked served walk agents =
    let b = begins asked e (of_walk run) walk in
    let more = joined run b.after served b.rest agents in
    let here : IsJoined (e ∷ b.after) served (at_walk e ∷ run) = record {
      whole = at_walk e ∷ more.whole;
      walk = ap (λ (es : Events). e ∷ es) more.walk;
      agents = more.agents;
      within = inl (run, refl, more.within);
    } in
    subst (λ (es : Events). IsJoined es served (at_walk e ∷ run)) (sym b.parts)
    (walk_first b.before (e ∷ b.after) served (at_walk e ∷ run) b.quiet here)
joined (at_agents e ∷ run) asked served walk agents =
    let b = begins served e (of_agents run) agents in
    let more = joined run asked b.after walk b.rest in
    let here : IsJoined asked (e ∷ b.after) (at_agents e ∷ run) = record {
      whole = at_agents e ∷ more.whole;
      walk = more.walk;
      agents = ap (λ (es : Events). e ∷ es) more.agents;
      within = inl (run, refl, more.within);
    } in
    subst (λ (es : Events). IsJoined asked es (at_agents e ∷ run)) (sym b.parts)
    (agents_first b.before asked (e ∷ b.after) (at_agents e ∷ run) b.quiet here)

-- if all that is recorded of the two ends is the record of one faithful run, then they are the ends of one run
pub one_run : (run : Run) (asked served : Events) → IsFaithful tt run → all_recorded asked ≡ of_walk run → all_recorded served ≡ of_agents run
    → AreEndsOfOneRun asked served
one_run run asked served faithful walk agents =
    let j = joined run asked served walk agents in
    record {
      walker = tt;
      run = j.whole;
      at_walk = j.walk;
      at_agents = j.agents;
      faithful = faithful_whole run j.whole faithful j.within;
    }
