-- What is recorded of a network stays a record of a faithful run, whatever happens next.
use Rattle.std.proofs.Common.{◌≡◌, ◌∙◌, ◌⊎◌, inl, inr, ℕ, zero, suc, List, [], ◌∷◌, ◌++◌, Option, Some, None, refl, sym, ap, subst}
use Rattle.std.specs.{Prelude.Result, Prelude.Ok, Prelude.Err, Prelude.IfSome, Prelude.IfNone, Prelude.OnErr, Prelude.OnOk, Prelude.map, Prelude.take}
use Rattle.std.specs.{List.slice_get, declared.alloc.AllocError.AllocError}
use Rattle.snmp_agent.specs.declared.endpoint.EndpointFault.{EndpointFault}
use Rattle.snmp_agent.specs.Event.{Event, InTurn, came, event_of_receive, event_of_reply, receive_failed, send_failed, sent, silence}
use Rattle.snmp_walk.specs.{Link.OneOf, Traffic.datagram_at, declared.memory_network.MemoryNetwork.MemoryNetwork}
use Rattle.snmp_walk.specs.MemoryNetwork.{Carries, IsNew, replies_by, replies_of, requests_of}
use Rattle.snmp_walk.specs.Network.{Happening, IsFaithful, IsTriedTo, at_agents, at_walk, event_of_got, event_of_send, of_walk, requests_by, tried}
use Rattle.snmp_walk.specs.declared.end.LinkFault.{LinkFault}
use Rattle.snmp_tools_tests.specs.Recorded.{HappensAtAgent, IsRecordOf, Recording, happening_of, recorded}
use Rattle.snmp_tools_tests.specs.declared.both_ends.recorded.Entry.{Entry}

abbrev Run : Type 0
Run = List (Happening (Unit {0}))

abbrev Datagrams : Type 0
Datagrams = List (List ℕ)

-- ---- members of lists

one_of : (all : Datagrams) (k : ℕ) (d : List ℕ) → slice_get all k ≡ Some d → OneOf all d
one_of [] k d e = let no : ⊥ = cc in absurd no
one_of (x ∷ all) zero d e = let same : d ≡ x = cc in inl same
one_of (x ∷ all) (suc k) d e = inr (one_of all k d e)

found : (all : Datagrams) (k : ℕ) (d : List ℕ) → datagram_at all k ≡ Some d → OneOf all d
found all zero d e = let no : ⊥ = cc in absurd no
found all (suc k) d e = one_of all k d e

module _ {X : Type 0} (x : X) where
  either : (xs ys : List X) → OneOf (xs ++ ys) x → OneOf xs x ⊎ OneOf ys x
  either [] ys one = inr one
  either (y ∷ xs) ys (inl e) = inl (inl e)
  either (y ∷ xs) ys (inr one) = elim (either xs ys one) [
    | inl h ↦ inl (inr h)
    | inr h ↦ inr h
  ]

  in_first : (xs ys : List X) → OneOf xs x → OneOf (xs ++ ys) x
  in_first [] ys one = absurd one
  in_first (y ∷ xs) ys (inl e) = inl e
  in_first (y ∷ xs) ys (inr one) = inr (in_first xs ys one)

  at_end : (xs : List X) → OneOf (xs ++ x ∷ []) x
  at_end [] = inl refl
  at_end (y ∷ xs) = inr (at_end xs)

module _ (d : List ℕ) where
  still_tried : (run more : Run) → OneOf (tried (of_walk run)) d → OneOf (tried (of_walk (run ++ more))) d
  still_tried [] more one = absurd one
  still_tried (at_walk (sent peer y) ∷ run) more (inl e) = inl e
  still_tried (at_walk (sent peer y) ∷ run) more (inr one) = inr (still_tried run more one)
  still_tried (at_walk (send_failed peer y) ∷ run) more (inl e) = inl e
  still_tried (at_walk (send_failed peer y) ∷ run) more (inr one) = inr (still_tried run more one)
  still_tried (x ∷ run) more one = still_tried run more one

  tried_at_end : (run : Run) → OneOf (tried (of_walk (run ++ at_walk (sent tt d) ∷ []))) d
  tried_at_end [] = inl refl
  tried_at_end (at_walk (sent peer y) ∷ run) = inr (tried_at_end run)
  tried_at_end (at_walk (send_failed peer y) ∷ run) = inr (tried_at_end run)
  tried_at_end (x ∷ run) = tried_at_end run

  still_sent : (run more : Run) → IsTriedTo tt run d → IsTriedTo tt (run ++ more) d
  still_sent run more (inl one) = inl (in_first (at_agents (sent tt d)) run more one)
  still_sent run more (inr one) = inr (in_first (at_agents (send_failed tt d)) run more one)

-- ---- a faithful run and one event more

-- an event may follow a run: if a datagram arrives in the event, it was passed to a send at the other end in the run, which may have failed
abbrev IsAllowed : Run → Happening (Unit {0}) → Type 0
IsAllowed run (at_walk (came peer d)) = IsTriedTo tt run d
IsAllowed run (at_agents (came peer d)) = OneOf (tried (of_walk run)) d
IsAllowed run _ = Unit {0}

not_nil : (before after : Run) (c : Happening (Unit {0})) → [] ≡ before ++ c ∷ after → ⊥
not_nil [] after c is = let no : ⊥ = cc in no
not_nil (b ∷ before) after c is = let no : ⊥ = cc in no

module _ (x c : Happening (Unit {0})) (after : Run) where
  before_or_last : (run before : Run) → run ++ x ∷ [] ≡ before ++ c ∷ after
      → ((rest : Run) × (run ≡ before ++ c ∷ rest)) ⊎ ((run ≡ before) × (x ≡ c))
  before_or_last [] [] is = let same : x ≡ c = cc in inr (refl, same)
  before_or_last [] (b ∷ before) is = let left : [] ≡ before ++ c ∷ after = cc in absurd (not_nil before after c left)
  before_or_last (r ∷ run) [] is = let same : r ≡ c = cc in inl (run, ap (λ (y : Happening (Unit {0})). y ∷ run) same)
  before_or_last (r ∷ run) (b ∷ before) is =
      let same : r ≡ b = cc in
      let left : run ++ x ∷ [] ≡ before ++ c ∷ after = cc in
      elim (before_or_last run before left) [
        | inl (rest, parts) ↦ let all : r ∷ run ≡ b ∷ (before ++ c ∷ rest) = cc in inl (rest, all)
        | inr (all, last) ↦ let both : r ∷ run ≡ b ∷ before = cc in inr (both, last)
      ]

faithful_more : (run : Run) (x : Happening (Unit {0})) → IsFaithful tt run → IsAllowed run x → IsFaithful tt (run ++ x ∷ [])
faithful_more run x faithful allowed = record {
  replies = λ before after peer d is m spelt. elim (before_or_last x (at_walk (came peer d)) after run before is) [
    | inl (rest, parts) ↦ faithful.replies before rest peer d parts m spelt
    | inr (all, last) ↦ subst (λ (r : Run). IsTriedTo tt r d) all (subst (IsAllowed run) last allowed)
  ];
  requests = λ before after d is. elim (before_or_last x (at_agents (came tt d)) after run before is) [
    | inl (rest, parts) ↦ faithful.requests before rest d parts
    | inr (all, last) ↦ subst (λ (r : Run). OneOf (tried (of_walk r)) d) all (subst (IsAllowed run) last allowed)
  ];
}

-- ---- the record after an event

module _ (old new : MemoryNetwork) (run : Run) (kept : IsRecordOf old run) where
  -- if `e` sends nothing, the record before it is also one of the network after it
  pub unrecorded : (e : Happening (Unit {0})) → requests_by e ≡ [] → replies_by e ≡ [] → Carries old e new → IsRecordOf new run
  unrecorded e none no_reply h = record {
    requests = λ d one. elim (either d (requests_of old) (requests_by e) (subst (λ (ds : Datagrams). OneOf ds d) h.requests one)) [
      | inl earlier ↦ kept.requests d earlier
      | inr now ↦ absurd (subst (λ (ds : Datagrams). OneOf ds d) none now)
    ];
    replies = λ d one. elim (either d (replies_of old) (replies_by e) (subst (λ (ds : Datagrams). OneOf ds d) h.replies one)) [
      | inl earlier ↦ kept.replies d earlier
      | inr now ↦ absurd (subst (λ (ds : Datagrams). OneOf ds d) no_reply now)
    ];
    faithful = kept.faithful;
  }

  -- if `e` happened, `x` is allowed, and what `e` sent is in the record with `x`, then the record with `x` is one of the network
  recorded_so : (e x : Happening (Unit {0})) → Carries old e new → IsAllowed run x
      → ((d : List ℕ) → OneOf (requests_by e) d → OneOf (tried (of_walk (run ++ x ∷ []))) d)
      → ((d : List ℕ) → OneOf (replies_by e) d → IsTriedTo tt (run ++ x ∷ []) d) → IsRecordOf new (run ++ x ∷ [])
  recorded_so e x h allowed of_request of_reply = record {
    requests = λ d one. elim (either d (requests_of old) (requests_by e) (subst (λ (ds : Datagrams). OneOf ds d) h.requests one)) [
      | inl earlier ↦ still_tried d run (x ∷ []) (kept.requests d earlier)
      | inr now ↦ of_request d now
    ];
    replies = λ d one. elim (either d (replies_of old) (replies_by e) (subst (λ (ds : Datagrams). OneOf ds d) h.replies one)) [
      | inl earlier ↦ still_sent d run (x ∷ []) (kept.replies d earlier)
      | inr now ↦ of_reply d now
    ];
    faithful = faithful_more run x kept.faithful allowed;
  }

  pub request_sent : (d : List ℕ) → Carries old (at_walk (sent tt d)) new → IsRecordOf new (run ++ at_walk (sent tt d) ∷ [])
  request_sent d h = recorded_so (at_walk (sent tt d)) (at_walk (sent tt d)) h tt
      (λ x one. elim one [
        | inl same ↦ subst (λ (y : List ℕ). OneOf (tried (of_walk (run ++ at_walk (sent tt d) ∷ []))) y) (sym same) (tried_at_end d run)
        | inr none ↦ absurd none
      ])
      (λ x none. absurd none)

  pub request_lost : (d : List ℕ) → Carries old (at_walk (send_failed tt d)) new → IsRecordOf new (run ++ at_walk (sent tt d) ∷ [])
  request_lost d h = recorded_so (at_walk (send_failed tt d)) (at_walk (sent tt d)) h tt (λ x none. absurd none) (λ x none. absurd none)

  pub reply_sent : (peer : Unit {0}) (d : List ℕ) → Carries old (at_agents (sent peer d)) new → IsRecordOf new (run ++ at_agents (sent tt d) ∷ [])
  reply_sent peer d h = recorded_so (at_agents (sent peer d)) (at_agents (sent tt d)) h tt
      (λ x none. absurd none)
      (λ x one. elim one [
        | inl same ↦
            inl
            (subst (λ (y : List ℕ). OneOf (run ++ at_agents (sent tt d) ∷ []) (at_agents (sent tt y))) (sym same)
            (at_end (at_agents (sent tt d)) run))
        | inr none ↦ absurd none
      ])

  pub reply_lost : (peer : Unit {0}) (d : List ℕ) → Carries old (at_agents (send_failed peer d)) new → IsRecordOf new (run ++ at_agents (sent tt d) ∷ [])
  reply_lost peer d h = recorded_so (at_agents (send_failed peer d)) (at_agents (sent tt d)) h tt (λ x none. absurd none) (λ x none. absurd none)

  pub request_arrived : (peer : Unit {0}) (d : List ℕ) → Carries old (at_agents (came peer d)) new → IsRecordOf new (run ++ at_agents (came tt d) ∷ [])
  request_arrived peer d h = recorded_so (at_agents (came peer d)) (at_agents (came tt d)) h
      (kept.requests d (found (requests_of old) h.used.0 d h.used.2)) (λ x none. absurd none) (λ x none. absurd none)

  pub reply_arrived : (peer : Unit {0}) (d : List ℕ) → Carries old (at_walk (came peer d)) new → IsRecordOf new (run ++ at_walk (came tt d) ∷ [])
  reply_arrived peer d h = recorded_so (at_walk (came peer d)) (at_walk (came tt d)) h
      (kept.replies d (found (replies_of old) h.used.0 d h.used.2)) (λ x none. absurd none) (λ x none. absurd none)

  -- if the walk passed `d` to a send, which may have failed, then the record with a send of `d` is one of the network after it
  pub of_send : (result : Result (Unit {0}) LinkFault) (d : List ℕ) → Carries old (at_walk (event_of_send result d)) new
      → IsRecordOf new (run ++ at_walk (sent tt d) ∷ [])
  of_send (Ok done) d h = request_sent d h
  of_send (Err fault) d h = request_lost d h

  -- if the agent passed `d` to a reply, which may have failed, then the record with a send of `d` is one of the network after it
  pub of_reply : (result : Result (Unit {0}) EndpointFault) (peer : Unit {0}) (d : List ℕ) → Carries old (at_agents (event_of_reply result peer d)) new
      → IsRecordOf new (run ++ at_agents (sent tt d) ∷ [])
  of_reply (Ok done) peer d h = reply_sent peer d h
  of_reply (Err fault) peer d h = reply_lost peer d h

  -- the record before a receive is also one of the network after it, whatever the receive returned
  pub unrecorded_got : (result : Result (Option ℕ) LinkFault) (buffer : List ℕ) → Carries old (at_walk (event_of_got result buffer)) new → IsRecordOf new run
  unrecorded_got (Ok (Some n)) buffer h = unrecorded (at_walk (came tt (take n buffer))) refl refl h
  unrecorded_got (Ok None) buffer h = unrecorded (at_walk silence) refl refl h
  unrecorded_got (Err fault) buffer h = unrecorded (at_walk receive_failed) refl refl h

  pub unrecorded_receive : (result : Result (Option (ℕ × Unit {0})) EndpointFault) (buffer : List ℕ)
      → Carries old (at_agents (event_of_receive result buffer)) new → IsRecordOf new run
  unrecorded_receive (Ok (Some (n, peer))) buffer h = unrecorded (at_agents (came peer (take n buffer))) refl refl h
  unrecorded_receive (Ok None) buffer h = unrecorded (at_agents silence) refl refl h
  unrecorded_receive (Err fault) buffer h = unrecorded (at_agents receive_failed) refl refl h

  -- `x` is recorded if there is memory for it: if the record without `x` and that with it are records of the network, so is the one that results
  pub of_push : (result : Result (Unit {0}) AllocError) (x : Happening (Unit {0})) (before after : List Entry) → map happening_of before ≡ run
      → OnOk result (map happening_of after ≡ map happening_of before ++ x ∷ []) → OnErr result (after ≡ before) → IsRecordOf new run
      → IsRecordOf new (run ++ x ∷ []) → IsRecordOf new (map happening_of after)
  of_push (Ok done) x before after is pushed same without with_it =
      subst (λ (r : Run). IsRecordOf new r) (sym (pushed ∙ ap (λ (r : Run). r ++ x ∷ []) is)) with_it
  of_push (Err fault) x before after is pushed same without with_it =
      subst (λ (r : Run). IsRecordOf new r) (sym (ap (λ (es : List Entry). map happening_of es) same ∙ is)) without

-- the empty record is one of a network over which nothing was sent
pub fresh : (network : MemoryNetwork) → IsNew network → IsRecordOf network []
fresh network new = record {
  requests = λ d one. absurd (subst (λ (ds : Datagrams). OneOf ds d) new.requests one);
  replies = λ d one. absurd (subst (λ (ds : Datagrams). OneOf ds d) new.replies one);
  faithful = record {
    replies = λ before after peer d is m spelt. absurd (not_nil before after (at_walk (came peer d)) is);
    requests = λ before after d is. absurd (not_nil before after (at_agents (came tt d)) is);
  };
}

-- ---- what is recorded of the walk's end

abbrev Events : Type 0
Events = List (Event (Unit {0}))

of_walk_append : (xs ys : Run) → of_walk (xs ++ ys) ≡ of_walk xs ++ of_walk ys
of_walk_append [] ys = refl
of_walk_append (at_walk e ∷ xs) ys = ap (λ (es : Events). e ∷ es) (of_walk_append xs ys)
of_walk_append (at_agents e ∷ xs) ys = of_walk_append xs ys

abbrev walks : Events → Run
walks events = map at_walk events

of_walk_walk : (events : Events) → of_walk (walks events) ≡ events
of_walk_walk [] = refl
of_walk_walk (e ∷ events) = ap (λ (es : Events). e ∷ es) (of_walk_walk events)

-- events at the agent's end record nothing of the walk's end
pub agent_turns : (events : Events) (old new : Recording) → InTurn HappensAtAgent old events new → of_walk new.run ≡ of_walk old.run
agent_turns [] old new h = ap (λ (r : Recording). of_walk r.run) h
agent_turns (e ∷ events) old new h = agent_turns events h.0 new h.2 ∙ h.1

-- if `old` and `between` have the same record of the walk's end, and `new` is `between` with what is recorded of an event `e` of this end appended,
-- then the record of the walk's end in `new` is the one in `old` with the same appended
pub got_log : (old between new : Run) (e : Event (Unit {0})) → of_walk between ≡ of_walk old
    → new ≡ between ++ walks (recorded e) → of_walk new ≡ of_walk old ++ recorded e
got_log old between new e same is =
    ap of_walk is ∙ of_walk_append between (walks (recorded e))
    ∙ ap (λ (es : Events). of_walk between ++ es) (of_walk_walk (recorded e)) ∙ ap (λ (es : Events). es ++ recorded e) same

pub sent_log : (old : Run) (d : List ℕ) → of_walk (old ++ at_walk (sent tt d) ∷ []) ≡ of_walk old ++ sent tt d ∷ []
sent_log old d = of_walk_append old (at_walk (sent tt d) ∷ [])

pub arrived_at_agent : (old : Run) (d : List ℕ) → of_walk (old ++ at_agents (came tt d) ∷ []) ≡ of_walk old
arrived_at_agent [] d = refl
arrived_at_agent (at_walk e ∷ old) d = ap (λ (es : Events). e ∷ es) (arrived_at_agent old d)
arrived_at_agent (at_agents e ∷ old) d = arrived_at_agent old d

pub sent_by_agent : (old : Run) (d : List ℕ) → of_walk (old ++ at_agents (sent tt d) ∷ []) ≡ of_walk old
sent_by_agent [] d = refl
sent_by_agent (at_walk e ∷ old) d = ap (λ (es : Events). e ∷ es) (sent_by_agent old d)
sent_by_agent (at_agents e ∷ old) d = sent_by_agent old d

-- what holds of the event of a receive, by cases of what it returned
pub if_some : (got : Option ℕ) (buffer : List ℕ) (P : Event (Unit {0}) → Type 0) → P (event_of_got (Ok got) buffer)
    → IfSome got (λ n. P (came tt (take n buffer)))
if_some None buffer P h = tt
if_some (Some n) buffer P h = h

pub if_none : (got : Option ℕ) (buffer : List ℕ) (P : Event (Unit {0}) → Type 0) → P (event_of_got (Ok got) buffer) → IfNone got (P silence)
if_none None buffer P h = h
if_none (Some n) buffer P h = tt
