-- What is known after a run over a link: after a walk, and after a Get of names.
use Rattle.std.specs.Prelude.{◌≡◌, ◌≢◌, ◌⊎◌, ◌<◌, ◌≤◌, ◌+◌, ◌*◌, ◌++◌, ℕ, List, [], Result}
use Rattle.std.specs.Prelude.{length, replicate}
use Rattle.snmp_agent.specs.Event.{Event}
use Rattle.snmp_wire.specs.{Canon.canon, Message.VarBind}
use Rattle.snmp_walk.specs.{declared.end.SinkFault.SinkFault, declared.end.WalkEnd.WalkEnd}
use Rattle.snmp_walk.specs.{Link.Agents, Link.AreLawful, Link.OneOf, Link.Outcome, Moved.IsMoved}
use Rattle.snmp_walk.specs.{Moved.AreFew, Request.IsOfLowerId}
use Rattle.snmp_walk.specs.{Moved.IsMovedByRequests, Network.AreReplies, Network.BeginWithSend}
use Rattle.snmp_walk.specs.{Network.AreRepliesOrErrors, Network.tried, Run.sent_by, Sink.Took}
use Rattle.snmp_walk.specs.{WalkState.WalkState}
use Rattle.snmp_walk.specs.declared.end.WalkEnd.TheVariants as ending
use Rattle.snmp_walk.specs.declared.link.Link.{Ghosts as LinkFacts}
use Rattle.snmp_walk.specs.Facts.{EndFacts, ReplyFacts, IsLastSent, IsReadyForAll, SendFacts, gets}
use Rattle.snmp_walk.specs.{Facts.WalkFacts, Tables.CountsNames}
use Rattle.snmp_walk.specs.Get.{AreForNames, GetFacts, GotFacts, IsDelivered, IsReasonOfGet}
use Rattle.snmp_walk.specs.Get.{get_request}
use Rattle.snmp_walk.specs.Progress.{IsPartOfWalk, Named, Increases}
use Rattle.snmp_walk.specs.Tries.{AreTried, Happens, InTurn, IsNotAwaited, IsTried}

-- A run passed the bindings `rows` to a sink, which perhaps refused one more, and ended with
-- `end`. `Facts` holds of `rows` and `refused`, the list of the binding refused, if any.
pub record IsRun {S : Type 0} (takes : S → VarBind → Result (Unit {0}) SinkFault → S → Type 0)
    (before : S) (end : WalkEnd) (after : S) (Facts : (rows refused : List VarBind) → Type 0) :
    Type 0 where
  pub rows : List VarBind
  pub refused : List VarBind
  pub took : Took takes before rows refused end after
  pub facts : Facts rows refused

-- each of these datagrams is a request with an id below `id`
abbrev pub AreOfLowerIds : List (List ℕ) → (id : ℕ) → Type 0
AreOfLowerIds sent id = (datagram : List ℕ) → OneOf sent datagram → IsOfLowerId id datagram

-- The link is honest, and what was sent over it before are requests with ids below `id`: none, or
-- those of earlier runs. A run that begins with `id` takes none of their late replies.
abbrev pub IsHonestFrom : {W : Type 0} → LinkFacts W → (id : ℕ) → W → Type 0
IsHonestFrom {W} facts id link =
    facts.honest link × AreOfLowerIds (facts.traffic link).sent id

-- the same end, but an error status is replaced by a failure of the link
abbrev pub but_for_errors : WalkEnd → WalkEnd
but_for_errors (ending.Fault status index) = ending.Link
but_for_errors end = end

-- Events took the link from state `link` to state `after`; the first of them, if there is one, is
-- a send. For any lawful agents, `Given` holds of the agents and of `end` if each message received
-- is a reply of one of them to a datagram passed to a send before, or another Response that one of
-- them may send to such a datagram (`replied`). If this is known only of the messages without an
-- error status, `Given` holds of the agents and of `but_for_errors end` (`replied_or_failed`).
pub record HasHappened {W : Type 0} (facts : LinkFacts W) (link after : W) (end : WalkEnd)
    (Given : Agents → WalkEnd → Type 0) : Type 0 where
  pub events : List (Event (Unit {0}))
  pub in_turn : InTurn (Happens facts) link events after
  pub begins : BeginWithSend events
  pub replied : (agents : Agents) → AreLawful agents → AreReplies agents events → Given agents end
  pub replied_or_failed : (agents : Agents) → AreLawful agents → AreRepliesOrErrors agents events
      → Given agents (but_for_errors end)

-- What is known of a walk over a link. The link's state was `link` before the walk, and is `after`
-- when the walk has ended.
pub record IsWalkedOver {W : Type 0} (facts : LinkFacts W) (link after : W) (tries : ℕ)
    (first : WalkState) (given refused : List VarBind) (end : WalkEnd) : Type 0 where
  -- each binding passed on or refused has the name that the walk begins from, or is an instance
  -- below the root
  pub part : IsPartOfWalk Increases Named first (given ++ refused)
  -- The names increase. If the walk is done, its end holds the number of rows. The end has its
  -- reason in what came of the requests. Each request found the link as the request before it had
  -- left it.
  pub ends : EndFacts (IsTried facts tries)
      (λ w. facts.records link → IsLastSent tries end (facts.traffic after) w) first link given
      refused end after
  -- over a link that lists what is sent: which requests were sent, and how many times
  pub sent : facts.records link → SendFacts (facts.agents link) (IsHonestFrom facts first.id link)
      tries (facts.traffic link) first given end (facts.traffic after)
  -- over an honest link, if earlier runs over it had lower ids: what its agents returned
  pub judged : IsHonestFrom facts first.id link
      → WalkFacts (facts.agents link) tries (facts.traffic link) first given refused end
      (facts.traffic after)
  -- an honest link doesn't fail if earlier runs over it had lower ids, `CountsNames` holds of k,
  -- and the link is ready for all that a walk of k names sends
  pub ready : IsHonestFrom facts first.id link → (k : ℕ) → CountsNames (facts.agents link) first k
      → IsReadyForAll (facts.ready link) tries k → end ≢ ending.Link
  -- its requests changed the link, which failed if and only if the walk ended with `Link`
  pub moved : IsMovedByRequests facts tries first given link (end ≡ ending.Link) after
  -- There is at most one request for each row passed on, one more, and a Get.
  pub few_of_rows : length moved.requests ≤ length given + 1 + gets first.mode
  -- Over a link that lists what is sent, if earlier runs had lower ids: a later run may begin with
  -- the id after the last one of these requests.
  pub later : facts.records link → AreOfLowerIds (facts.traffic link).sent first.id
      → AreOfLowerIds (facts.traffic after).sent (first.id + length moved.requests)
  -- what happened over any link, and what was passed on if only replies of agents arrived
  pub happened : HasHappened facts link after end
      (λ agents why. ReplyFacts agents (λ w. Unit {0}) first given refused why)
  -- the datagrams passed to sends in these events are the requests of `moved`, each as many times
  -- as `moved` says
  pub sends : tried happened.events ≡ sent_by moved.requests

-- the request of a Get of these names had this outcome in at most `tries` tries, which took the
-- link from `link` to `after`
abbrev pub IsGetTried : {W : Type 0} → LinkFacts W → (link after : W) → (tries : ℕ)
    → (community : List ℕ) → (id : ℕ) → (names : List (List ℕ)) → Outcome → Type 0
IsGetTried {W} facts link after tries community id names outcome =
    AreTried facts (IsNotAwaited community id) (canon (get_request community id names)) tries link
    outcome after

-- What is known of a Get of names over a link. The link's state was `link` before the Get, and is
-- `after` when the Get has ended.
pub record IsGotOver {W : Type 0} (facts : LinkFacts W) (link after : W) (tries : ℕ)
    (community : List ℕ) (id : ℕ) (names : List (List ℕ)) (given refused : List VarBind)
    (end : WalkEnd) : Type 0 where
  pub named : AreForNames (get_request community id names) names given refused end
  -- if there are names, the end has its reason (`IsReasonOfGet`): what came of the request; if the
  -- request was too long, nothing was passed on
  pub reason : names ≢ [] → IsReasonOfGet (IsGetTried facts link after tries community id names)
      (IsDelivered (IsGetTried facts link after tries community id names) (facts.agents link)
      (IsHonestFrom facts id link) community id names) names given refused end
  -- without names, and if the request is too long, the link is unchanged
  pub unasked : (names ≡ []) ⊎ (end ≡ ending.RequestTooLong) → after ≡ link
  -- over a link that lists what is sent: only the request was sent, at most once for each try, all
  -- `tries` times if no reply arrived, and at least once if it had to be sent and the link didn't
  -- fail
  pub sent : facts.records link → (times : ℕ) × (times ≤ tries)
      × ((facts.traffic after).sent ≡ (facts.traffic link).sent
      ++ replicate times (canon (get_request community id names)))
      × (end ≡ ending.NoResponse → times ≡ tries)
      × (names ≢ [] → end ≢ ending.RequestTooLong → end ≢ ending.Link → 0 < times)
  -- over an honest link, if earlier runs over it had lower ids: what its agents returned
  pub judged : IsHonestFrom facts id link → GetFacts (facts.agents link) tries
      (facts.traffic link) (get_request community id names) names given refused end
      (facts.traffic after)
  -- tries of the request changed the link, at least one if it had to be sent, and the link failed
  -- if and only if the Get ended with `Link`. As in a walk, there are at most 64 receives for
  -- each send.
  pub moved : (times : ℕ) × (times ≤ tries)
      × (names ≢ [] → end ≢ ending.RequestTooLong → 0 < times)
      × (receives : ℕ)
      × IsMoved facts link (replicate times (canon (get_request community id names))) receives
      (end ≡ ending.Link) after
      × AreFew facts link receives after
      × (receives ≤ 64 * times)
  -- over a link that lists what is sent, if earlier runs had lower ids: a later run may begin with
  -- the id after this one
  pub later : facts.records link → AreOfLowerIds (facts.traffic link).sent id
      → AreOfLowerIds (facts.traffic after).sent (id + 1)
  -- what happened over any link, and what was passed on if only replies of agents arrived
  pub happened : HasHappened facts link after end
      (λ agents why. GotFacts agents (get_request community id names) names given refused why)
  -- the datagrams passed to sends in these events are the request, as many times as `moved` says
  pub sends : tried happened.events ≡ replicate moved.0 (canon (get_request community id names))
