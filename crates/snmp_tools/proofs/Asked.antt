-- The rows that a walk of one table passes on are a prefix of the answer, and all of it if the walk is done (`walk_rows`). What `IsAsked` says holds of a run
-- over the agent in memory (`is_asked`).
use Rattle.std.proofs.{lemmas.List.Elements.All-contains, lemmas.List.Elements.filter_passes}
use Rattle.std.proofs.Common.{◌≡◌, ◌⊎◌, inl, inr, ◌++◌, ◌<◌, ◌≤◌, ℕ, zero, suc, Bool, true, List, [], ◌∷◌, length, Option, Some, None, refl, sym, ◌∙◌}
use Rattle.std.proofs.Common.{ap, arith, subst}
use Rattle.std.specs.Prelude.{filter}
use Rattle.snmp_oid.specs.Identifier.{IsBelow, Precedes, wire}
use Rattle.smi_value.specs.declared.letters.Letters.{Letters}
use Rattle.snmp_io.specs.Output.{Stream}
use Rattle.snmp_wire.specs.{Canon.canon, Message.VarBind}
use Rattle.snmp_agent.specs.{table.Exact.HasOne, table.Listing.variables}
use Rattle.snmp_agent.specs.table.Table.{MibView, IsMibView, IsGet, IsRow}
use Rattle.snmp_walk.specs.Facts.{ReplyFacts, HasNone, IsDone, IsDoneOrStopped, IsLawfulEnd, WalkFacts, walk_at}
use Rattle.snmp_walk.specs.Get.{GetFacts, IsEndOfGet, IsLostGet, IsTooBig}
use Rattle.snmp_walk.specs.{Link.Agents, Link.IsUnanswered, Link.OneOf, Names.comes_after, RunResult.IsHonestFrom, Traffic.Lost, Traffic.Traffic}
use Rattle.snmp_walk.specs.{WalkState.WalkState, declared.end.WalkEnd.WalkEnd, declared.link.Link.Ghosts as LinkFacts, declared.mode.Mode.Mode}
use Rattle.snmp_walk.specs.{Room.HasRoomForEach, Tables.HasRoomInEach, Tables.of_table}
use Rattle.snmp_walk.specs.Walk.{or_only, rest_of, rows_below, rows_named, walk_from, walk_of}
use Rattle.snmp_walk.specs.declared.end.SinkFault.TheVariants as sink
use Rattle.snmp_walk.specs.declared.end.WalkEnd.TheVariants as ending
use Rattle.snmp_walk.specs.declared.mode.Mode.TheVariants as mode
use Rattle.snmp_tools.specs.Answer.{AreRowsAfter, AreRowsOf, Counts, HasReason, IsAsked, IsAskedOver, IsOwnEnd, agent_over, end_in_memory}
use Rattle.snmp_tools.specs.Answer.{first_after, first_of, request_for}
use Rattle.snmp_tools.specs.{Lines.IsPrintedUpTo}
use Rattle.snmp_tools.specs.Question.{Plan, Question, Walk, counts_in, names, subtree}
use Rattle.smi_tree.specs.{Tree.Contents}
use Rattle.snmp_tools.proofs.TableWalks.{BelowAreRows, one_is_contained}

own_end : (end : WalkEnd) → IsDoneOrStopped end → IsOwnEnd (end_in_memory end)
own_end (ending.Done n) s = tt
own_end (ending.Sink fault) s = tt
own_end ending.Link s = tt
own_end end s = absurd s

-- if `P` holds of `end`, and `P` of a failed link implies `P` of a lack of memory, then `P` holds of `end_in_memory end`
in_memory : (P : WalkEnd → Type 0) → (P ending.Link → P (ending.Sink sink.Memory)) → (end : WalkEnd) → P end → P (end_in_memory end)
in_memory P moved ending.Link h = moved h
in_memory P moved end h = h

pub printed_in : (mib : Contents) (letters : Letters) (before after : Stream) (rows refused : List VarBind) (end : WalkEnd)
    → IsPrintedUpTo mib letters before rows refused end after → IsPrintedUpTo mib letters before rows refused (end_in_memory end) after
printed_in mib letters before after rows refused = in_memory (λ (e : WalkEnd). IsPrintedUpTo mib letters before rows refused e after) (λ h. h)

done_in : (end : WalkEnd) → IsDone (end_in_memory end) → IsDone end
done_in end = in_memory (λ (e : WalkEnd). IsDone e → IsDone end) (λ f h. f h) end (λ h. h)

no_link : (end : WalkEnd) → end_in_memory end ≡ ending.Link → ⊥
no_link ending.Link h = cc
no_link end h = cc

-- if a walk over the agent in memory is done, its end says how many rows it passed on
counts_rows : (plan : Plan) (view : MibView) (first : WalkState) (rows : List VarBind) (end : WalkEnd)
    → IsLawfulEnd (agent_over plan view) (HasNone (agent_over plan view)) first rows end → Counts end (length rows)
counts_rows plan view first rows (ending.Done n) h = h.5.0
counts_rows plan view first rows end h = tt

-- if `ahead`, the deliveries to come, is `used` followed by `left`, and `ahead` is empty, then `used` is empty
none_used : (used left : List (Option ℕ)) (ahead : List (Option ℕ)) → ahead ≡ used ++ left → ahead ≡ [] → used ≡ []
none_used [] left ahead e none = refl
none_used (d ∷ used) left ahead e none = let no : ⊥ = cc in absurd no

-- if a question asks for the number of bindings, and its run is done, then the end says how many bindings the run passed on
pub counted : (question : Question) (plan : Plan) (view : MibView) (given : List VarBind) (end : WalkEnd) → HasReason question plan view given end
    → counts_in question ≡ true → Counts end (length given)
counted (names os) plan view given end reason e = let no : ⊥ = cc in absurd no
counted (subtree w) plan view given end reason e = reason.1

all_pass : (test : VarBind → Bool) (rows : List VarBind) → ((row : VarBind) → OneOf rows row → test row ≡ true) → filter test rows ≡ rows
all_pass test [] each = refl
all_pass test (row ∷ more) each =
    rw (each row (inl refl)) (ap (λ (s : List VarBind). row ∷ s) (all_pass test more (λ other one. each other (inr one))))

-- if `o`, which has at least three numbers, is below the root, then `o` comes after the root as it is sent (`wire`)
after_wire : (root o : List ℕ) → 3 ≤ length o → IsBelow o root → Precedes (wire root) o
after_wire (a ∷ b ∷ root) o long below = inl below
after_wire [] o long ([], some, e) = absurd (some refl)
after_wire [] o long (x ∷ [], some, e) = let short : length o ≡ 1 = ap length e in absurd (omega (arith, long, short))
after_wire [] o long (x ∷ y ∷ [], some, e) = let short : length o ≡ 2 = ap length e in absurd (omega (arith, long, short))
after_wire [] o long (zero ∷ zero ∷ z ∷ rest, some, e) = inl (z ∷ rest, λ h. cc, e)
after_wire [] o long (zero ∷ suc k ∷ z ∷ rest, some, e) =
    inr record { prefix = 0 ∷ []; smaller = 0; larger = suc k; after = []; suffix = z ∷ rest; this = refl; that = e; is_smaller = omega arith }
after_wire [] o long (suc k ∷ y ∷ z ∷ rest, some, e) =
    inr record { prefix = []; smaller = 0; larger = suc k; after = 0 ∷ []; suffix = y ∷ z ∷ rest; this = refl; that = e; is_smaller = omega arith }
after_wire (a ∷ []) o long ([], some, e) = absurd (some refl)
after_wire (a ∷ []) o long (y ∷ [], some, e) = let short : length o ≡ 2 = ap length e in absurd (omega (arith, long, short))
after_wire (a ∷ []) o long (zero ∷ z ∷ rest, some, e) = inl (z ∷ rest, λ h. cc, e)
after_wire (a ∷ []) o long (suc k ∷ z ∷ rest, some, e) =
    inr record { prefix = a ∷ []; smaller = 0; larger = suc k; after = []; suffix = z ∷ rest; this = refl; that = e; is_smaller = omega arith }

-- for a MIB view, `rest_of` has exactly the rows that are below the root and come after the name `o`
abbrev pub LeftAreRows : Type 0
LeftAreRows = (view : MibView) (root o : List ℕ) (p : VarBind) → IsMibView view
    → (OneOf (rest_of root o (variables view)) p → IsRow view p × IsBelow p.name root × Precedes o p.name)
    × (IsRow view p × IsBelow p.name root × Precedes o p.name → OneOf (rest_of root o (variables view)) p)

-- the rows `given` and then `refused` are a prefix of the answer; if the run is done, `given` is the whole answer
pub record GivesRows (question : Question) (view : MibView) (given refused : List VarBind) (end : WalkEnd) : Type 0 where
  pub prefix : (rows : List VarBind) → AreRowsOf question view rows → (more : List VarBind) × (rows ≡ (given ++ refused) ++ more)
  pub whole : (rows : List VarBind) → AreRowsOf question view rows → IsDone end → given ≡ rows

module _ (below : BelowAreRows) (left : LeftAreRows) (one_get : (view : MibView) (o : List ℕ) → HasOne (IsGet view o)) (view : MibView)
    (good : IsMibView view) where
  is_after : (root : List ℕ) (p : VarBind) → OneOf (rows_below root (variables view)) p → comes_after (wire root) p.name ≡ true
  is_after root p one =
      let is = (below view root p good).0 one in
      let suffix : Precedes (wire root) p.name = after_wire root p.name (good.names p is.0).long is.1 in
      let after : VarBind → Bool = λ row. comes_after (wire root) row.name in
      All-contains (λ row. after row ≡ true) (rest_of root (wire root) (variables view)) p (filter_passes after (rows_below root (variables view)))
      (one_is_contained (rest_of root (wire root) (variables view)) p ((left view root (wire root) p good).1 (is.0, is.1, suffix)))

  rest_is : (root : List ℕ) → rest_of root (wire root) (variables view) ≡ rows_below root (variables view)
  rest_is root = all_pass (λ row. comes_after (wire root) row.name) (rows_below root (variables view)) (is_after root)

  from_root : (m : Mode) (root : List ℕ) (got : VarBind) → walk_from m root (wire root) got (variables view) ≡ walk_of m root got (variables view)
  from_root mode.Plain root got = ap (or_only got) (rest_is root)
  from_root mode.Include root got = ap (λ (s : List VarBind). rows_named (wire root) (variables view) ++ s) (rest_is root)
  from_root mode.NoLast root got = rest_is root

  -- if `rows` are the answer to the walk `w` of the table, then a Get of the name that the walk begins from returns some `got`, and `rows` are what `walk_at`
  -- returns for the first state of the walk and `got`
  begun_rows : (after : Option (List ℕ)) (community : List ℕ) (w : Walk) (rows : List VarBind) → AreRowsAfter after w view rows
      → (got : VarBind) × IsGet view (first_after after community w).asked got × (rows ≡ walk_at (first_after after community w) view got)
  begun_rows None community w rows are = (are.0, are.1, are.2 ∙ sym (from_root w.mode w.root are.0))
  begun_rows (Some after) community w rows are = let one = one_get view (wire after) in (one.0, one.1, are)

  -- if agents have only the table `view`, and each reply that a walk read is theirs, then the rows passed on are a prefix of the answer from this table, as
  -- `GivesRows` says
  pub walk_rows : (agents : Agents) → agents.tables ≡ view ∷ [] → (Silent : WalkState → Type 0) (community : List ℕ) (w : Walk) (given refused : List VarBind)
      (end : WalkEnd) → ReplyFacts agents Silent (first_of community w) given refused end → GivesRows (subtree w) view given refused end
  walk_rows agents single Silent community w given refused end facts = record {
    prefix = λ rows are.
        let b = begun_rows w.after community w rows are in
        let rest = facts.beginning view b.0 single b.1 in
        (rest.0, b.2 ∙ rest.1);
    whole = λ rows are done. let b = begun_rows w.after community w rows are in facts.all_at_done view b.0 single b.1 done ∙ sym b.2;
  }

  module _ (plan : Plan) (tries : ℕ) (old new : Traffic) (rows refused : List VarBind) (end : WalkEnd) (none : old.ahead ≡ []) where
    module _ (some : 0 < tries) (os : List (List ℕ))
        (facts : GetFacts (agent_over plan view) tries old (request_for plan os) os rows refused end new) where
      abbrev Unanswered : Type 0
      Unanswered = IsUnanswered (agent_over plan view) (canon (request_for plan os))

      abbrev Loses : List (Option ℕ) → Type 0
      Loses used = Lost (agent_over plan view) (old.sent ++ canon (request_for plan os) ∷ []) (canon (request_for plan os)) used tries 0

      unanswered : IsLostGet (agent_over plan view) tries old (canon (request_for plan os)) new → Unanswered
      unanswered lost = by_cause lost.lost
        where
          by_cause : Unanswered ⊎ ((used : List (Option ℕ)) × (old.ahead ≡ used ++ new.ahead) × Loses used) → Unanswered
          by_cause (inl u) = u
          by_cause (inr h) =
              let lost_none : Loses [] = subst Loses (none_used h.0 new.ahead old.ahead h.1 none) h.2 in
              absurd (omega (arith, some, lost_none))

      ends_in : (why : WalkEnd) → end ≡ why
          → IsEndOfGet (IsTooBig (agent_over plan view) (request_for plan os) os) ⊥ (Unit {0}) (request_for plan os) os why
          → HasReason (names os) plan view rows (end_in_memory why)
      ends_in (ending.NoProgress asked) e h = absurd h
      ends_in ending.BadReply e h = absurd h
      ends_in (ending.NotIncreasing last next) e h = absurd h
      ends_in ending.TooManyRequests e h = absurd h
      ends_in ending.NoResponse e h = unanswered (facts.lost_without_response e)
      ends_in why e h = h

      is_got : IsAsked plan (names os) view rows refused (end_in_memory end)
      is_got = record {
        prefix = λ all are. facts.given.beginning view all refl are;
        whole = λ all are done. facts.given.all_at_done view all refl are (done_in end done);
        linked = no_link end;
        reason = ends_in end refl facts.given.ends;
        complete = λ room. own_end end (facts.done_unless_stopped room none);
      }

    module _ (w : Walk) (facts : WalkFacts (agent_over plan view) tries old (first_of plan.community w) rows refused end new) where
      lawful : IsLawfulEnd (agent_over plan view) (HasNone (agent_over plan view)) (first_of plan.community w) rows (end_in_memory end)
      lawful =
          in_memory (IsLawfulEnd (agent_over plan view) (HasNone (agent_over plan view)) (first_of plan.community w) rows) (λ h. h) end
          (facts.replied none)

      gave_walk : GivesRows (subtree w) view rows refused end
      gave_walk = walk_rows (agent_over plan view) refl _ plan.community w rows refused end facts.given

      in_each : HasRoomForEach (agent_over plan view) view (first_of plan.community w) → HasRoomInEach (agent_over plan view) (first_of plan.community w)
      in_each room v (inl e) =
          subst (λ (u : MibView). HasRoomForEach (agent_over plan view) u (first_of plan.community w)) (sym e) room
      in_each room v (inr other) = absurd other

      is_walked : IsAsked plan (subtree w) view rows refused (end_in_memory end)
      is_walked = record {
        prefix = gave_walk.prefix;
        whole = λ all are done. gave_walk.whole all are (done_in end done);
        linked = no_link end;
        reason = (lawful, counts_rows plan view (first_of plan.community w) rows (end_in_memory end) lawful);
        complete = λ room. own_end end (facts.done_unless_stopped _ (of_table view refl refl) (in_each room.0) room.1 none);
      }

  -- If a question is asked with at least one try over an honest link to the agent that serves `view`, nothing was sent over the link before, and there are no
  -- deliveries to come (`ahead`), then `IsAsked` holds of the run, with its end by `end_in_memory`.
  module _ {W : Type 0} (facts : LinkFacts W) (link after : W) (tries : ℕ) (some : 0 < tries) (plan : Plan)
      (honest : facts.honest link × ((facts.traffic link).sent ≡ [])) (agents : facts.agents link ≡ agent_over plan view)
      (none : (facts.traffic link).ahead ≡ []) (given refused : List VarBind) (end : WalkEnd) where
    from_first : (id : ℕ) → IsHonestFrom facts id link
    from_first id = (honest.0, λ d one. absurd (subst (λ (sent : List (List ℕ)). OneOf sent d) honest.1 one))

    pub is_asked : (question : Question) → IsAskedOver facts link after tries plan question given refused end
        → IsAsked plan question view given refused (end_in_memory end)
    is_asked (names os) run =
        is_got plan tries (facts.traffic link) (facts.traffic after) given refused end none some os
        (subst (λ (a : Agents). GetFacts a tries (facts.traffic link) (request_for plan os) os given refused end (facts.traffic after)) agents
        (run.judged (from_first _)))
    is_asked (subtree w) run =
        is_walked plan tries (facts.traffic link) (facts.traffic after) given refused end none w
        (subst (λ (a : Agents). WalkFacts a tries (facts.traffic link) (first_of plan.community w) given refused end (facts.traffic after)) agents
        (run.judged (from_first _)))
