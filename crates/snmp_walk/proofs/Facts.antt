-- What a walk promises over its agents' tables follows from what holds of its run over any tables (`facts`, `send_facts`).
use Rattle.std.proofs.Common.{◌≡◌, ◌≢◌, inl, inr, ℕ, ◌+◌, ◌*◌, ◌≤◌, ◌<◌, List, [], ◌∷◌, ◌++◌, length, sym, ◌∙◌, ap, subst, arith, length-append}
use Rattle.std.proofs.Common.{Option}
use Rattle.snmp_wire.specs.{Message.VarBind, Canon.canon}
use Rattle.snmp_agent.specs.{table.Table.MibView, table.Table.IsMibView, table.Table.IsGet, table.Table.IsNext, table.Listing.variables}
use Rattle.snmp_walk.specs.{declared.end.WalkEnd.WalkEnd, WalkState.WalkState, WalkState.IsWalkState, Progress.Reaches, Progress.IsPartOfWalk}
use Rattle.snmp_walk.specs.{Progress.IsWholeWalk, Link.Agents, Link.IsNextFrom, Link.IsGotFrom, Link.AreViews, private.Codec.Codec}
use Rattle.snmp_walk.specs.{Trail.last_name, Run.IsEachSent, Run.Try, Run.sent_by}
use Rattle.snmp_walk.specs.Tables.{CountsNames, of_table, of_tables}
use Rattle.snmp_walk.specs.{Request.request_of, Request.asked_for, Traffic.Traffic, Traffic.Lost, Names.comes_after}
use Rattle.snmp_walk.specs.declared.end.WalkEnd.TheVariants as ending
use Rattle.snmp_walk.specs.Facts.{IsFresh, IsLastSent, IsEndedBy, IsLawfulEnd, HasNoReply, HasNone, IsDone, ReplyFacts, WalkFacts, SendFacts, gets, walk_at}
use Rattle.snmp_walk.specs.{Walk.walk_from, declared.mode.Mode.Mode}
use Rattle.snmp_walk.proofs.Variables.{variables_rise, variables_are, next_first, get_one, get_row, after_precedes}
use Rattle.snmp_walk.proofs.{OneTable.part_is, OneTable.whole_is, SortedRows.only_one, Trail.last_name-append, Progress.part_prefix}
use Rattle.snmp_walk.proofs.{FullReplies.AreRoomy, FullReplies.IsFast, FullReplies.fast_few, Runs.Sends, SortedRows.IsOneTable}
use Rattle.snmp_walk.proofs.EnoughRoom.{left_end, swift_end, few_in, trail_in_rest, HasFew}
use Rattle.std.proofs.{lemmas.List.nil_from_length, lemmas.Bool.false_from_ne_true}
use Rattle.snmp_walk.proofs.Tables.{once, rises, part_from, common_in, common_in_whole, few_rows, whole_some}

pub one_table : Codec → (agents : Agents) (first : WalkState) (view : MibView) (got : VarBind) → AreViews agents.tables → agents.tables ≡ view ∷ []
    → IsGet view first.asked got
    → IsOneTable (variables view) got (IsNextFrom agents) (IsGotFrom agents) first
one_table codec agents first view got views e answer =
    let good : IsMibView view = (subst AreViews e views).0 in
    record {
      rising = variables_rise view good;
      instances = variables_are view good;
      next = λ o p n. next_first view good codec o p (subst (λ (v : MibView). IsNext v o p) (only_one view n.0 agents.tables e n.1) n.2);
      answer = λ p n. get_one view good first.asked p got (subst (λ (v : MibView). IsGet v first.asked p) (only_one view n.0 agents.tables e n.1) n.2) answer;
      row = get_row view good first.asked got answer;
    }

lawful_whole : (agents : Agents) (Silent : WalkState → Type 0) (first : WalkState) (rows : List VarBind) (end : WalkEnd) → IsDone end
    → IsLawfulEnd agents Silent first rows end → IsWholeWalk (IsNextFrom agents) (IsGotFrom agents) first rows
lawful_whole agents Silent first rows (ending.Done n) d h = h.5.1
lawful_whole agents Silent first rows _ d h = absurd d

-- if no reply to the request of w arrived, at least one try was allowed, and no delivery was ahead, then one of the agents has no reply to it
none_lost : (agents : Agents) (tries : ℕ) (old new : Traffic) (w : WalkState) → 0 < tries → old.ahead ≡ [] → HasNoReply agents tries old new w
    → HasNone agents w
none_lost agents tries old new w some none h = elim h.lost [
  | inl u ↦ u
  | inr l ↦
      let unused : l.1 ≡ [] = nil_from_length l.1 (omega (
        arith,
        ap length (sym l.2 ∙ none),
        length-append l.0 (l.1 ++ new.ahead),
        length-append l.1 new.ahead,
      )) in
      let zero_tries : tries ≡ 0 = subst (λ (es : List (Option ℕ)). Lost agents (h.earlier ++ canon (request_of w) ∷ []) (canon
      (request_of w)) es tries 0) unused l.3 in
      absurd (omega (arith, some, zero_tries))
]

-- if `Silent` implies `Other`, an end that is lawful with `Silent` is lawful with `Other`
pub lawful_by : (agents : Agents) (Silent Other : WalkState → Type 0) (first : WalkState) (rows : List VarBind) (end : WalkEnd) → ((w : WalkState) → Silent w
    → Other w)
    → IsLawfulEnd agents Silent first rows end → IsLawfulEnd agents Other first rows end
lawful_by agents Silent Other first rows ending.NoResponse by h = (h.0, h.1, h.2, by h.0 h.3)
lawful_by agents Silent Other first rows _ by h = h

-- if `CountsNames` holds of k, each trail from the name that the walk begins from has at most k rows
pub counted_few : Codec → (agents : Agents) → AreViews agents.tables → (first : WalkState) → IsFresh first → (k : ℕ) → CountsNames agents first k
    → HasFew (IsNextFrom agents) first k
counted_few codec agents views first fresh k (of_table view e is) =
    let got = codec.got view first.asked in
    subst (HasFew (IsNextFrom agents) first) (sym is)
    (trail_in_rest agents first view got.0 (one_table codec agents first view got.0 views e got.1) fresh.begins.0 fresh.begins.1)
counted_few codec agents views first fresh k (of_tables names all is) =
    subst (HasFew (IsNextFrom agents) first) (sym is) (few_rows codec agents views first fresh.begins.0 fresh.begins.1 names all)

module _ (codec : Codec) (agents : Agents) (Silent : WalkState → Type 0) (first : WalkState) (rows refused : List VarBind) (end : WalkEnd)
    (fresh : IsFresh first) (views : AreViews agents.tables) (part : IsPartOfWalk (IsNextFrom agents) (IsGotFrom agents) first (rows ++ refused))
    (lawful : IsLawfulEnd agents Silent first rows end) where
  whole : IsDone end → IsWholeWalk (IsNextFrom agents) (IsGotFrom agents) first rows
  whole done = lawful_whole agents Silent first rows end done lawful

  pub given_facts : ReplyFacts agents Silent first rows refused end
  given_facts =
      let s = fresh.begins.0 in
      let begins = fresh.begins.1 in
      let given = part_prefix (IsNextFrom agents) (IsGotFrom agents) first rows refused part in
      let rising = rises codec agents views first s begins rows given in
      let beginning : (view : MibView) (got : VarBind) → agents.tables ≡ view ∷ [] → IsGet view first.asked got
      → (more : List VarBind) × (walk_at first view got ≡ (rows ++ refused) ++ more) =
      λ view got e answer. part_is (variables view) got (IsNextFrom agents) (IsGotFrom agents) first
      (one_table codec agents first view got views e answer) s begins (rows ++ refused) part in
      let all_at_done : (view : MibView) (got : VarBind) → agents.tables ≡ view ∷ [] → IsGet view first.asked got → IsDone end
      → rows ≡ walk_at first view got =
      λ view got e answer done. whole_is (variables view) got (IsNextFrom agents) (IsGotFrom agents) first
      (one_table codec agents first view got views e answer) s begins rows (whole done) in
      record {
        part = part;
        lawful = lawful;
        beginning = beginning;
        all_at_done = all_at_done;
        rest_beginning = λ view e no_last.
            let got = codec.got view first.asked in
            let b = beginning view got.0 e got.1 in
            (b.0, subst (λ (m : Mode). walk_from m first.root first.asked got.0 (variables view) ≡ (rows ++ refused) ++ b.0) no_last b.1);
        rest_at_done = λ view e no_last done.
            let got = codec.got view first.asked in
            subst (λ (m : Mode). rows ≡ walk_from m first.root first.asked got.0 (variables view)) no_last (all_at_done view got.0 e got.1 done);
        from_tables = part_from codec agents views first s begins (rows ++ refused) part;
        common_names = λ name of each prefix last e passed. once rows name rising
            (common_in codec agents views first s begins rows given name of each
            (λ none. absurd (omega (arith, ap length (sym e ∙ none), length-append prefix (last ∷ []))))
            (ap (λ (n : List ℕ). comes_after n name) (ap (last_name first.asked) e ∙ last_name-append first.asked prefix (last ∷ []))
            ∙ false_from_ne_true (comes_after last.name name) (λ after. passed (after_precedes codec last.name name after))));
        common_at_done = λ done name of each. once rows name rising (common_in_whole codec agents views first s begins rows (whole done) name of each);
        some_at_done = λ done plain. whole_some (IsNextFrom agents) (IsGotFrom agents) first rows (whole done) plain;
        done_unless_lost = λ k counts rooms ids.
            left_end codec agents first views rooms k (counted_few codec agents views first fresh k counts) ids Silent rows end lawful;
      }

module _ (codec : Codec) (agents : Agents) (tries : ℕ) (old new : Traffic) (first : WalkState) (rows refused : List VarBind) (end : WalkEnd) (some : 0 < tries)
    (fresh : IsFresh first) (views : AreViews agents.tables) (part : IsPartOfWalk (IsNextFrom agents) (IsGotFrom agents) first (rows ++ refused))
    (lawful : IsLawfulEnd agents (HasNoReply agents tries old new) first rows end) where
  -- if no delivery was ahead, the end is lawful, and no reply arrived only if one of the agents has none
  replied : old.ahead ≡ [] → IsLawfulEnd agents (HasNone agents) first rows end
  replied none = lawful_by agents (HasNoReply agents tries old new) (HasNone agents) first rows end
      (λ w h. none_lost agents tries old new w some none h) lawful

  pub facts : IsEndedBy agents (HasNoReply agents tries old new) (IsLastSent tries end new) first rows end
      → WalkFacts agents tries old first rows refused end new
  facts last = record {
    given = given_facts codec agents (HasNoReply agents tries old new) first rows refused end fresh views part lawful;
    last_request = last;
    replied = replied;
    done_unless_stopped = λ k counts rooms ids none.
        swift_end codec agents first views rooms k (counted_few codec agents views first fresh k counts) ids rows end (replied none);
  }

-- the requests of a run satisfy `SendFacts`
pub send_facts : Codec → (agents : Agents) (honest Roomy : Type 0) (tries : ℕ) (old new : Traffic) (first w : WalkState) (rows given : List VarBind)
    (end : WalkEnd) → IsFresh first → IsWalkState w
    → (h : Sends tries first rows old (w.id + 1) new)
    → (honest → ((used : List (Option ℕ)) × (old.ahead ≡ used ++ new.ahead) × (length used + 64 * length old.sent ≤ 64 * length new.sent))
    × AreViews agents.tables × Reaches (IsNextFrom agents) (IsGotFrom agents) first w given
    × IsFast (IsNextFrom agents) (IsGotFrom agents) Roomy first given w.id w.phase)
    → (AreRoomy agents h.requests → Roomy)
    → (before : List Try) × (last : Try) × (h.requests ≡ before ++ last ∷ []) × IsEachSent before × (end ≢ ending.Link → 0 < last.times)
    → (end ≡ ending.NoResponse → (before : List Try) × (last : Try) × (h.requests ≡ before ++ last ∷ []) × (last.times ≡ tries))
    → SendFacts agents honest tries old first rows end new
send_facts codec agents honest Roomy tries old new first w rows given end fresh good h honestly less each quiet = record {
  each_sent = each;
  all_tries = quiet;
  requests = h.requests;
  sent = h.sent;
  are_tries = h.are_tries;
  few = omega (arith, h.ids, good.id);
  used = λ k.
      let u = (honestly k).0 in
      (u.0, u.1, omega (arith, u.2, ap length h.sent, length-append old.sent (sent_by h.requests)));
  few_of_names = λ is k counts. few is k (counted_few codec agents (honestly is).1 first fresh k counts);
  few_where_all_fit = λ is room k counts. fast is room k (counted_few codec agents (honestly is).1 first fresh k counts);
}
  where
    few : honest → (n : ℕ) → HasFew (IsNextFrom agents) first n → length h.requests ≤ n + 1 + gets first.mode
    few k n bound = omega (arith, h.ids, few_in (IsNextFrom agents) (IsGotFrom agents) first n bound w given (honestly k).2)

    fast : honest → AreRoomy agents h.requests → (k : ℕ) → HasFew (IsNextFrom agents) first k
        → (n : ℕ) × (asked_for first.method * n ≤ k) × (length h.requests ≤ n + 1 + gets first.mode)
    fast honest room k bound =
        let f = honestly honest in
        let few = fast_few (IsNextFrom agents) (IsGotFrom agents) Roomy first w given k bound w.phase f.2.stage f.2.paced f.3 (less room) in
        (few.0, few.1, omega (arith, h.ids, few.2))
