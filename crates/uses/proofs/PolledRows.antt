-- A walk of one table in the mode `NoLast` (without a last Get of its root) returns a prefix of the table's rows below the root, and all of them if it is
-- done.
use Rattle.std.proofs.Common.{◌≡◌, ◌∙◌, ℕ, List, [], ◌∷◌, ◌++◌, sym, ap, subst, append_assoc}
use Rattle.snmp_oid.specs.Identifier.{wire}
use Rattle.snmp_wire.specs.Message.{VarBind}
use Rattle.snmp_agent.specs.{table.Table.IsMibView, table.Table.MibView, table.Listing.variables}
use Rattle.snmp_walk.specs.{declared.end.WalkEnd.WalkEnd, declared.link.Link.Ghosts as LinkFacts, declared.mode.Method.Method}
use Rattle.snmp_walk.specs.declared.mode.Mode.TheVariants as mode
use Rattle.snmp_walk.specs.{Facts.ReplyFacts, Link.Agents, Link.AreLawful, Link.AreViews, Request.start_state, Walk.rest_of, Walk.rows_below}
use Rattle.snmp_walk.specs.{RunResult.HasHappened, RunResult.IsHonestFrom, RunResult.IsWalkedOver, WalkState.WalkState}
use Rattle.uses.specs.Polled.{IsBeginning}

abbrev FromRoot : Type 0
FromRoot = (view : MibView) (root : List ℕ) → IsMibView view → rest_of root (wire root) (variables view) ≡ rows_below root (variables view)

begun : FromRoot → (root community : List ℕ) (method : Method) (id : ℕ) (first : WalkState) → first ≡ start_state root mode.NoLast method community id
    → (rows refused : List VarBind) (P : MibView → WalkEnd → Type 0)
    → ((view : MibView) (end : WalkEnd) → IsMibView view → IsBeginning view root end rows → P view end)
    → (agents : Agents) (Silent : WalkState → Type 0) (end : WalkEnd) → AreLawful agents → ReplyFacts agents Silent first rows refused end
    → (view : MibView) → agents.tables ≡ view ∷ [] → P view end
begun from_root root community method id first ok rows refused P follows agents Silent end lawful given view tables =
    let good : IsMibView view = (subst (λ (views : List MibView). AreViews views) tables lawful.views).0 in
    let rest : rest_of first.root first.asked (variables view) ≡ rows_below root (variables view) =
    subst (λ (w : WalkState). rest_of w.root w.asked (variables view) ≡ rows_below root (variables view)) (sym ok) (from_root view root good) in
    let no_get : first.mode ≡ mode.NoLast = ap (λ (w : WalkState). w.mode) ok in
    let part = given.rest_beginning view tables no_get in
    follows view end good
    (refused ++ part.0, sym rest ∙ (part.1 ∙ append_assoc rows refused part.0), (λ done. given.rest_at_done view tables no_get done ∙ rest))

-- If `P` holds whenever `rows` are as `IsBeginning` says, then it holds after a walk over an honest link to an agent with one table, and after any walk in
-- which only replies of such an agent arrived.
pub walked : {W : Type 0} (facts : LinkFacts W) → ((link : W) → facts.honest link → AreLawful (facts.agents link)) → FromRoot → (link after : W) (tries : ℕ)
    (root community : List ℕ) (method : Method) (id : ℕ) (first : WalkState) → first ≡ start_state root mode.NoLast method community id
    → (rows refused : List VarBind) (end : WalkEnd) → IsWalkedOver facts link after tries first rows refused end → (P : MibView → WalkEnd → Type 0)
    → ((view : MibView) (why : WalkEnd) → IsMibView view → IsBeginning view root why rows → P view why)
    → ((view : MibView) → IsHonestFrom facts id link → (facts.agents link).tables ≡ view ∷ [] → P view end)
    × HasHappened facts link after end (λ agents why. (view : MibView) → agents.tables ≡ view ∷ [] → P view why)
walked {W} facts lawful from_root link after tries root community method id first ok rows refused end run P follows =
    let by_replies = begun from_root root community method id first ok rows refused P follows in
    let h = run.happened in (
      (λ view honest tables.
          let from = subst (λ (i : ℕ). IsHonestFrom facts i link) (sym (ap (λ (w : WalkState). w.id) ok)) honest in
          by_replies (facts.agents link) _ end (lawful link honest.0) (run.judged from).given view tables),
      record {
        events = h.events;
        in_turn = h.in_turn;
        begins = h.begins;
        replied = λ agents good replies. by_replies agents _ _ good (h.replied agents good replies);
        replied_or_failed = λ agents good replies. by_replies agents _ _ good (h.replied_or_failed agents good replies);
      },
    )
