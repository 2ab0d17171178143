use Rattle.std.proofs.Common.{◌≡◌, ℤ, List, ℕ, [], ◌∷◌, Some, length, take, refl, ap, subst}
use Rattle.std.specs.Int.{w32}
use Rattle.std.proofs.lemmas.Int.{to_z-of_z}
use Rattle.snmp_wire.specs.{Canon.canon, Message.VarBind, Spelling.Spells}
use Rattle.snmp_agent.specs.Reply.{Agent, Fits, IsReply, agent_of}
use Rattle.snmp_agent.specs.Reply.IsWhole.{got}
use Rattle.snmp_agent.specs.Reply.IsResponse.{whole}
use Rattle.snmp_agent.specs.table.Table.{IsGet}
use Rattle.uses.specs.Changes.{get_of, reply_with}
use Rattle.uses.proofs.changes.ask.Goals as goal

-- if `octets` encode the Get of `name`, which returns `binding`, and the Response with `binding` fits, then its shortest encoding is
-- the agent's reply to `octets`
is_reply : (agent : Agent) (id : ℤ) (name octets : List ℕ) (binding : VarBind) → Spells (get_of agent.community id name) octets
    → IsGet agent.view name binding → Fits agent.max_size (reply_with agent.community id binding)
    → IsReply agent octets (canon (reply_with agent.community id binding))
is_reply agent id name octets binding spelt is_get fits = record {
  request = get_of agent.community id name;
  response = reply_with agent.community id binding;
  is_request = record { spelt = spelt; version = refl; named = refl; served = tt };
  is_response = whole (got (binding ∷ []) refl (is_get, tt) refl) fits;
  fits = fits;
  encoding = refl;
}

pub returns-in-Reply : goal.returns-in-Reply
returns-in-Reply c binding is_get fits =
    let agent : Agent = agent_of c.args.table.now c.args.config.now in
    let octets : List ℕ = take c.write_get-size.result c.write_get-size.new.out in
    let spelt : Spells (get_of agent.community c.args.id c.args.name.now) octets = subst (λ (id : ℤ). Spells (get_of agent.community id c.args.name.now) octets)
    (to_z-of_z w32 c.args.id c.ranges.id) c.write_get-size.ensures.get in
    let reply : List ℕ = canon (reply_with agent.community c.args.id binding) in
    let sent = c.in-Reply.ensures.replied reply (is_reply agent c.args.id c.args.name.now octets binding spelt is_get fits) in
    let e = sent.0 in
    let same : c.in-Reply.length ≡ length reply = cc in
    (ap (λ (n : ℕ). Some n) same, sent.1)

pub returns-in-Dropped : goal.returns-in-Dropped
returns-in-Dropped c binding is_get fits =
    let agent : Agent = agent_of c.args.table.now c.args.config.now in
    let octets : List ℕ = take c.write_get-size.result c.write_get-size.new.out in
    let spelt : Spells (get_of agent.community c.args.id c.args.name.now) octets = subst (λ (id : ℤ). Spells (get_of agent.community id c.args.name.now) octets)
    (to_z-of_z w32 c.args.id c.ranges.id) c.write_get-size.ensures.get in
    let reply : List ℕ = canon (reply_with agent.community c.args.id binding) in
    let sent = c.in-Dropped.ensures.replied reply (is_reply agent c.args.id c.args.name.now octets binding spelt is_get fits) in
    let e = sent.0 in
    let no : ⊥ = cc in
    absurd no
