-- The Response to a GetBulk has the longest prefix that fits of all bindings that the GetBulk asks for (`bulk_response`).
use Rattle.std.proofs.Common.{◌≡◌, ◌≢◌, ℕ, pos, ◌≤◌, ◌<◌, List, [], ◌∷◌, ◌++◌, length, refl, sym, ap, subst, ◌∙◌, ⊎_elim, arith, length-append}
use Rattle.std.proofs.lemmas.Bool.{cases_lt}
use Rattle.snmp_wire.specs.declared.kind.Kind.TheVariants as kind
use Rattle.snmp_wire.specs.{Message.VarBind, Message.Message, Canon.canon_bindings, Sizes.MessageSizes}
use Rattle.snmp_agent.specs.{table.Table.MibView, private.Answering.Held, private.Answering.IsRoom, private.Answering.whole_size}
use Rattle.snmp_agent.specs.Reply.{Fits, IsBulk, IsResponse, bulk, no_error, response}
use Rattle.snmp_agent.proofs.{Lists.inside, Requests.response_size, Lengths.within, Lengths.beyond, ReplyBindings.longer_by}
use Rattle.snmp_agent.proofs.ReplyBindings.{HasNoRoom, HoldsPrefix, some_octets}

no_octets : (bindings : List VarBind) → length (canon_bindings bindings) ≡ 0 → bindings ≡ []
no_octets [] none = refl
no_octets (p ∷ more) none = absurd (omega (arith, none, longer_by [] more p, some_octets p))

-- `all` is `added ++ more`: if the first of `more` has no room, or `more` is empty, then no prefix of `all` that fits is longer than `added`
is_longest : MessageSizes → (q : Message) (limit room : ℕ) → IsRoom (response q no_error (pos 0) []) limit room → (all added more : List VarBind) (total : ℕ)
    → all ≡ added ++ more → total ≡ length (canon_bindings added) → HasNoRoom room total more → (ahead rest : List VarBind) → all ≡ ahead ++ rest
    → Fits limit (response q no_error (pos 0) ahead) → length ahead ≤ length added
is_longest sizes q limit room is_room all added [] total prefix size no_room ahead rest e fits =
    omega (arith, ap length (sym prefix ∙ e), length-append added [], length-append ahead rest)
is_longest sizes q limit room is_room all added (p ∷ more) total prefix size no_room ahead rest e fits = ⊎_elim
    (λ long.
    let found = inside added p more ahead rest (sym prefix ∙ e) long in
    let large : room < length (canon_bindings ahead) =
    omega (arith, no_room, size, ap (λ ps. length (canon_bindings ps)) found.1, longer_by added found.0 p) in
    let past : limit < whole_size (response q no_error (pos 0) []) (length (canon_bindings ahead)) = beyond sizes (response q no_error (pos 0) []) limit room
    (length (canon_bindings ahead)) is_room large in
    absurd (omega (arith, past, response_size sizes q no_error (pos 0) ahead)))
    (λ short. short)
    (cases_lt (length added) (length ahead))

-- if a prefix of `all`, the bindings that the GetBulk `q` asks for, was written, and the next binding, if any, had no room, then the Response to `q` has this
-- prefix
pub bulk_response : MessageSizes → (view : MibView) (limit room : ℕ) (q m : Message) (all : List VarBind) (end : Held) → q.kind ≡ kind.GetBulkRequest
    → IsBulk view q all → m ≡ response q no_error (pos 0) [] → IsRoom m limit room → (here : HoldsPrefix room [] all end)
    → IsResponse view limit q (response q no_error (pos 0) here.added)
bulk_response sizes view limit room q m all end is asked parts room_is here =
    let r = response q no_error (pos 0) [] in
    let is_room : IsRoom r limit room = subst (λ (x : Message). IsRoom x limit room) parts room_is in
    let total = length (canon_bindings here.added) in
    let size : length end.octets ≡ total = ap length here.octets in
    bulk all here.added is asked (record {
      more = here.more;
      prefix = here.prefix;
      fits = λ some.
          let filled : total ≢ 0 = λ none. some (no_octets here.added none) in
          omega (
            arith,
            within sizes r limit room total is_room filled (omega (arith, size, here.fits)),
            response_size sizes q no_error
                (pos 0) here.added,
          );
      longest = is_longest sizes q limit room is_room all here.added here.more (length end.octets) here.prefix size here.no_room;
    }) refl
