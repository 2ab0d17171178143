-- An agent has at most one reply to a datagram (`one_reply`), and none to one that it drops
-- (`no_reply`).
use Rattle.std.proofs.lemmas.Grind.{common_steps}
use Rattle.std.proofs.Common.{◌≡◌, ℕ, pos, ◌≤◌, List, [], ◌∷◌, ◌++◌, length, take, drop, refl, sym, ap, subst, ◌∙◌}
use Rattle.std.proofs.Common.{append_assoc, append-nil, arith, length-append}
use Rattle.snmp_wire.specs.declared.kind.Kind.TheVariants as kind
use Rattle.snmp_wire.specs.{Message.VarBind, Message.Message, Spelling.Spells, Canon.canon}
use Rattle.snmp_agent.specs.{table.Table.MibView, table.Table.IsGet, table.Table.IsNext, table.Table.IsNextAfter, declared.config.DropReason.DropReason}
use Rattle.snmp_agent.specs.declared.config.DropReason.TheVariants as why
use Rattle.snmp_agent.specs.declared.config.Outcome.TheVariants.{Reply}
use Rattle.snmp_agent.specs.Reply.{Agent, response, AreAnswers, no_error, IsWhole, Fits, or_zero}
use Rattle.snmp_agent.specs.Reply.{AreRounds, IsBulk, IsLongestPrefix, IsResponse, whole, shortened, bulk, IsReply, IsDropped, IsRefused}
use Rattle.snmp_agent.specs.table.Exact.{HasOne}
use Rattle.snmp_agent.proofs.Lists.{same_prefix}

abbrev OneSpelling : Type 0
OneSpelling = (m n : Message) (b c rest more : List ℕ) → Spells m b → Spells n c → b ++ rest ≡ c ++ more → (m ≡ n) × (b ≡ c)

-- ---- answers

-- each name has exactly one answer to a Get; the next two definitions say the same of a GetNext and of a repeated GetNext (the law `one_answer`)
abbrev pub HasGets : Type 0
HasGets = (view : MibView) (o : List ℕ) → HasOne (IsGet view o)

abbrev pub HasNexts : Type 0
HasNexts = (view : MibView) (o : List ℕ) → HasOne (IsNext view o)

abbrev pub HasNextsAfter : Type 0
HasNextsAfter = (view : MibView) (rounds : ℕ) (o : List ℕ) → HasOne (IsNextAfter view rounds o)

pub same_answers : (R : VarBind → VarBind → Type 0) → ((asked : VarBind) → HasOne (R asked)) → (asked returned other : List VarBind)
    → AreAnswers R asked returned → AreAnswers R asked other → returned ≡ other
same_answers R one [] [] [] h k = refl
same_answers R one (a ∷ more) (p ∷ ps) (q ∷ qs) h k =
    let first : p ≡ q = (one a).2 p h.0 ∙ sym ((one a).2 q k.0) in
    let rest : ps ≡ qs = same_answers R one more ps qs h.1 k.1 in
    λ i. first i ∷ rest i
same_answers R one [] [] _ h k = absurd k
same_answers R one (a ∷ more) (p ∷ ps) [] h k = absurd k
same_answers R one _ _ other h k = absurd h

-- ---- longest prefixes

-- if `a` and `b` are longest prefixes of the same bindings, then `a` is no longer than `b`
no_longer : (max_size : ℕ) (q : Message) (all a b : List VarBind) → IsLongestPrefix max_size q all a → IsLongestPrefix max_size q all b → length a ≤ length b
no_longer max_size q all a b h k = grind (arith, common_steps)

one_prefix : (max_size : ℕ) (q : Message) (all a b : List VarBind) → IsLongestPrefix max_size q all a → IsLongestPrefix max_size q all b → a ≡ b
one_prefix max_size q all a b h k =
    same_prefix a b h.more k.more (sym h.prefix ∙ k.prefix) (omega (arith, no_longer max_size q all a b h k, no_longer max_size q all b a k h))

-- ---- rounds

module _ (nexts : HasNextsAfter) (view : MibView) (repetitions : ℕ) (names : List VarBind) where
  -- if `rounds` are all rounds of a GetBulk, then `rounds` with other rounds after them are not
  no_more : (rounds more : List (List VarBind)) (round : List VarBind) → AreRounds view repetitions names rounds
      → AreRounds view repetitions names (rounds ++ round ∷ more) → ⊥
  no_more rounds more round h k =
      let end = h.closed (omega (arith, k.few, length-append rounds (round ∷ more))) in
      let none : round ∷ more ≡ [] = k.last end.0 (round ∷ more) end.1
      (ap (λ rs. rs ++ round ∷ more) end.2 ∙ append_assoc end.0 (end.1 ∷ []) (round ∷ more)) end.3 in cc

  -- if `before ++ a` and `before ++ b` are both all rounds of a GetBulk, then `a` and `b` are the same
  same_rounds : (before a b : List (List VarBind)) → AreRounds view repetitions names (before ++ a)
      → AreRounds view repetitions names (before ++ b) → a ≡ b
  same_rounds before [] [] h k = refl
  same_rounds before [] (s ∷ b) h k = absurd (no_more before b s (rw (append-nil before) at h) k)
  same_rounds before (r ∷ a) [] h k = absurd (no_more before a r (rw (append-nil before) at k) h)
  same_rounds before (r ∷ a) (s ∷ b) h k =
      let first : r ≡ s =
      same_answers (λ asked returned. IsNextAfter view (length before) asked.name returned) (λ asked. nexts view (length before) asked.name)
      names r s (h.successors before a r refl) (k.successors before b s refl) in
      let rest : a ≡ b = same_rounds (before ++ r ∷ []) a b (rw (append_assoc before (r ∷ []) a) h) (rw (append_assoc before (r ∷ []) b, first) k) in
      λ i. first i ∷ rest i

-- ---- responses

module _ (gets : HasGets) (nexts : HasNexts) (later_nexts : HasNextsAfter) (view : MibView) (q : Message) where
  same_bulk : (a b : List VarBind) → IsBulk view q a → IsBulk view q b → a ≡ b
  same_bulk a b h k =
      let singles : h.singles ≡ k.singles =
      same_answers (λ asked returned. IsNext view asked.name returned) (λ asked. nexts view asked.name)
      (take (or_zero q.a) q.bindings) h.singles k.singles h.are_singles k.are_singles in
      let rounds : h.rounds ≡ k.rounds =
      same_rounds later_nexts view (or_zero q.b) (drop (or_zero q.a) q.bindings) [] h.rounds k.rounds h.are_rounds k.are_rounds in
      cc (h.parts, k.parts)

  same_got : (a b : List VarBind) → AreAnswers (λ asked returned. IsGet view asked.name returned) q.bindings a
      → AreAnswers (λ asked returned. IsGet view asked.name returned) q.bindings b → a ≡ b
  same_got a b = same_answers (λ asked returned. IsGet view asked.name returned) (λ asked. gets view asked.name) q.bindings a b

  same_next : (a b : List VarBind) → AreAnswers (λ asked returned. IsNext view asked.name returned) q.bindings a
      → AreAnswers (λ asked returned. IsNext view asked.name returned) q.bindings b → a ≡ b
  same_next a b = same_answers (λ asked returned. IsNext view asked.name returned) (λ asked. nexts view asked.name) q.bindings a b

  same_whole : (r s : Message) → IsWhole view q r → IsWhole view q s → r ≡ s
  same_whole r s h k = grind (arith, common_steps, same_got, same_next)

  no_bulk : (r : Message) → IsWhole view q r → q.kind ≡ kind.GetBulkRequest → ⊥
  no_bulk r h same = grind (arith, common_steps)

  same_response : (limit : ℕ) (r s : Message) → IsResponse view limit q r → IsResponse view limit q s → r ≡ s
  same_response limit r s (whole h fits) (whole k fit) = same_whole r s h k
  same_response limit r s (whole h fits) (shortened large k no_fit e) = absurd (no_fit (subst (Fits limit) (same_whole r large h k) fits))
  same_response limit r s (whole h fits) (bulk all bindings is k prefix e) = absurd (no_bulk r h is)
  same_response limit r s (shortened large h no_fit e) (whole k fits) = absurd (no_fit (subst (Fits limit) (same_whole s large k h) fits))
  same_response limit r s (shortened large h no_fit e) (shortened other k none f) = e ∙ sym f
  same_response limit r s (shortened large h no_fit e) (bulk all bindings is k prefix f) = absurd (no_bulk large h is)
  same_response limit r s (bulk all bindings is h prefix e) (whole k fits) = absurd (no_bulk s k is)
  same_response limit r s (bulk all bindings is h prefix e) (shortened large k no_fit f) = absurd (no_bulk large k is)
  same_response limit r s (bulk all a is h prefix e) (bulk others b same k other f) =
      let here : IsLongestPrefix limit q others a = subst (λ (ps : List VarBind). IsLongestPrefix limit q ps a) (same_bulk all others h k) prefix in
      e ∙ ap (response q no_error (pos 0)) (one_prefix limit q others a b here other) ∙ sym f

-- ---- replies

module _ (gets : HasGets) (nexts : HasNexts) (later_nexts : HasNextsAfter) (spelling : OneSpelling) where
  same_request : (octets : List ℕ) (q p : Message) → Spells q octets → Spells p octets → q ≡ p
  same_request octets q p h k = let same = spelling q p octets octets [] [] h k refl in same.0

  responses : (agent : Agent) (q p r s : Message) → q ≡ p → IsResponse agent.view agent.max_size q r → IsResponse agent.view agent.max_size p s → r ≡ s
  responses agent q p r s same h k =
      same_response gets nexts later_nexts agent.view q agent.max_size r s h
      (subst (λ (m : Message). IsResponse agent.view agent.max_size m s) (sym same) k)

  pub one_reply : (agent : Agent) (datagram a b : List ℕ) → IsReply agent datagram a → IsReply agent datagram b → a ≡ b
  one_reply agent datagram a b h k =
      let same : h.request ≡ k.request = same_request datagram h.request k.request h.is_request.spelt k.is_request.spelt in
      h.encoding ∙ ap canon (responses agent h.request k.request h.response k.response same h.is_response k.is_response) ∙ sym k.encoding

  pub no_reply : (agent : Agent) (datagram reply : List ℕ) (reason : DropReason) → IsReply agent datagram reply → IsDropped agent datagram reason → ⊥
  no_reply agent datagram reply why.Undecodable h none = none h.request h.is_request.spelt
  no_reply agent datagram reply why.Version h (p, spelt, other) =
      other (rw (← same_request datagram h.request p h.is_request.spelt spelt) h.is_request.version)
  no_reply agent datagram reply why.Community h (p, spelt, version, other) =
      other (rw (← same_request datagram h.request p h.is_request.spelt spelt) h.is_request.named)
  no_reply agent datagram reply why.Pdu h (p, spelt, version, named, other) =
      other (rw (← same_request datagram h.request p h.is_request.spelt spelt) h.is_request.served)
  no_reply agent datagram reply why.TooLong h (p, r, asked, answered, large) =
      let same : h.request ≡ p = same_request datagram h.request p h.is_request.spelt asked.spelt in
      large (rw (← responses agent h.request p h.response r same h.is_response answered) h.fits)

-- ---- a request that has a reply gets it

pub is_replied : (size : ℕ) (out octets : List ℕ) → size ≡ length (take size out) → take size out ≡ octets
    → (Reply size ≡ Reply (length octets)) × (take (length octets) out ≡ octets)
is_replied size out octets long taken =
    let same : size ≡ length octets = long ∙ ap length taken in
    (ap Reply same, subst (λ (n : ℕ). take n out ≡ octets) same taken)

pub refused_is_dropped : (agent : Agent) (octets : List ℕ) (reason : DropReason) → IsRefused agent.community octets reason → IsDropped agent octets reason
refused_is_dropped agent octets why.Undecodable is = is
refused_is_dropped agent octets why.Version is = is
refused_is_dropped agent octets why.Community is = is
refused_is_dropped agent octets why.Pdu is = is
refused_is_dropped agent octets why.TooLong is = absurd is
