-- What an agent sends in other ways is its reply, an error, or another Response that RFC 3416 allows (`sent_loosely`); and so is all that arrives over a link
-- to it (`come_loosely`).
use Rattle.std.proofs.{lemmas.Grind.common_steps, lemmas.Int.ints, lemmas.List.Elements.All-append, lemmas.List.Elements.All-cons}
use Rattle.std.proofs.{lemmas.Slice.take-put_mid}
use Rattle.std.proofs.{lemmas.List.length-drop, lemmas.List.take-append-le, lemmas.List.Elements.All-drop, lemmas.List.Elements.All-nil}
use Rattle.std.proofs.Math.Seq.{drop-append_seam, take-append_seam, take-length}
use Rattle.std.proofs.Common.{◌≡◌, ◌≢◌, ◌⊎◌, inl, inr, ℕ, ◌+◌, ◌-◌, ◌*◌, ◌<◌, ◌≤◌, ℤ, pos, negsuc, ◌≤ℤ◌, ◌<ℤ◌, List, [], ◌∷◌, ◌++◌, length, drop, take, max}
use Rattle.std.proofs.Common.{get_or, Option, Some, None, refl, sym, ◌∙◌, ap, subst, arith, length-append}
use borrow.Rule.Slice.PartMut.{put_mid}
use Rattle.std.specs.{Prelude.FitsSigned, Prelude.IfNone, Prelude.IfSome, Prelude.unsigned_abs, Int.w32, List.AllByRecursion}
use Rattle.snmp_wire.specs.declared.kind.Kind.{Kind}
use Rattle.snmp_wire.specs.declared.kind.Kind.TheVariants as kind
use Rattle.snmp_wire.specs.ber.Length.{IsElement, IsLength, IsLongLength}
use Rattle.snmp_wire.specs.{ber.Number.AreOctets, Name.asking, Spelling.Spells, Spelling.sequence_tag}
use Rattle.snmp_wire.specs.Message.{Datum, Message, VarBind, null_value}
use Rattle.snmp_wire.specs.Canon.{canon, canon_bindings, canon_value, canon_content}
use Rattle.snmp_wire.specs.{Laws.EncodingIsOfType, Range.IsBindingInRange, Range.IsBindingOfType, Range.IsMessageInRange, Range.IsMessageOfType}
use Rattle.snmp_agent.specs.table.Table.{MibView, IsMibView, IsNext}
use Rattle.snmp_agent.specs.Reply.{Agent, Fits, IsReply, IsRequest, response, got, got_next, unwritten, IsLongestPrefix, no_error}
use Rattle.snmp_agent.specs.Reply.{IsResponse, whole, shortened, bulk}
use Rattle.snmp_walk.specs.{declared.loose.Way.Way, private.Codec.Codec, Responses.IsResponseFrom, Responses.MayRespond, Progress.IsChain}
use Rattle.snmp_walk.specs.Link.{Agents, AreLawful, IsReplyFrom, OneOf, agent_in}
use Rattle.snmp_walk.specs.Loose.{AsksForOne, IsLengthened, IsNextWay, IsSentIn, Replaces, UsesWay, failed, general_error, with_repetitions}
use Rattle.snmp_walk.specs.Loose.{IsDroppedBy, IsSentBack, IsSentOver, IsUnchanged, agent_at, agents_at, last_sent, ways_left}
use Rattle.snmp_walk.specs.{declared.loose.LooseLink.LooseLink, declared.link.Link.Ghosts as LinkFacts}
use Rattle.snmp_walk.specs.{Network.AreRepliesOf, Network.tried, Tries.Happens}
use Rattle.snmp_agent.specs.Event.{Event, InTurn, came, receive_failed, send_failed, sent, silence}
use Rattle.snmp_walk.specs.declared.loose.Way.TheVariants as way
use Rattle.snmp_walk.specs.Responses as sending
use Rattle.snmp_walk.proofs.{Bulk.chain_prefix, Bulk.one_bulk, OwnReply.one_spelt, RequestParts.name_short, SortedRows.view_of}

-- ---- an element with its length in another form

-- if a length and its content are the same octets as another length and its content, then the two contents are equal
by_lengths : (l k a b : List ℕ) → IsLength l (length a) → IsLength k (length b) → l ++ a ≡ k ++ b → a ≡ b
by_lengths l k a b (inl s) (inl t) e =
    let both : length a ∷ a ≡ length b ∷ b = sym (ap (λ (x : List ℕ). x ++ a) s.one) ∙ e ∙ ap (λ (x : List ℕ). x ++ b) t.one in cc
by_lengths l k a b (inl s) (inr t) e =
    let both : length a ∷ a ≡ (128 + length t.digits) ∷ (t.digits ++ b) =
    sym (ap (λ (x : List ℕ). x ++ a) s.one) ∙ e ∙ ap (λ (x : List ℕ). x ++ b) t.parts in
    let first : length a ≡ 128 + length t.digits = cc in absurd (omega (arith, s.small))
by_lengths l k a b (inr s) (inl t) e =
    let both : (128 + length s.digits) ∷ (s.digits ++ a) ≡ length b ∷ b =
    sym (ap (λ (x : List ℕ). x ++ a) s.parts) ∙ e ∙ ap (λ (x : List ℕ). x ++ b) t.one in
    let first : 128 + length s.digits ≡ length b = cc in absurd (omega (arith, t.small))
by_lengths l k a b (inr s) (inr t) e =
    let both : (128 + length s.digits) ∷ (s.digits ++ a) ≡ (128 + length t.digits) ∷ (t.digits ++ b) =
    sym (ap (λ (x : List ℕ). x ++ a) s.parts) ∙ e ∙ ap (λ (x : List ℕ). x ++ b) t.parts in
    let first : 128 + length s.digits ≡ 128 + length t.digits = cc in
    let rest : s.digits ++ a ≡ t.digits ++ b = cc in
    let as_long : length s.digits ≡ length t.digits = omega arith in
    sym (drop-append_seam s.digits a) ∙ ap (drop (length s.digits)) rest ∙ ap (λ (n : ℕ). drop n (t.digits ++ b)) as_long ∙ drop-append_seam t.digits b

one_content : (tag : ℕ) (a b octets : List ℕ) → IsElement tag a octets → IsElement tag b octets → a ≡ b
one_content tag a b octets p q =
    let both : tag ∷ (p.length_octets ++ a) ≡ tag ∷ (q.length_octets ++ b) = sym p.parts ∙ q.parts in
    let rest : p.length_octets ++ a ≡ q.length_octets ++ b = cc in
    by_lengths p.length_octets q.length_octets a b p.is_length q.is_length rest

content_octets : (tag : ℕ) (content octets : List ℕ) → IsElement tag content octets → AreOctets octets → AreOctets content
content_octets tag content octets h are =
    let prefix : List ℕ = tag ∷ h.length_octets in
    subst AreOctets (drop-append_seam prefix content) (All-drop (λ o. o < 256) (length prefix) (prefix ++ content) (subst AreOctets h.parts are))

-- if `reply` encodes m, then so does `longer`, which is `reply` with its length in five octets
respelt : (m : Message) (reply longer : List ℕ) → IsLengthened reply longer → Spells m reply → Spells m longer
respelt m reply longer h s =
    let same : h.content ≡ s.version ++ s.community ++ s.pdu = one_content sequence_tag h.content (s.version ++ s.community ++ s.pdu) reply h.same s.element in
    record {
      version = s.version;
      community = s.community;
      pdu = s.pdu;
      is_version = s.is_version;
      is_community = s.is_community;
      is_pdu = s.is_pdu;
      element = record {
        length_octets = h.size;
        is_length = inr (subst (λ (c : List ℕ). IsLongLength h.size (length c)) same h.long);
        parts = subst (λ (c : List ℕ). longer ≡ sequence_tag ∷ h.size ++ c) same h.parts;
      };
      are_octets = subst AreOctets (sym h.parts)
          (All-cons (λ o. o < 256) sequence_tag (h.size ++ h.content) (omega arith)
          (All-append (λ o. o < 256) h.size h.content h.are_octets (content_octets sequence_tag h.content reply h.same s.are_octets)));
    }

-- if the second octet of an element, `long`, is at least 128, then the content of the element begins at the offset `long` - 126
pub long_content : (tag long : ℕ) (content octets : List ℕ) → IsElement tag content octets → get_or octets 1 0 ≡ long → 128 ≤ long
    → take (length octets - (long - 126)) (drop (long - 126) octets) ≡ content
long_content tag long content octets h first low = long_by h.length_octets content h.is_length h.parts
  where
    long_by : (l c : List ℕ) → IsLength l (length c) → octets ≡ tag ∷ l ++ c → take (length octets - (long - 126)) (drop (long - 126) octets) ≡ c
    long_by l c (inl s) e =
        let is : octets ≡ tag ∷ length c ∷ c = e ∙ ap (λ (x : List ℕ). tag ∷ x ++ c) s.one in
        let at : length c ≡ long = sym (ap (λ (x : List ℕ). get_or x 1 0) is) ∙ first in
        absurd (omega (arith, s.small))
    long_by l c (inr s) e =
        let is : octets ≡ (tag ∷ (128 + length s.digits) ∷ s.digits) ++ c = e ∙ ap (λ (x : List ℕ). tag ∷ x ++ c) s.parts in
        let at : 128 + length s.digits ≡ long = sym (ap (λ (x : List ℕ). get_or x 1 0) is) ∙ first in
        let free_spans : length (tag ∷ (128 + length s.digits) ∷ s.digits) ≡ long - 126 = omega arith in
        let rest : drop (long - 126) octets ≡ c =
        ap (drop (long - 126)) is ∙ ap (λ (n : ℕ). drop n ((tag ∷ (128 + length s.digits) ∷ s.digits) ++ c)) (sym free_spans)
        ∙ drop-append_seam (tag ∷ (128 + length s.digits) ∷ s.digits) c in
        let all : length octets - (long - 126) ≡ length c = sym (length-drop (long - 126) octets) ∙ ap length rest in
        ap (λ (n : ℕ). take n (drop (long - 126) octets)) all ∙ ap (take (length c)) rest ∙ take-length c

-- if octets are written after the first six of a buffer, then the buffer begins with these six and the octets written
pub framed : (six rest ys : List ℕ) (n k : ℕ) → length six ≡ 6 → n ≡ 6 + length ys → take n (put_mid 6 k (six ++ rest) ys) ≡ six ++ ys
framed six rest ys n k long e =
    take-put_mid 6 k (six ++ rest) ys n e (omega (arith, length-append six rest, long))
    ∙ ap (λ (xs : List ℕ). xs ++ ys) (subst (λ (m : ℕ). take m (six ++ rest) ≡ six) long (take-append_seam six rest))

-- the tag, the length of the content in five octets, and the content are the element `reply` with its length in five octets
pub lengthened : (reply content longer : List ℕ) (high low : ℕ) → IsElement sequence_tag content reply
    → longer ≡ (sequence_tag ∷ 132 ∷ 0 ∷ 0 ∷ high ∷ low ∷ []) ++ content → length content ≡ high * 256 + low → high < 256 → low < 256
    → IsLengthened reply longer
lengthened reply content longer high low h e size high_octet low_octet = record {
  content = content;
  same = h;
  size = 132 ∷ 0 ∷ 0 ∷ high ∷ low ∷ [];
  long = record { digits = 0 ∷ 0 ∷ high ∷ low ∷ []; some = omega arith; few = omega arith; value = omega arith; parts = refl };
  five = refl;
  are_octets = All-cons (λ o. o < 256) 132 (0 ∷ 0 ∷ high ∷ low ∷ []) (omega arith)
      (All-cons (λ o. o < 256) 0 (0 ∷ high ∷ low ∷ []) (omega arith) (All-cons (λ o. o < 256) 0 (high ∷ low ∷ []) (omega arith)
      (All-cons (λ o. o < 256) high (low ∷ []) high_octet (All-cons (λ o. o < 256) low [] low_octet (All-nil (λ o. o < 256))))));
  parts = e;
}

-- ---- the receives of a link

pub if_none : (r : Option ℕ) (P Q : Type 0) → (P → Q) → IfNone r P → IfNone r Q
if_none None P Q by h = by h
if_none (Some n) P Q by h = tt

-- if what is sent in the way used is at the start of `out`, it is at the start of the buffer `out ++ rest` too
pub sent_back : (r : Option ℕ) (out rest : List ℕ) (used : Way) (Uses : Way → Type 0) (Sent : Way → List ℕ → Type 0) → IfSome r (λ n. n ≤ 65507)
    → length out ≡ 65507 → Uses used → IfSome r (λ n. Sent used (take n out)) → IfSome r (λ n. (way : Way) × Uses way × Sent way (take n (out ++ rest)))
sent_back None out rest used Uses Sent short long uses h = tt
sent_back (Some n) out rest used Uses Sent short long uses h = grind (arith, common_steps, take-append-le)

-- ---- messages in range

-- the encoding of one binding with a NULL has at most 658 octets, if its name has at most 128 numbers
pub asked_short : (bindings : List VarBind) (b : VarBind) → bindings ≡ b ∷ [] → b.value ≡ null_value → length b.name ≤ 128
    → length (canon_bindings bindings) ≤ 658
asked_short bindings b e none short =
    let is : bindings ≡ record { name = b.name; value = null_value } ∷ [] = e ∙ ap (λ (v : Datum). record { name = b.name; value = v } ∷ []) none in
    subst (λ (bs : List VarBind). length (canon_bindings bs) ≤ 658) (sym is) (name_short b.name short)

module _ (q : Message) (typed : IsMessageOfType q) (one : AsksForOne q) where
  name_of_type : IsBindingOfType (asking one.name)
  name_of_type = (subst (AllByRecursion IsBindingOfType) one.bindings typed.bindings).0

  few_octets : length (canon_bindings q.bindings) ≤ 658
  few_octets =
      subst (λ (bs : List VarBind). length (canon_bindings bs) ≤ 658) (sym one.bindings) (name_short one.name name_of_type.name.1.short)

  -- the same bindings in a PDU of another kind, with other numbers, are in range
  asked_in_range : length q.community ≤ 65535 → (k : Kind) (a b : ℤ) → FitsSigned w32 a → FitsSigned w32 b
      → IsMessageInRange (record q { kind = k; a = a; b = b })
  asked_in_range short k a b fits_a fits_b = record {
    version = typed.version;
    community = (typed.community, short);
    id = typed.id;
    a = fits_a;
    b = fits_b;
    bindings = subst (AllByRecursion IsBindingInRange) (sym one.bindings) (record { name = name_of_type.name; value = tt }, tt);
    total = omega (arith, few_octets);
  }

-- a message isn't shorter than its community
community_short : Codec → (m : Message) → length m.community ≤ length (canon m)
unfolding canon_value canon_content
community_short codec m =
    omega (
      arith,
      codec.sizes.whole m,
      codec.sizes.head m (length (canon_bindings m.bindings)),
      codec.sizes.prefix m (length (canon_bindings m.bindings)),
      codec.sizes.opening m,
      codec.elements.element 4 m.community,
    )

below_fits : (n : ℕ) (z : ℤ) → pos n <ℤ z → FitsSigned w32 z → FitsSigned w32 (pos n)
below_fits n (pos k) low h = omega (arith, ints, low, h)
below_fits n (negsuc k) low h = absurd (omega (arith, ints, low))

-- ---- what may be sent

few_of : (n : ℕ) (z : ℤ) → pos 1 ≤ℤ z → n ≤ unsigned_abs z → pos n ≤ℤ z
few_of n (pos k) some h = omega (arith, ints, h)
few_of n (negsuc k) some h = absurd (omega (arith, ints, some))

fewer_of : (n most : ℕ) (z : ℤ) → pos n ≤ℤ pos most → pos most <ℤ z → pos n ≤ℤ z
fewer_of n most (pos k) h low = omega (arith, ints, h, low)
fewer_of n most (negsuc k) h low = absurd (omega (arith, ints, low))

-- if the longest prefix that fits is empty, the first binding has no room
first_large : (view : MibView) (max_size : ℕ) (q : Message) (o : List ℕ) (all bindings : List VarBind) → bindings ≡ [] → IsChain (IsNext view) o all
    → all ≢ [] → IsLongestPrefix max_size q all bindings
    → (p : VarBind) × IsNext view o p × (Fits max_size (response q no_error (pos 0) (p ∷ [])) → ⊥)
first_large view max_size q o [] bindings none chain some longest = absurd (some refl)
first_large view max_size q o (p ∷ later) bindings none chain some longest = (
  p,
  chain.0,
  λ fit.
      let short : length (p ∷ []) ≤ length bindings = longest.longest (p ∷ []) later refl fit in
      absurd (omega (arith, short, ap length none)),
)

-- if q is a GetBulk for more than n repetitions, what may be sent to q with n repetitions may also be sent to q
fewer_may : (view : MibView) (max_size n : ℕ) (q m : Message) → q.kind ≡ kind.GetBulkRequest → pos n <ℤ q.b
    → MayRespond view max_size (with_repetitions n q) m → MayRespond view max_size q m
fewer_may view max_size n q m k more (sending.whole (got bindings other answers e)) = let never : ⊥ = cc in absurd never
fewer_may view max_size n q m k more (sending.whole (got_next bindings other answers e)) = let never : ⊥ = cc in absurd never
fewer_may view max_size n q m k more (sending.whole (unwritten other e)) = let never : ⊥ = cc in absurd never
fewer_may view max_size n q m k more (sending.shortened large (got bindings other answers e) no_fit is) = let never : ⊥ = cc in absurd never
fewer_may view max_size n q m k more (sending.shortened large (got_next bindings other answers e) no_fit is) = let never : ⊥ = cc in absurd never
fewer_may view max_size n q m k more (sending.shortened large (unwritten other e) no_fit is) = let never : ⊥ = cc in absurd never
fewer_may view max_size n q m k more (sending.bulk asked bindings is_bulk singles names chain few none e) =
    sending.bulk asked bindings is_bulk singles names chain (fewer_of (length bindings) n q.b few more) none e

-- a Response has the community of its request
same_community : (view : MibView) (max_size : ℕ) (q r : Message) → IsResponse view max_size q r → r.community ≡ q.community
same_community view max_size q r (whole (got bindings k answers e) fits) = ap (λ (m : Message). m.community) e
same_community view max_size q r (whole (got_next bindings k answers e) fits) = ap (λ (m : Message). m.community) e
same_community view max_size q r (whole (unwritten k e) fits) = ap (λ (m : Message). m.community) e
same_community view max_size q r (shortened large is no_fit e) = ap (λ (m : Message). m.community) e
same_community view max_size q r (bulk all bindings k asked longest e) = ap (λ (m : Message). m.community) e

module _ (codec : Codec) (typed : EncodingIsOfType) (agent : Agent) (good : IsMibView agent.view) (small : agent.max_size ≤ 65507) where
  -- the agent's Responses are among those that agents may send
  may_respond : (q r : Message) → AsksForOne q → IsResponse agent.view agent.max_size q r → MayRespond agent.view agent.max_size q r
  may_respond q r one (whole is fits) = sending.whole is
  may_respond q r one (shortened large is no_fit e) = sending.shortened large is no_fit e
  may_respond q r one (bulk all bindings k asked longest e) =
      let repeats = one.repeats k in
      let names = one_bulk codec agent.view good q one.name all repeats.0 one.bindings asked in
      let few : length bindings ≤ unsigned_abs q.b = omega (arith, ap length longest.prefix, length-append bindings longest.more, names.few) in
      sending.bulk (asking one.name) bindings k repeats.0 one.bindings
      (chain_prefix (IsNext agent.view) one.name bindings longest.more (subst (IsChain (IsNext agent.view) one.name) longest.prefix names.chain))
      (few_of (length bindings) q.b repeats.1 few)
      (λ none. first_large agent.view agent.max_size q one.name all bindings none names.chain (names.some repeats.1) longest) e

  -- a message that a reply to q encodes is a Response that agents may send
  replied : (q m : Message) (datagram octets : List ℕ) → AsksForOne q → Spells q datagram → IsReply agent datagram octets → Spells m octets
      → MayRespond agent.view agent.max_size q m
  replied q m datagram octets one encoded reply spelt =
      let request = one_spelt codec reply.request q datagram reply.is_request.spelt encoded in
      let same = one_spelt codec m reply.response octets spelt (codec.reply agent datagram octets good (omega (arith, small)) reply) in
      subst (MayRespond agent.view agent.max_size q) (sym same)
      (may_respond q reply.response one (subst (λ (x : Message). IsResponse agent.view agent.max_size x reply.response) request reply.is_response))

  -- a request with a reply has the agent's community, which fits into a message
  short_community : (q : Message) (datagram octets : List ℕ) → Spells q datagram → IsReply agent datagram octets → length q.community ≤ 65535
  short_community q datagram octets encoded reply =
      let same : reply.response.community ≡ q.community =
      same_community agent.view agent.max_size reply.request reply.response reply.is_response
      ∙ ap (λ (m : Message). m.community) (one_spelt codec reply.request q datagram reply.is_request.spelt encoded) in
      omega (arith, community_short codec reply.response, reply.fits, ap length same, small)

  -- what is sent in place of a reply is genErr, or may be sent
  allowed : (how : Way) (q m : Message) (datagram reply octets : List ℕ) → Spells q datagram → IsReply agent datagram reply
      → Replaces agent how q reply octets → Spells m octets
      → ((how ≡ way.GenErr) × (m.a ≡ general_error)) ⊎ MayRespond agent.view agent.max_size q m
  allowed way.Whole q m datagram reply octets encoded is h spelt = absurd h
  allowed way.GenErr q m datagram reply octets encoded is (one, fits, e) spelt =
      let short : length q.community ≤ 65535 = omega (arith, fits, small, community_short codec (failed q)) in
      let range = asked_in_range q (typed q datagram encoded) one short kind.Response general_error (pos 1) (omega arith) (omega arith) in
      let own : Spells (failed q) octets = subst (Spells (failed q)) (sym e) (codec.read (failed q) (canon (failed q)) (codec.strict (failed q) range)) in
      inl (refl, ap (λ (x : Message). x.a) (one_spelt codec m (failed q) octets spelt own))
  allowed (way.Fewer n) q m datagram reply octets encoded is (one, k, more, h) spelt =
      let less = with_repetitions (max n 1) q in
      let type = typed q datagram encoded in
      let range = asked_in_range q type one (short_community q datagram reply encoded is) q.kind q.a (pos (max n 1)) type.a
      (below_fits (max n 1) q.b more type.b) in
      let own : Spells less (canon less) = codec.read less (canon less) (codec.strict less range) in
      let still : AsksForOne less =
      record { name = one.name; bindings = one.bindings; repeats = λ _. ((one.repeats k).0, omega (arith, ints)) } in
      inr (fewer_may agent.view agent.max_size (max n 1) q m k more (replied less m (canon less) octets still own h spelt))
  allowed way.LongLength q m datagram reply octets encoded is (one, room, h) spelt =
      let same = one_spelt codec m is.response octets spelt
      (respelt is.response reply octets h (codec.reply agent datagram reply good (omega (arith, small)) is)) in
      inr (replied q m datagram reply one encoded is
      (subst (λ (x : Message). Spells x reply) (sym same) (codec.reply agent datagram reply good (omega (arith, small)) is)))

-- what an agent sends in any way is genErr, its reply, or another Response that it may send
sent_loosely : Codec → EncodingIsOfType → (agents : Agents) (view : MibView) (how : Way) (datagram octets : List ℕ) (m : Message) → AreLawful agents
    → OneOf agents.tables view → IsSentIn (agent_in agents view) how datagram octets → Spells m octets
    → ((how ≡ way.GenErr) × (m.a ≡ general_error)) ⊎ (IsReplyFrom agents datagram octets ⊎ IsResponseFrom agents datagram m)
sent_loosely codec typed agents view how datagram octets m lawful one s spelt =
    let agent = agent_in agents view in
    let good = view_of agents.tables lawful.views view one in
    elim s.sent [
      | inl h ↦ elim (allowed codec typed agent good lawful.size how s.request m datagram s.reply octets s.encoded s.is_reply h spelt) [
        | inl error ↦ inl error
        | inr may ↦ inr (inr (record {
          view = view;
          one = one;
          request = s.request;
          is_request = subst (IsRequest agents.community datagram)
              (one_spelt codec s.is_reply.request s.request datagram s.is_reply.is_request.spelt s.encoded) s.is_reply.is_request;
          may = may;
        }))
      ]
      | inr h ↦ inr (inl (view, one, subst (IsReply agent datagram) (sym h.0) s.is_reply))
    ]

-- ---- what arrives over a link

-- if the steps `xs`, x and `ys` took the link from `old` to `new`, then `xs` took it from `old` to some state, and x took it from there to another
up_to : {L X : Type 0} (step : L → X → L → Type 0) (xs ys : List X) (x : X) (old new : L) → InTurn step old (xs ++ x ∷ ys) new
    → (mid : L) × (next : L) × InTurn step old xs mid × step mid x next
up_to step [] ys x old new h = (old, h.0, refl, h.1)
up_to step (y ∷ xs) ys x old new h = let s = up_to step xs ys x h.0 new h.2 in (s.0, s.1, (h.0, h.1, s.2), s.3)

later : (e : Event (Unit {0})) (more : List (Event (Unit {0}))) (q : List ℕ) → OneOf (tried more) q → OneOf (tried (e ∷ more)) q
later (sent peer d) more q one = inr one
later (send_failed peer d) more q one = inr one
later (came peer d) more q one = one
later silence more q one = one
later receive_failed more q one = one

no_message : (m : Message) (octets : List ℕ) → octets ≡ [] → Spells m octets → ⊥
no_message m octets none s = let parts = s.element.parts in cc

-- a way that is left after the next one was used is one of those that were ahead before
after_next : (ahead left : List Way) (next other : Way) → IsNextWay ahead next left → OneOf left other → OneOf ahead other
after_next [] left next other h one = absurd (subst (λ (ways : List Way). OneOf ways other) h.1 one)
after_next (first ∷ more) left next other h one = inr (subst (λ (ways : List Way). OneOf ways other) h.1 one)

-- if the next way is `GenErr`, then `GenErr` is among the ways ahead
error_next : (ahead left : List Way) (next : Way) → IsNextWay ahead next left → next ≡ way.GenErr → OneOf ahead way.GenErr
error_next [] left next h error = let whole = h.0 in let never : ⊥ = cc in absurd never
error_next (first ∷ more) left next h error = inl (sym error ∙ h.0)

-- What holds after events took the link from `old` to `new`: the agent is unchanged, the datagram sent last was passed to a send in them or is the one from
-- before, and no way is added.
record IsLed (old : LooseLink) (events : List (Event (Unit {0}))) (new : LooseLink) : Type 0 where
  agent : agent_at new ≡ agent_at old
  last : OneOf (tried events) (last_sent new) ⊎ (last_sent new ≡ last_sent old)
  ways : (w : Way) → OneOf (ways_left new) w → OneOf (ways_left old) w

unchanged : (old new : LooseLink) (e : Event (Unit {0})) → IsUnchanged old new → IsLed old (e ∷ []) new
unchanged old new e h = record { agent = h.agent; last = inr h.last; ways = λ w. subst (λ (ways : List Way). OneOf ways w) h.ways }

by_way : (old new : LooseLink) (e : Event (Unit {0})) (used : Way) → UsesWay old used new → IsLed old (e ∷ []) new
by_way old new e used h = record {
  agent = h.agent;
  last = inr h.last;
  ways = λ w. after_next (ways_left old) (ways_left new) used w h.next;
}

module _ (facts : LinkFacts LooseLink)
    (sends : (old new : LooseLink) (d : List ℕ) → facts.sends old d new → IsSentOver old d new)
    (fails : (old new : LooseLink) (d : List ℕ) → facts.send_fails old d new → IsUnchanged old new × (1024 < length d))
    (delivers : (old new : LooseLink) (d : List ℕ) → facts.delivers old d new → IsSentBack old d new)
    (silent : (old new : LooseLink) → facts.is_silent old new → IsDroppedBy old new)
    (receives : (old new : LooseLink) → facts.receive_fails old new → IsUnchanged old new) where
  one_step : (e : Event (Unit {0})) (old new : LooseLink) → Happens facts old e new → IsLed old (e ∷ []) new
  one_step (sent peer d) old new h =
      let s = sends old new d h in
      record { agent = s.agent; last = inl (inl s.last); ways = λ w. subst (λ (ways : List Way). OneOf ways w) s.ways }
  one_step (send_failed peer d) old new h = unchanged old new (send_failed peer d) (fails old new d h).0
  one_step (came peer d) old new h = let s = delivers old new d h in by_way old new (came peer d) s.0 s.1
  one_step silence old new h = let s = silent old new h in by_way old new silence s.0 s.1
  one_step receive_failed old new h = unchanged old new receive_failed (receives old new h)

  led : (events : List (Event (Unit {0}))) (old new : LooseLink) → InTurn (Happens facts) old events new → IsLed old events new
  led [] old new h = record { agent = ap agent_at h; last = inr (ap last_sent h); ways = λ w. subst (λ (l : LooseLink). OneOf (ways_left l) w) h }
  led (e ∷ more) old new h =
      let first = one_step e old h.0 h.1 in
      let rest = led more h.0 new h.2 in
      record {
        agent = rest.agent ∙ first.agent;
        last = elim rest.last [
          | inl one ↦ inl (later e more (last_sent new) one)
          | inr same ↦ elim first.last [
            | inl one ↦ inl (in_first e more (last_sent new) (subst (OneOf (tried (e ∷ []))) (sym same) one))
            | inr before ↦ inr (same ∙ before)
          ]
        ];
        ways = λ w one. first.ways w (rest.ways w one);
      }
    where
      in_first : (e : Event (Unit {0})) (more : List (Event (Unit {0}))) (q : List ℕ) → OneOf (tried (e ∷ [])) q → OneOf (tried (e ∷ more)) q
      in_first (sent peer d) more q (inl is) = inl is
      in_first (sent peer d) more q (inr none) = absurd none
      in_first (send_failed peer d) more q (inl is) = inl is
      in_first (send_failed peer d) more q (inr none) = absurd none
      in_first (came peer d) more q one = absurd one
      in_first silence more q one = absurd one
      in_first receive_failed more q one = absurd one

  -- over a link over which nothing was sent before: if no message of this sort has the status of genErr, or no way ahead is `GenErr`, then each message of
  -- this sort that arrives is a reply or another Response
  pub come_loosely : Codec → EncodingIsOfType → (Sort : Message → Type 0) (events : List (Event (Unit {0}))) (old new : LooseLink)
      → ((m : Message) → Sort m → m.a ≡ general_error → OneOf (ways_left old) way.GenErr → ⊥) → IsMibView (agent_at old).view
      → last_sent old ≡ [] → InTurn (Happens facts) old events new → AreRepliesOf Sort (agents_at old) events
  come_loosely codec typed Sort events old new no_error good none h before after peer r parts m spelt is =
      let at = up_to (Happens facts) before after (came peer r) old new
      (subst (λ (es : List (Event (Unit {0}))). InTurn (Happens facts) old es new) parts h) in
      let so = led before old at.0 at.2 in
      let q = last_sent at.0 in
      let back = delivers at.0 at.1 r at.3 in
      let sent : IsSentIn (agent_at old) back.0 q r = subst (λ (a : Agent). IsSentIn a back.0 q r) so.agent back.2 in
      elim so.last [
        | inl one ↦ elim (sent_loosely codec typed (agents_at old) old.table.now back.0 q r m
            (record { views = (good, tt); size = old.config.datagram }) (inl refl) sent spelt) [
              | inl error ↦ absurd (no_error m is error.1
                  (so.ways way.GenErr (error_next (ways_left at.0) (ways_left at.1) back.0 back.1.next error.0)))
              | inr reply ↦ (q, one, reply)
            ]
        | inr same ↦ absurd (no_message sent.request q (same ∙ none) sent.encoded)
      ]
