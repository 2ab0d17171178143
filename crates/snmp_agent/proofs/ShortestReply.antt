-- If an agent serves a MIB view, with messages of at most 65535 octets, then a reply is the shortest encoding of its Response: all parts of the Response are
-- within their ranges.
use Rattle.std.proofs.{lemmas.Grind.common_steps, lemmas.List.take-append-drop}
use Rattle.std.proofs.Common.{◌≡◌, ℕ, ℤ, pos, zero, suc, ◌+◌, ◌≤◌, List, [], ◌∷◌, ◌++◌, length, take, drop, refl, sym, subst, ◌∙◌, arith}
use Rattle.std.proofs.Common.{length-append, append_assoc}
use Rattle.std.specs.{List.AllByRecursion, Int.w32}
use mir.Val.{SFits}
use Rattle.snmp_wire.specs.Canon.{canon, canon_binding, canon_bindings, canon_content, canon_head, canon_opening, canon_value}
use Rattle.snmp_wire.specs.{Laws.OneShortestEncoding, Laws.EncodingIsOfType, Shortest.IsShortestEncoding, Sizes.MessageSizes, ber.Sizes.ElementSizes}
use Rattle.snmp_wire.specs.Message.{Datum, VarBind, Message, integer_value, object_id, octet_string}
use Rattle.snmp_wire.specs.Range.{IsBindingInRange, IsBindingOfType, IsInRange, IsMessageInRange, IsMessageOfType, IsOfType}
use Rattle.snmp_agent.specs.table.Table.{MibView, IsMibView, IsRow, IsGet, IsNext, IsNextAfter}
use Rattle.snmp_agent.specs.Reply.{Agent, AreAnswers, AreRounds, IsBulk, IsReply, IsResponse, IsWhole, bulk, failed_index, got, got_next, joined}
use Rattle.snmp_agent.specs.Reply.{no_error, not_writable, or_zero, response, shortened, too_big, unwritten, whole}
use Rattle.snmp_agent.proofs.{Lists.all_back, Lists.all_both, Lists.all_prefix, ValidRows.name_in_range, ValidRows.value_in_range}
use Rattle.snmp_agent.proofs.Encodings.{longer_binding, longer_value}

-- ---- bindings of a request: those that a Response has room for are in range

content_size : (text : List ℕ) → length (canon_content (octet_string text)) ≡ length text
unfolding canon_content
content_size text = refl

value_of_request : (value : Datum) → IsOfType value → length (canon_content value) ≤ 65535 → IsInRange value
unfolding canon_content
value_of_request value h short = grind (arith, common_steps)

module _ (sizes : ElementSizes) where
  bindings_of_request : (bindings : List VarBind) → AllByRecursion IsBindingOfType bindings → length (canon_bindings bindings) ≤ 65535
      → AllByRecursion IsBindingInRange bindings
  unfolding canon_bindings
  bindings_of_request [] h short = tt
  bindings_of_request (binding ∷ more) h short =
      let parts : length (canon_bindings (binding ∷ more)) ≡ length (canon_binding binding) + length (canon_bindings more) =
      length-append (canon_binding binding) (canon_bindings more) in (
        record {
          name = h.0.name;
          value = value_of_request binding.value h.0.value
              (omega (arith, parts, short, longer_value sizes binding.value, longer_binding sizes binding));
        },
        bindings_of_request more h.1 (omega (arith, parts, short)),
      )

-- ---- answers

answers_in_range : (IsAnswer : VarBind → VarBind → Type 0)
    → ((asked returned : VarBind) → IsInRange (object_id asked.name) → IsAnswer asked returned → IsBindingInRange returned)
    → (names returned : List VarBind) → AllByRecursion IsBindingOfType names → AreAnswers IsAnswer names returned
    → AllByRecursion IsBindingInRange returned
answers_in_range IsAnswer one [] [] h answers = tt
answers_in_range IsAnswer one (asked ∷ more) (returned ∷ rest) h answers =
    grind (arith, common_steps, answers_in_range IsAnswer one more rest h.1 answers.1)
answers_in_range IsAnswer one _ _ h answers = absurd answers

module _ (view : MibView) (is_view : IsMibView view) where
  row_in_range : (p : VarBind) → IsRow view p → IsBindingInRange p
  row_in_range p row = grind (arith, common_steps, name_in_range, value_in_range)

  get_in_range : (o : List ℕ) (p : VarBind) → IsInRange (object_id o) → IsGet view o p → IsBindingInRange p
  get_in_range o p h e = grind (arith, common_steps, row_in_range)

  next_in_range : (o : List ℕ) (p : VarBind) → IsInRange (object_id o) → IsNext view o p → IsBindingInRange p
  next_in_range o p h e = grind (arith, common_steps, row_in_range)

  next_after_in_range : (rounds : ℕ) (o : List ℕ) (p : VarBind) → IsInRange (object_id o) → IsNextAfter view rounds o p → IsBindingInRange p
  next_after_in_range zero o p h next = next_in_range o p h next
  next_after_in_range (suc rounds) o p h (q, before, next) = next_in_range q.name p (next_after_in_range rounds o q h before).name next

  rounds_in_range : (repetitions : ℕ) (names : List VarBind) (rounds : List (List VarBind)) → AllByRecursion IsBindingOfType names
      → AreRounds view repetitions names rounds → (before later : List (List VarBind)) → rounds ≡ before ++ later
      → AllByRecursion IsBindingInRange (joined later)
  rounds_in_range repetitions names rounds h are before [] e = tt
  rounds_in_range repetitions names rounds h are before (round ∷ later) e =
      all_both IsBindingInRange round (joined later)
      (answers_in_range (λ asked returned. IsNextAfter view (length before) asked.name returned)
      (λ asked returned. next_after_in_range (length before) asked.name returned) names round h (are.successors before later round e))
      (rounds_in_range repetitions names rounds h are (before ++ round ∷ []) later (e ∙ sym (append_assoc before (round ∷ []) later)))

  bulk_in_range : (q : Message) (all : List VarBind) → AllByRecursion IsBindingOfType q.bindings → IsBulk view q all
      → AllByRecursion IsBindingInRange all
  bulk_in_range q all h is =
      let first = take (or_zero q.a) q.bindings in
      let others = drop (or_zero q.a) q.bindings in
      let parts : AllByRecursion IsBindingOfType (first ++ others) = rw (take-append-drop (or_zero q.a) q.bindings) h in
      subst (AllByRecursion IsBindingInRange) (sym is.parts) (all_both IsBindingInRange is.singles (joined is.rounds)
      (answers_in_range (λ asked returned. IsNext view asked.name returned) (λ asked returned. next_in_range asked.name returned)
      first is.singles (all_prefix IsBindingOfType first others parts) is.are_singles)
      (rounds_in_range (or_zero q.b) others is.rounds (all_back IsBindingOfType first others parts) is.are_rounds [] is.rounds refl))

-- ---- Responses

fits_0 : SFits w32 (pos 0)
fits_0 = record { sfits = omega arith }

index_fits : (bindings : List VarBind) → SFits w32 (failed_index bindings)
index_fits bindings = grind (arith, common_steps, fits_0)

module _ (sizes : MessageSizes) (elements : ElementSizes) (q : Message) (h : IsMessageOfType q) where
  made : (r : Message) (status index : ℤ) (bindings : List VarBind) → r ≡ response q status index bindings → length (canon r) ≤ 65535
      → SFits w32 status → SFits w32 index → AllByRecursion IsBindingInRange bindings → IsMessageInRange r
  made r status index bindings e short fits position all =
      let s : Message = response q status index bindings in
      let size : length (canon s) ≤ 65535 = subst (λ (m : Message). length (canon m) ≤ 65535) e short in
      let total : ℕ = length (canon_bindings bindings) in
      let sum : length (canon s) ≡ length (canon_head s total) + total = sizes.whole s in
      let opening : length (canon_opening s) ≡ length (canon_value (integer_value q.version)) + length (canon_value (octet_string q.community)) =
      sizes.opening s in
      subst IsMessageInRange (sym e) (record {
        version = h.version;
        community = (
          h.community,
          omega (
            arith,
            size,
            sum,
            sizes.head s total,
            sizes.prefix s total,
            opening,
            longer_value elements (octet_string q.community),
            content_size q.community,
          ),
        );
        id = h.id;
        a = fits;
        b = position;
        bindings = all;
        total = omega (arith, size, sum);
      })

  module _ (view : MibView) (is_view : IsMibView view) where
    whole_in_range : (r : Message) → IsWhole view q r → length (canon r) ≤ 65535 → IsMessageInRange r
    whole_in_range r (got returned is answers e) short =
        made r no_error (pos 0) returned e short fits_0 fits_0
        (answers_in_range (λ asked p. IsGet view asked.name p) (λ asked p. get_in_range view is_view asked.name p) q.bindings returned h.bindings answers)
    whole_in_range r (got_next returned is answers e) short =
        made r no_error (pos 0) returned e short fits_0 fits_0
        (answers_in_range (λ asked p. IsNext view asked.name p) (λ asked p. next_in_range view is_view asked.name p) q.bindings returned h.bindings answers)
    whole_in_range r (unwritten is e) short =
        let s : Message = response q not_writable (failed_index q.bindings) q.bindings in
        let size : length (canon s) ≤ 65535 = subst (λ (m : Message). length (canon m) ≤ 65535) e short in
        let total : ℕ = length (canon_bindings q.bindings) in
        let sum : length (canon s) ≡ length (canon_head s total) + total = sizes.whole s in
        made r not_writable (failed_index q.bindings) q.bindings e short (record { sfits = omega arith }) (index_fits q.bindings)
        (bindings_of_request elements q.bindings h.bindings (omega (arith, size, sum)))

    response_in_range : (limit : ℕ) (r : Message) → IsResponse view limit q r → length (canon r) ≤ 65535 → IsMessageInRange r
    response_in_range limit r (whole is fits) short = whole_in_range r is short
    response_in_range limit r (shortened large is no_fit e) short =
        made r too_big (pos 0) [] e short (record { sfits = omega arith }) fits_0 tt
    response_in_range limit r (bulk all bindings is are prefix e) short =
        made r no_error (pos 0) bindings e short fits_0 fits_0 (all_prefix IsBindingInRange bindings prefix.more
        (subst (AllByRecursion IsBindingInRange) prefix.prefix (bulk_in_range view is_view q all h.bindings are)))

-- ---- replies

module _ (sizes : MessageSizes) (elements : ElementSizes) (of_type : EncodingIsOfType) (law : OneShortestEncoding) (agent : Agent)
    (datagram reply : List ℕ) (is_view : IsMibView agent.view) (small : agent.max_size ≤ 65535) (is : IsReply agent datagram reply) where
  in_range : IsMessageInRange is.response
  in_range =
      let fits : length (canon is.response) ≤ agent.max_size = is.fits in
      response_in_range sizes elements is.request (of_type is.request datagram is.is_request.spelt) agent.view is_view agent.max_size
      is.response is.is_response (omega (arith, fits, small))

  pub is_shortest : IsShortestEncoding reply is.response
  is_shortest = subst (λ (octets : List ℕ). IsShortestEncoding octets is.response) (sym is.encoding) (law.written is.response in_range)

  pub only_shortest : (other : List ℕ) → IsShortestEncoding other is.response → other ≡ reply
  only_shortest other shortest = law.one is.response other reply in_range shortest is_shortest
