-- The invariant `Keeps` still holds after each step of the search for the indices whose chains end. In a ring, or before one, no chain has an end.
use Rattle.std.proofs.{lemmas.Grind.common_steps, lemmas.Bool.cases_lt, lemmas.Bool.cases_eq}
use Rattle.std.proofs.Common.{◌≡◌, ◌≢◌, ℕ, zero, suc, ◌+◌, ◌<◌, ◌⊎◌, inl, inr, Bool, true, false, cond, List, [], ◌∷◌, ◌++◌, length, set, take}
use Rattle.std.proofs.Common.{Option, Some, None, Contains, refl, sym, ap, ◌∙◌, subst, arith}
use Rattle.std.proofs.lemmas.List.{get_or-set_same, get_or-set_other, length-set, get_or_append_left, get_or_push, length_push, take_all}
use Rattle.std.proofs.lemmas.List.{take-append-le, get_or_past}
use Rattle.std.proofs.lemmas.List.Elements.{All-push, All-nil, All-contains, Contains-push, Contains-push_cases, Contains-append_left}
use Rattle.smi_names.specs.{chains.Chain.HasEnd, chains.Chain.ends, chains.Chain.refers_on, declared.chains.order.Mark.Mark}
use Rattle.smi_names.specs.chains.Order.{next_at, ComeAfterNext}
use Rattle.smi_names.specs.private.Search.{Keeps, Follows, IsSettled, ReachesSettled, mark_at}
use Rattle.smi_names.specs.declared.chains.order.Mark.TheVariants as M

abbrev pub is_new : Mark → Bool
is_new M.New = true
is_new M.Met = false
is_new M.Settled = false

abbrev pub news : List Mark → ℕ
news [] = 0
news (m ∷ ms) = cond (is_new m) 1 0 + news ms

pub news-set : (ms : List Mark) (p : ℕ) → p < length ms → mark_at ms p ≡ M.New → news (set ms p M.Met) < news ms
news-set [] p h e = absurd (omega arith)
news-set (m ∷ ms) zero h e = let e' : m ≡ M.New = e in rw e' (omega arith)
news-set (m ∷ ms) (suc p) h e = let r = news-set ms p (omega arith) e in omega arith

-- if index `p` isn't marked as new, then it still isn't after index `at` gets the mark `m`, which isn't new
pub marked : (marks : List Mark) (at p : ℕ) (m : Mark) → is_new m ≡ false → at < length marks → mark_at marks p ≢ M.New
    → mark_at (set marks at m) p ≢ M.New
marked marks at p m old inside other = grind (arith, common_steps, cases_eq, get_or-set_same, get_or-set_other)

module _ (next : List (Option ℕ)) where
  -- if `p` refers to nothing, or to an index whose chain has an end, then the chain of `p` has an end
  has_end_from : (p : ℕ) (to : Option ℕ) → next_at next p ≡ to → ((q : ℕ) → to ≡ Some q → HasEnd (next_at next) q) → HasEnd (next_at next) p
  has_end_from p None e f = ends e
  has_end_from p (Some q) e f = refers_on e (f q refl)

  below : {p q : ℕ} → HasEnd (next_at next) p → next_at next p ≡ Some q → HasEnd (next_at next) q
  below h g = grind arith

  pub Follows-push : (path : List ℕ) (from : Option ℕ) (p : ℕ) → Follows next path from (Some p) → Follows next (path ++ p ∷ []) from (next_at next p)
  Follows-push [] from p e = (e, refl)
  Follows-push (x ∷ xs) from p l = (l.0, Follows-push xs (next_at next x) p l.1)

  pub Follows-pop : (path : List ℕ) (from to : Option ℕ) (p : ℕ) → Follows next (path ++ p ∷ []) from to → Follows next path from (Some p)
      × (next_at next p ≡ to)
  Follows-pop [] from to p l = l
  Follows-pop (x ∷ xs) from to p l = let r = Follows-pop xs (next_at next x) to p l.1 in ((l.0, r.0), r.1)

  -- if `path` follows the chain from `from` to `at`, and the chain of `from` has an end, then the chain of `at` has an end
  led : (path : List ℕ) (from : Option ℕ) (at : ℕ) → Follows next path from (Some at)
      → ((p : ℕ) → from ≡ Some p → HasEnd (next_at next) p) → HasEnd (next_at next) at
  led [] from at l f = f at l
  led (x ∷ xs) from at l f = led xs (next_at next x) at l.1 (λ q e. below (f x l.0) e)

  -- if `path` follows the chain from `from` to `at`, and the chain of an index `p` in `path` has an end, then the chain of `at` has an end
  led_from : (path : List ℕ) (from : Option ℕ) (at p : ℕ) → Follows next path from (Some at) → Contains path p → HasEnd (next_at next) p → HasEnd
      (next_at next) at
  led_from [] from at p l m h = absurd (omega (arith, m.1))
  led_from (x ∷ xs) from at p l (zero, k, e) h = grind (arith, common_steps, led, below)
  led_from (x ∷ xs) from at p l (suc i, k, e) h = led_from xs (next_at next x) at p l.1 (i, omega arith, e) h

  Contains-later : (x : ℕ) (xs : List ℕ) (p : ℕ) → Contains xs p → Contains (x ∷ xs) p
  Contains-later x xs p (i, k, e) = (suc i, omega arith, e)

  -- if `path` follows the chain from `from` to `at`, then each index `p` in `path` refers to an index in `path` or to `at`
  onward : (path : List ℕ) (from : Option ℕ) (at p : ℕ) → Follows next path from (Some at) → Contains path p
      → (q : ℕ) × (next_at next p ≡ Some q) × (Contains path q ⊎ (q ≡ at))
  onward [] from at p l m = absurd (omega (arith, m.1))
  onward (x ∷ []) from at p l (zero, k, e) = let same : x ≡ p = e in (at, ap (next_at next) (sym same) ∙ l.1, inr refl)
  onward (x ∷ (y ∷ ys)) from at p l (zero, k, e) = let same : x ≡ p = e in (y, ap (next_at next) (sym same) ∙ l.1.0, inl (1, omega arith, refl))
  onward (x ∷ xs) from at p l (suc i, k, e) =
      let r = onward xs (next_at next x) at p l.1 (i, omega arith, e) in
      (r.0, r.1, elim r.2 [ inl m ↦ inl (Contains-later x xs r.0 m) | inr s ↦ inr s ])

  -- if each index in the set `S` refers to an index in `S`, then the chains of these indices have no end
  no_end : (S : ℕ → Type 0) → ((p : ℕ) → S p → (q : ℕ) × (next_at next p ≡ Some q) × S q) → {p : ℕ} → HasEnd (next_at next) p → S p → ⊥
  no_end S closed {p} (ends e) s = let r = closed p s in let f = r.1 in cc
  no_end S closed {p} (refers_on {a} {b} e h) s = grind (arith, common_steps, no_end S closed h)

  module _ (marks : List Mark) (order path : List ℕ) (kept : Keeps next marks order path) where
    pub Keeps-met : (at : ℕ) → at < length next → mark_at marks at ≡ M.New → Keeps next (set marks at M.Met) order (path ++ at ∷ [])
    Keeps-met at inside new = record {
      long = length-set marks at M.Met ∙ kept.long;
      within = kept.within;
      along = All-push (λ p. p < length next) path at kept.along inside;
      only_ended = kept.only_ended;
      after_next = kept.after_next;
      settled = λ p e. grind (arith, common_steps, cases_eq, get_or-set_same, get_or-set_other, kept.settled p, kept.long);
      met = λ p e h. elim (cases_eq p at) [
        | inl same ↦ rw same (Contains-push path at)
        | inr other ↦ Contains-append_left path (at ∷ []) p (kept.met p (sym (get_or-set_other marks at p M.Met M.New other) ∙ e) h)
      ];
    }

    pub Keeps-left : (from : Option ℕ) (at : ℕ) → Follows next path from (Some at) → mark_at marks at ≡ M.Met → Keeps next marks order []
    Keeps-left from at l m = record {
      long = kept.long;
      within = kept.within;
      along = All-nil (λ p. p < length next);
      only_ended = kept.only_ended;
      after_next = kept.after_next;
      settled = kept.settled;
      met = λ p e h.
          let there = led_from path from at p l (kept.met p e h) h in
          let on = kept.met at m there in
          absurd (no_end (λ q. Contains path q) (λ q s. let r = onward path from at q l s in
          (r.0, r.1, elim r.2 [ inl k ↦ k | inr same ↦ rw same on ])) there on);
    }

  ComeAfterNext-push : (order : List ℕ) (p : ℕ) → ComeAfterNext next order → ((q : ℕ) → next_at next p ≡ Some q → q < length next → Contains order q)
      → ComeAfterNext next (order ++ p ∷ [])
  ComeAfterNext-push order p before last = λ i q l e inside. elim (cases_lt i (length order)) [
    | inl in_prefix ↦
        let old = before i q in_prefix (ap (next_at next) (sym (get_or_append_left order (p ∷ []) 0 i in_prefix)) ∙ e) inside in
        rw (take-append-le i order (p ∷ []) (omega arith)) old
    | inr at_end ↦
        let i_is : length order ≡ i = omega (arith, length_push order p) in
        let same = get_or_push order p 0 i i_is in
        let found = last q (ap (next_at next) (sym same) ∙ e) inside in
        let prefix : take i (order ++ p ∷ []) ≡ order = take-append-le i order (p ∷ []) (omega arith) ∙ take_all i order (omega arith) in
        rw prefix found
  ]

  pub Keeps-settled : (marks : List Mark) (order path : List ℕ) (p : ℕ) (to : Option ℕ) → Keeps next marks order (path ++ p ∷ [])
      → next_at next p ≡ to → IsSettled next order to → Keeps next (set marks p M.Settled) (order ++ p ∷ []) path
  Keeps-settled marks order path p to kept refers_to done =
      let inside : p < length next = All-contains (λ q. q < length next) (path ++ p ∷ []) p kept.along (Contains-push path p) in
      let has_end = has_end_from p to refers_to (λ q e. (done q e).0) in record {
        long = length-set marks p M.Settled ∙ kept.long;
        within = All-push (λ q. q < length next) order p kept.within inside;
        along = λ k d l. subst (λ q. q < length next) (get_or_append_left path (p ∷ []) d k l) (kept.along k d (omega (arith, length_push path p)));
        only_ended = All-push (HasEnd (next_at next)) order p kept.only_ended has_end;
        after_next = ComeAfterNext-push order p kept.after_next (λ q e. (done q (sym refers_to ∙ e)).1);
        settled = λ q e. elim (cases_eq q p) [
          | inl same ↦ rw same (Contains-push order p)
          | inr other ↦ Contains-append_left order (p ∷ []) q (kept.settled q (sym (get_or-set_other marks p q M.Settled M.New other) ∙ e))
        ];
        met = λ q e h. elim (cases_eq q p) [
          | inl same ↦ let here : mark_at (set marks p M.Settled) q ≡ M.Settled = rw same (get_or-set_same marks p M.Settled M.New (omega
              (arith, kept.long))) in cc
          | inr other ↦ elim (Contains-push_cases path p q (kept.met q (sym (get_or-set_other marks p q M.Settled M.New other) ∙ e) h)) [
            | inl m ↦ m
            | inr same ↦ absurd (other (sym same))
          ]
        ];
      }

  -- if `p` refers to nothing and the path is empty, then the invariant still holds after `p` is appended to the order and marked as settled
  pub Keeps-alone : (marks : List Mark) (order : List ℕ) (p : ℕ) → Keeps next marks order [] → p < length next → next_at next p ≡ None
      → Keeps next (set marks p M.Settled) (order ++ p ∷ []) []
  Keeps-alone marks order p kept inside last =
      let met : Keeps next marks order ([] ++ p ∷ []) = record {
        long = kept.long;
        within = kept.within;
        along = All-push (λ q. q < length next) [] p kept.along inside;
        only_ended = kept.only_ended;
        after_next = kept.after_next;
        settled = kept.settled;
        met = λ q e h. Contains-append_left [] (p ∷ []) q (kept.met q e h);
      } in
      Keeps-settled marks order [] p None met last (λ q e. absurd (cc))

  pub Follows-settled : (order path : List ℕ) (p : ℕ) → ReachesSettled next order (path ++ p ∷ []) → p < length next
      → ReachesSettled next (order ++ p ∷ []) path
  Follows-settled order path p l inside =
      let back = Follows-pop path l.from l.to p l.refers_to in record {
        from = l.from;
        to = Some p;
        refers_to = back.0;
        settled = λ q e. let same : q ≡ p = cc in rw same (has_end_from p l.to back.1 (λ r f. (l.settled r f).0), λ _. Contains-push order p);
      }

  -- if the invariant holds, and `to` is `None`, an index past the end of `next`, or one marked neither as new nor as met, then `IsSettled` holds of it
  pub IsSettled-stopped : (marks : List Mark) (order path : List ℕ) (to : Option ℕ) → Keeps next marks order path
      → ((q : ℕ) → to ≡ Some q → q < length next → mark_at marks q ≢ M.New) → ((q : ℕ) → to ≡ Some q → mark_at marks q ≢ M.Met)
      → IsSettled next order to
  IsSettled-stopped marks order path to kept stopped other = λ q e. elim (cases_lt q (length next)) [
    | inl inside ↦ let there = kept.settled q (left (mark_at marks q) (stopped q e inside) (other q e)) in
        (All-contains (HasEnd (next_at next)) order q kept.only_ended there, λ _. there)
    | inr beyond ↦ (ends (get_or_past next q None beyond), λ h. absurd (omega arith))
  ]
    where
      left : (m : Mark) → m ≢ M.New → m ≢ M.Met → m ≡ M.Settled
      left m f g = grind (arith, common_steps)
