-- The rules of `specs/StepRules.antt` and the function `take_of` say the same (`means_by`).
use Rattle.std.proofs.{lemmas.Grind.common_steps, lemmas.List.nil_from_length, lemmas.Bool.false≢true, lemmas.Bool.false_from_ne_true}
use Rattle.std.proofs.Common.{◌≡◌, ◌⊎◌, inl, inr, ℕ, ◌+◌, ◌<◌, Bool, true, false, cond, List, [], ◌∷◌, ◌++◌, length, refl, sym, ◌∙◌, ap, subst, arith}
use Rattle.std.proofs.Common.{pos, Option, Some, None, ◌↔◌}
use Rattle.std.proofs.lemmas.Bool.Decides.{Decides-and, Decides-or, Decides-not, Decides-like, Decides-ltb, Decides-eqb, Decides-int_eq}
use Rattle.std.specs.{Prelude.nat_lt, Prelude.◌==◌, Prelude.◌&&◌, Prelude.◌||◌, Prelude.not, Bool.nat_eq, Bool.Decides, List.list_any}
use Rattle.std.specs.{Ordering.nat_cmp, Ordering.is_lt, Ordering.int_eq, declared.cmp.Ordering.TheVariants.Less}
use Rattle.std.specs.Cmp.Lexicographic.{pointwise, slice_cmp, bytes_decides}
use Rattle.snmp_oid.specs.Identifier.{Precedes}
use Rattle.snmp_wire.specs.{declared.kind.Kind.Kind, Message.VarBind, Message.Message, Spelling.Spells}
use Rattle.snmp_wire.specs.declared.kind.Kind.TheVariants as kind
use Rattle.snmp_walk.specs.{declared.mode.Mode.Mode, declared.mode.Phase.Phase, declared.rows.Step.Step, Link.OneOf, Trail.last_name, WalkState.WalkState}
use Rattle.snmp_walk.specs.{Request.asked_for, Instances.IsInside, Instances.IsMissing, Names.is_end, Names.is_missing, Names.comes_after}
use Rattle.snmp_walk.specs.declared.mode.Mode.TheVariants as mode
use Rattle.snmp_walk.specs.declared.mode.Phase.TheVariants as phase
use Rattle.snmp_walk.specs.declared.end.WalkEnd.TheVariants as ending
use Rattle.snmp_walk.specs.private.ReplyRows.{After, nothing, leaving, falling, ReplyRows, before, reply_rows}
use Rattle.snmp_walk.specs.private.ComputedStep.{is_over, is_response, awaits, is_awaited, is_plain, stops, goes_on, closes, reads, reads_as, reads_next}
use Rattle.snmp_walk.specs.private.ComputedStep.{got, reads_first, reads_last, reads_for, reads_reply, take_of}
use Rattle.snmp_walk.specs.StepRules.{IsResponseTo, IsAwaitedReply, EndsBy, AsksOn, GoesOn, GivesNothing, Closes, AreRowsFrom, AreMisplaced, FollowsBy}
use Rattle.snmp_walk.specs.StepRules.{ReadsRows, IsStray, MeansNext, IsGot, MeansGot, MeansRoot, MeansFor, MeansReply, Means, MeansBy}
use Rattle.snmp_walk.proofs.Names.{less_from_after, less_precedes, end_decided, missing_decided, inside_decided, outside, outside_test}
use Rattle.snmp_walk.proofs.ReplyRows.{prefixes_by}

-- ---- what each test decides

waits_decided : (p : Phase) → Decides (not (is_over p)) (p ≡ phase.Over → ⊥)
waits_decided phase.Over = ((λ e. absurd (false≢true e)), (λ h. absurd (h refl)))
waits_decided p = ((λ _ e. let no : ⊥ = cc in no), (λ _. refl))

response_decided : (k : Kind) → Decides (is_response k) (k ≡ kind.Response)
response_decided kind.Response = ((λ _. refl), (λ _. refl))
response_decided k = ((λ e. absurd (false≢true e)), (λ e. let no : ⊥ = cc in absurd no))

plain_decided : (m : Mode) → Decides (is_plain m) (m ≡ mode.Plain)
plain_decided mode.Plain = ((λ _. refl), (λ _. refl))
plain_decided m = ((λ e. absurd (false≢true e)), (λ e. let no : ⊥ = cc in absurd no))

pub response_to_decided : (community : List ℕ) (id : ℕ) (m : Message) → Decides (awaits community id m) (IsResponseTo community id m)
response_to_decided community id m =
    let parts = Decides-and _ (int_eq m.id (pos id))
    (Decides-and _ (is_response m.kind)
    (Decides-and (int_eq m.version (pos 1)) (pointwise nat_eq m.community community) (Decides-int_eq m.version (pos 1))
    (bytes_decides m.community community)) (response_decided m.kind)) (Decides-int_eq m.id (pos id)) in (
      (λ e. let h = parts.0 e in record { version = h.0.0.0; community_is = h.0.0.1; kind = h.0.1; id_is = h.1 }),
      (λ h. parts.1 (((h.version, h.community_is), h.kind), h.id_is)),
    )

-- a message that isn't awaited isn't a Response with this community and request-id
pub not_response : (community : List ℕ) (id : ℕ) (m : Message) → awaits community id m ≡ false → IsResponseTo community id m → ⊥
not_response community id m e is = false≢true (sym e ∙ (response_to_decided community id m).1 is)

awaited_decided : (w : WalkState) (m : Message) → Decides (is_awaited w m) (IsAwaitedReply w m)
awaited_decided w m = grind (arith, common_steps, Decides-and, waits_decided, response_to_decided)

any_decided : (bindings : List VarBind)
    → Decides (list_any (λ p. is_missing p.value) bindings) ((b : VarBind) × OneOf bindings b × IsMissing b)
any_decided [] = ((λ e. absurd (false≢true e)), (λ h. absurd h.1))
any_decided (b ∷ more) =
    Decides-like _ (elim [ inl h ↦ (b, inl refl, h) | inr h ↦ (h.0, inr h.1, h.2) ])
    (λ h. elim h.1 [ inl same ↦ inl (subst IsMissing same h.2) | inr i ↦ inr (h.0, i, h.2) ])
    (Decides-or (is_missing b.value) (list_any (λ p. is_missing p.value) more) (missing_decided b) (any_decided more))

misplaced_decided : (w : WalkState) (bindings : List VarBind)
    → Decides (nat_lt (asked_for w.method) (length bindings) || list_any (λ p. is_missing p.value) bindings) (AreMisplaced w bindings)
misplaced_decided w bindings = grind (arith, common_steps, Decides-or, Decides-ltb, any_decided)

nothing_decided : (w : WalkState) (rows : List VarBind) → Decides (is_plain w.mode && (w.count + length rows == 0)) (GivesNothing w rows)
nothing_decided w rows = grind (arith, common_steps, Decides-and, plain_decided, Decides-eqb, nil_from_length)

-- the test of `got` decides whether b replies to the Get
got_parts : (asked : List ℕ) (b : VarBind) → Decides (pointwise nat_eq b.name asked && not (is_end b.value)) (IsGot asked (b ∷ []) b)
got_parts asked b =
    let parts = Decides-and (pointwise nat_eq b.name asked) (not (is_end b.value)) (bytes_decides b.name asked)
    (Decides-not (is_end b.value) (end_decided b.value)) in
    ((λ e. let h = parts.0 e in record { alone = refl; name = h.0; value = h.1 }), (λ h. parts.1 (h.name, h.value)))

-- `got` returns the one binding that replies to the Get, or none if there is none
got_decides : (asked : List ℕ) (bindings : List VarBind)
    → ((b : VarBind) × (got asked bindings ≡ Some b) × IsGot asked bindings b)
    ⊎ ((got asked bindings ≡ None) × ((b : VarBind) → IsGot asked bindings b → ⊥))
got_decides asked [] = inr (refl, λ c h. let alone = h.alone in cc)
got_decides asked (b ∷ []) = grind (arith, common_steps, got_parts)
got_decides asked (b ∷ d ∷ more) = inr (refl, λ c h. let alone = h.alone in cc)

-- `after` describes the bindings that follow rows, if the last row has the name `last`: there are none, or the first of them ends the rows in this way
abbrev IsCut : (root last : List ℕ) → List VarBind → After → Type 0
IsCut root last [] after = after ≡ nothing
IsCut root last (b ∷ _) after =
    ((IsInside root b → ⊥) × (after ≡ leaving)) ⊎ (IsInside root b × (Precedes last b.name → ⊥) × (after ≡ falling b.name))

-- these lemmas use `precedes`: if a name compares as less than another, then it precedes that one
module _ (precedes : (o p : List ℕ) → slice_cmp nat_cmp o p ≡ Less → Precedes o p) where
  after_decided : (o p : List ℕ) → Decides (comes_after o p) (Precedes o p)
  after_decided o p = ((λ e. precedes o p (less_from_after o p e)), (λ h. ap is_lt (less_precedes o p h)))

  -- if `AreRowsFrom` holds of `rows`, and `rest` follows them as `after` says, then `reply_rows` reads `rows` and `after` in `rows ++ rest`
  read_cut : (root o : List ℕ) (rows rest : List VarBind) (after : After) → AreRowsFrom root o rows → IsCut root (last_name o rows) rest after
      → reply_rows root o (rows ++ rest) ≡ record { rows = rows; after = after }
  read_cut root o [] [] after h c = rw c refl
  read_cut root o [] (b ∷ rest) after h (inl c) = rw (outside_test root b c.0, c.1) refl
  read_cut root o [] (b ∷ rest) after h (inr c) =
      let test : comes_after o b.name ≡ false = false_from_ne_true (comes_after o b.name) (λ e. c.1 ((after_decided o b.name).0 e)) in
      rw ((inside_decided root b).1 c.0, test, c.2) refl
  read_cut root o (b ∷ rows) rest after h c =
      rw ((inside_decided root b).1 h.0, (after_decided o b.name).1 h.1) (ap (before b) (read_cut root b.name rows rest after h.2 c))

  -- the bindings are the rows of `prefix`, and then `rest`, which follows them as `prefix.after` says
  record IsSplit (root o : List ℕ) (bindings : List VarBind) (prefix : ReplyRows) : Type 0 where
    rest : List VarBind
    parts : bindings ≡ prefix.rows ++ rest
    are_rows : AreRowsFrom root o prefix.rows
    cut : IsCut root (last_name o prefix.rows) rest prefix.after

  split : (root o : List ℕ) (bindings : List VarBind) → IsSplit root o bindings (reply_rows root o bindings)
  split root = prefixes_by root (IsSplit root) (λ o. record { rest = []; parts = refl; are_rows = tt; cut = refl })
      (λ o b more prefix i u s. record {
        rest = s.rest;
        parts = ap (λ (x : List VarBind). b ∷ x) s.parts;
        are_rows = ((inside_decided root b).0 i, (after_decided o b.name).0 u, s.are_rows);
        cut = s.cut;
      })
      (λ o b more i f. record {
        rest = b ∷ more;
        parts = refl;
        are_rows = tt;
        cut = inr ((inside_decided root b).0 i, (λ h. false≢true (sym f ∙ (after_decided o b.name).1 h)), refl);
      })
      (λ o b more f. record { rest = b ∷ more; parts = refl; are_rows = tt; cut = inl (outside root b f, refl) })

  -- a step, and the walk's state after it
  module _ (given : Step) (new : WalkState) where
    abbrev Is : Step × WalkState → Type 0
    Is x = (given ≡ x.0) × (new ≡ x.1)

    -- if b decides P, X says in the case of P that the step and the state are x, and Y says otherwise that they are y, then the one of X and Y that applies
    -- says that they are `cond b x y`
    by_test : (b : Bool) (P X Y : Type 0) (x y : Step × WalkState) → Decides b P → (P → X ↔ Is x) → ((P → ⊥) → Y ↔ Is y)
        → ((P × X) ⊎ ((P → ⊥) × Y)) ↔ Is (cond b x y)
    by_test true P X Y x y d f g =
        let p = d.0 refl in (elim [ inl h ↦ (f p).0 h.1 | inr h ↦ absurd (h.0 p) ], λ h. inl (p, (f p).1 h))
    by_test false P X Y x y d f g =
        let no : P → ⊥ = λ p. false≢true (d.1 p) in (elim [ inl h ↦ absurd (no h.0) | inr h ↦ (g no).0 h.1 ], λ h. inr (no, (g no).1 h))

    same : (X : Type 0) → X ↔ X
    same X = (λ h. h, λ h. h)

    goes : (w : WalkState) (next : Phase) (rows : List VarBind) → GoesOn w next rows given new ↔ Is (goes_on w next rows)
    goes w next rows =
        let t = by_test (nat_lt w.id 2147483647) (w.id < 2147483647) (AsksOn w next rows given new) (EndsBy w rows ending.TooManyRequests given new) _ _
        (Decides-ltb w.id 2147483647) (λ _. same _) (λ _. same _) in (
          λ h. t.0 (elim h [ inl k ↦ inl k | inr k ↦ inr ((λ l. omega (arith, l, k.0)), k.1) ]),
          λ h. elim (t.1 h) [ inl k ↦ inl k | inr k ↦ let no = k.0 in inr (omega (arith, no), k.1) ],
        )

    closing : (w : WalkState) (rows : List VarBind) → Closes w rows given new ↔ Is (closes w rows)
    closing w rows = by_test (is_plain w.mode && (w.count + length rows == 0)) (GivesNothing w rows) (GoesOn w phase.Last [] given new)
        (EndsBy w rows (ending.Done (w.count + length rows)) given new) _ _ (nothing_decided w rows) (λ _. goes w phase.Last []) (λ _. same _)

    -- if a step and a state follow from `rows` and the bindings `rest` after them (`FollowsBy`), then for some `after`, `reads_as` computes this step and this
    -- state
    follows_in : (w : WalkState) (rows rest : List VarBind) → FollowsBy w rows rest given new
        → (after : After) × IsCut w.root (last_name w.asked rows) rest after × Is (reads_as after w rows)
    follows_in w rows [] h = (nothing, refl, (goes w phase.Rows rows).0 h)
    follows_in w rows (b ∷ rest) (inl h) = (leaving, inl (h.0, refl), (closing w rows).0 h.1)
    follows_in w rows (b ∷ rest) (inr h) = (falling b.name, inr (h.0, h.1, refl), h.2)

    follows_out : (w : WalkState) (rows rest : List VarBind) (after : After) → IsCut w.root (last_name w.asked rows) rest after
        → Is (reads_as after w rows) → FollowsBy w rows rest given new
    follows_out w rows [] after c h = (goes w phase.Rows rows).1 (rw c at h)
    follows_out w rows (b ∷ rest) after (inl c) h = inl (c.0, (closing w rows).1 (rw c.1 at h))
    follows_out w rows (b ∷ rest) after (inr c) h = inr (c.0, c.1, rw c.2 at h)

    reading : (w : WalkState) (bindings : List VarBind) → ReadsRows w bindings given new ↔ Is (reads w bindings)
    reading w bindings = (
      λ r.
          let f = follows_in w r.rows r.rest r.follows in
          subst (λ (prefix : ReplyRows). Is (reads_as prefix.after w prefix.rows))
          (sym (ap (reply_rows w.root w.asked) r.parts ∙ read_cut w.root w.asked r.rows r.rest f.0 r.are_rows f.1)) f.2,
      λ h. let s = split w.root w.asked bindings in record {
        rows = (reply_rows w.root w.asked bindings).rows;
        rest = s.rest;
        parts = s.parts;
        are_rows = s.are_rows;
        follows = follows_out w _ s.rest _ s.cut h;
      },
    )

    next : (w : WalkState) (bindings : List VarBind) → MeansNext w bindings given new ↔ Is (reads_next w bindings)
    next w [] = same _
    next w (b ∷ more) = by_test _ (AreMisplaced w (b ∷ more)) (EndsBy w [] ending.BadReply given new) (ReadsRows w (b ∷ more) given new) _ _
        (misplaced_decided w (b ∷ more)) (λ _. same _) (λ _. reading w (b ∷ more))

    -- if f computes what each single binding means, and f of `None` ends the walk with `BadReply`, then f of what `got` finds in the bindings of a reply to a
    -- Get computes what these bindings mean
    got_so : (w : WalkState) (bindings : List VarBind) (Binding : VarBind → Type 0) (f : Option VarBind → Step × WalkState)
        → f None ≡ stops w [] ending.BadReply
        → ((b : VarBind) → Binding b ↔ Is (f (Some b))) → MeansGot w bindings Binding given new ↔ Is (f (got w.asked bindings))
    got_so w bindings Binding f bad each = elim (got_decides w.asked bindings) [
      | inl g ↦ (
        elim [
          | inl h ↦
              let a = h.1.alone in
              let c = g.2.alone in
              let one : g.0 ≡ h.0 = cc in
              subst (λ (o : Option VarBind). Is (f o)) (sym (g.1 ∙ ap Some one)) ((each h.0).0 h.2)
          | inr h ↦ absurd (h.0 g.0 g.2)
        ],
        λ h. inl (g.0, g.2, (each g.0).1 (subst (λ (o : Option VarBind). Is (f o)) g.1 h)),
      )
      | inr none ↦ (
        elim [ inl h ↦ absurd (none.1 h.0 h.1) | inr h ↦ subst Is (sym (ap f none.0 ∙ bad)) h.1 ],
        λ h. inr (none.1, subst Is (ap f none.0 ∙ bad) h),
      )
    ]

    root_by : (w : WalkState) (b : VarBind) (t : Bool) → Decides t (IsMissing b) → MeansRoot w given new b ↔ Is (goes_on w phase.Rows (cond t [] (b ∷ [])))
    root_by w b true d = by_test true _ _ _ (goes_on w phase.Rows []) (goes_on w phase.Rows (b ∷ [])) d (λ _. goes w phase.Rows [])
        (λ _. goes w phase.Rows (b ∷ []))
    root_by w b false d = by_test false _ _ _ (goes_on w phase.Rows []) (goes_on w phase.Rows (b ∷ [])) d (λ _. goes w phase.Rows [])
        (λ _. goes w phase.Rows (b ∷ []))

    for_phase : (p : Phase) (w : WalkState) (bindings : List VarBind) → (p ≡ phase.Over → ⊥) → MeansFor p w bindings given new ↔ Is (reads_for p w bindings)
    for_phase phase.First w bindings waits =
        got_so w bindings (MeansRoot w given new) (reads_first w) refl (λ b. root_by w b (is_missing b.value) (missing_decided b))
    for_phase phase.Rows w bindings waits = next w bindings
    for_phase phase.Last w bindings waits =
        got_so w bindings (λ b. EndsBy w (b ∷ []) (ending.Done (w.count + 1)) given new) (reads_last w) refl (λ b. same _)
    for_phase phase.Over w bindings waits = absurd (waits refl)

    reply : (w : WalkState) (m : Message) → (w.phase ≡ phase.Over → ⊥) → MeansReply w m given new ↔ Is (reads_reply w m)
    reply w m waits = by_test (int_eq m.a (pos 0)) (m.a ≡ pos 0) (MeansFor w.phase w m.bindings given new) (EndsBy w [] (ending.Fault m.a m.b) given new) _ _
        (Decides-int_eq m.a (pos 0)) (λ _. for_phase w.phase w m.bindings waits) (λ _. same _)

    pub means : (w : WalkState) (m : Message) → Means w m given new ↔ Is (take_of w m)
    means w m = by_test (is_awaited w m) (IsAwaitedReply w m) (MeansReply w m given new) (IsStray w given new) _ _ (awaited_decided w m)
        (λ is. reply w m is.waits) (λ _. same _)

  pub only : (given : Step) (new : WalkState) (w : WalkState) (m : Message) → Means w m given new → (given ≡ (take_of w m).0) × (new ≡ (take_of w m).1)
  only given new w m h = (means given new w m).0 h

  pub found : (w : WalkState) (m : Message) → Means w m (take_of w m).0 (take_of w m).1
  found w m = (means (take_of w m).0 (take_of w m).1 w m).1 (refl, refl)

  -- what a datagram means is what `take_of` computes of the message that it encodes
  pub means_by : (w : WalkState) (datagram : List ℕ) (m : Message) → Spells m datagram → (given : Step) (new : WalkState) → given ≡ (take_of w m).0
      → new ≡ (take_of w m).1 → MeansBy w datagram given new
  means_by w datagram m spelt given new e f = inl (m, spelt, (means given new w m).1 (e, f))
