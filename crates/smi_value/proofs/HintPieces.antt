-- Octets are cut into pieces and groups in two loops: their invariants (`PiecesAhead`, `GroupsAhead`), and what each step appends.
use Rattle.std.proofs.{lemmas.Grind.common_steps, lemmas.Bool.and_parts, lemmas.Bool.not-true, lemmas.Bool.eqb-true, lemmas.Bool.cases_order}
use Rattle.std.proofs.Common.{◌≡◌, ◌≢◌, ℕ, zero, suc, ◌+◌, ◌-◌, ◌<◌, ◌≤◌, true, false, List, [], ◌∷◌, ◌++◌, length, take, drop, replicate, refl, sym}
use Rattle.std.proofs.Common.{◌∙◌, ap, subst, arith, inl, inr, ◌⊎◌, append-nil, Option, None, option_to_list, if◌then◌else◌, length-drop, map}
use Rattle.std.proofs.Common.{append_assoc, min}
use Rattle.std.specs.Bool.{◌==◌}
use Rattle.std.proofs.lemmas.List.{length-replicate, length-map, length-take, length-take-le, drop_all}
use Rattle.snmp_io.specs.Draft.{Written, Grows, Adds}
use Rattle.smi_value.specs.{declared.hint.spec.Spec.Spec, declared.hint.spec.OctetFormat.OctetFormat}
use Rattle.smi_value.specs.hint.Spec.{IsFirstSpec, AreSpecs, IsOctetHint, LastTakesOctets, takes_octets, most_octets}
use Rattle.smi_value.specs.hint.Pieces.{ArePieces, IsCut, IsGroup, AreGroups, ShowsOctets, piece_text, pieces_text, mark_before, last_mark, body_of}
use Rattle.smi_value.specs.hint.Pieces.{specs_after, is_single, single_text, singles_text}
use Rattle.smi_value.proofs.{Drafts.grows_none, Drafts.grows_both, Drafts.adds_from, HintSpec.after_first, HintSpec.first_some, HintSpec.Begins}

-- `spec`, applied up to `times` times, cuts `pieces` from the start of `octets` and leaves `rest`; `new` is `old` with the text of the pieces appended, unless
-- memory ran out
pub record AppendsPieces (spec : Spec) (times : ℕ) (octets : List ℕ) (old new : Written) (rest : List ℕ) : Type 0 where
  pub pieces : List (List ℕ)
  pub cut : IsCut spec.length times pieces octets rest
  pub grows : Grows old (pieces_text spec pieces rest) new

-- the loop that appends pieces has written `now`, and has the octets `left`: if up to `ahead` more applications of `spec`, to `left`, then write `new`, then
-- `new` is what up to `times` applications of `spec`, to `octets`, write after `old`
pub record PiecesAhead (spec : Spec) (times : ℕ) (octets : List ℕ) (old : Written) (ahead : ℕ) (left : List ℕ) (now : Written) : Type 0 where
  pub whole : (new : Written) (rest : List ℕ) → AppendsPieces spec ahead left now new rest → AppendsPieces spec times octets old new rest

pub no_pieces : (spec : Spec) (times : ℕ) (octets : List ℕ) (now : Written) → (0 ≡ times) ⊎ (octets ≡ []) → AppendsPieces spec times octets now now octets
no_pieces spec times octets now enough = grind (arith, common_steps, grows_none)

one_mark : (spec : Spec) (ahead : ℕ) (rest : List ℕ) → (0 ≡ ahead) ⊎ (rest ≡ [])
    → mark_before (if ahead == 0 then last_mark spec else spec.separator) rest ≡ mark_before (last_mark spec) rest
one_mark spec ahead rest (inl e) = let none : ahead ≡ 0 = sym e in rw none refl
one_mark spec ahead rest (inr e) = rw e refl

more_mark : (spec : Spec) (ahead : ℕ) (rest : List ℕ) → 0 < ahead → rest ≢ []
    → mark_before (if ahead == 0 then last_mark spec else spec.separator) rest ≡ option_to_list spec.separator
more_mark spec zero rest some left = absurd (omega arith)
more_mark spec (suc ahead) [] some left = absurd (left refl)
more_mark spec (suc ahead) (octet ∷ more) some left = grind (arith, common_steps)

pub one_piece : (spec : Spec) (ahead : ℕ) (left : List ℕ) (old now new : Written) (rest : List ℕ) → left ≢ []
    → Grows old (piece_text spec.format (take spec.length left) ++ mark_before (if ahead == 0 then last_mark spec else spec.separator)
    (drop spec.length left)) now
    → AppendsPieces spec ahead (drop spec.length left) now new rest → AppendsPieces spec (ahead + 1) left old new rest
one_piece spec ahead left old now new rest some first h = go h.pieces h.cut h.grows
  where
    go : (pieces : List (List ℕ)) → IsCut spec.length ahead pieces (drop spec.length left) rest → Grows now (pieces_text spec pieces rest) new
        → AppendsPieces spec (ahead + 1) left old new rest
    go [] cut grows =
        let enough : (0 ≡ ahead) ⊎ (drop spec.length left ≡ []) =
        elim cut.enough [ inl e ↦ inl e | inr e ↦ inr (sym cut.are_pieces ∙ e) ] in
        let marks = one_mark spec ahead (drop spec.length left) enough in
        let text : piece_text spec.format (take spec.length left) ++ mark_before (if ahead == 0 then last_mark spec else spec.separator) (drop spec.length left)
        ≡ piece_text spec.format (take spec.length left) ++ mark_before (last_mark spec) rest =
        rw (marks, cut.are_pieces) refl in
        let both = grows_both old now new _ [] first grows in
        record {
          pieces = take spec.length left ∷ [];
          cut = record {
            are_pieces = (some, refl, cut.are_pieces);
            at_most = omega arith;
            enough = elim cut.enough [ inl e ↦ inl (omega (arith, e)) | inr e ↦ inr e ];
          };
          grows = rw (← text) (rw append-nil at both);
        }
    go (piece ∷ pieces) cut grows =
        let ahead_some : 0 < ahead = omega (arith, cut.at_most) in
        let marks = more_mark spec ahead (drop spec.length left) ahead_some cut.are_pieces.0 in
        record {
          pieces = take spec.length left ∷ piece ∷ pieces;
          cut = record {
            are_pieces = (some, refl, cut.are_pieces);
            at_most = omega (arith, cut.at_most);
            enough = elim cut.enough [ inl e ↦ inl (omega (arith, e)) | inr e ↦ inr e ];
          };
          grows = grows_both old now new _ _ (rw marks at first) grows;
        }

-- if a spec has no separator, then one or more empty pieces have the same text as one
empty_pieces : (spec : Spec) (n : ℕ) (octets : List ℕ) → spec.separator ≡ None
    → pieces_text spec (replicate (suc n) []) octets ≡ mark_before (last_mark spec) octets
empty_pieces spec zero octets e = refl
empty_pieces spec (suc n) octets e = grind (arith, common_steps, empty_pieces spec n octets e, option_to_list)

are_empty_pieces : (n : ℕ) (octets : List ℕ) → octets ≢ [] → ArePieces 0 (replicate n []) octets octets
are_empty_pieces zero octets some = refl
are_empty_pieces (suc n) octets some = (some, refl, are_empty_pieces n octets some)

pub one_for_all : (spec : Spec) (times : ℕ) (octets : List ℕ) (old new : Written) (rest : List ℕ) → spec.length ≡ 0 → spec.separator ≡ None → 1 < times
    → AppendsPieces spec 1 octets old new rest → AppendsPieces spec times octets old new rest
one_for_all spec times octets old new rest short bare more h = go h.pieces h.cut h.grows
  where
    go : (pieces : List (List ℕ)) → IsCut spec.length 1 pieces octets rest → Grows old (pieces_text spec pieces rest) new
        → AppendsPieces spec times octets old new rest
    go [] cut grows = record {
      pieces = [];
      cut = record { are_pieces = cut.are_pieces; at_most = omega arith; enough = elim cut.enough [ inl e ↦ absurd (omega (arith, e)) | inr e ↦ inr e ] };
      grows = grows;
    }
    go (piece ∷ []) cut grows =
        let same : rest ≡ octets = cut.are_pieces.2 ∙ ap (λ (n : ℕ). drop n octets) short in
        let none : piece ≡ [] = cut.are_pieces.1 ∙ ap (λ (n : ℕ). take n octets) short in
        let k : ℕ = times - 1 in
        let e : times ≡ suc k = omega arith in
        let text : pieces_text spec (piece ∷ []) rest ≡ pieces_text spec (replicate (suc k) []) rest =
        rw none (sym (empty_pieces spec k rest bare)) in
        let along_width = let P : ℕ → Type 0 = λ n. ArePieces n (replicate (suc k) []) octets octets in λ (h : P 0). subst P (sym short) h in
        let along_rest = let P : List ℕ → Type 0 = λ s. ArePieces spec.length (replicate (suc k) []) octets s in λ (h : P octets). subst P (sym same) h in
        let are : ArePieces 0 (replicate (suc k) []) octets octets = are_empty_pieces (suc k) octets cut.are_pieces.0 in
        record {
          pieces = replicate (suc k) [];
          cut = record {
            are_pieces = along_rest (along_width are);
            at_most = omega (arith, length-replicate {A = List ℕ} (suc k) []);
            enough = inl (omega
                (arith, length-replicate {A = List ℕ} (suc k) []));
          };
          grows = rw text at grows;
        }
    go (piece ∷ next ∷ pieces) cut grows = absurd (omega (arith, cut.at_most))

-- `specs` cut `octets` into `groups`, and `new` is `old` with the text of these groups appended, unless memory ran out
pub record AppendsGroups (specs : List Spec) (octets : List ℕ) (old new : Written) : Type 0 where
  pub groups : List (List (List ℕ))
  pub text : List ℕ
  pub are_groups : AreGroups specs groups octets text
  pub grows : Grows old text new

-- `hint` shows `octets` as `text`, and `new` is `old` with this text appended, unless memory ran out
pub record AppendsShown (hint octets : List ℕ) (old new : Written) : Type 0 where
  pub text : List ℕ
  pub shows : ShowsOctets hint octets text
  pub grows : Grows old text new

-- the loop that appends groups is at `now`, and `ahead` is the text of the specs after `spec`: if the groups that `spec` and these specs cut `left` into are
-- appended to `now`, then what `hint` shows for `octets` is appended to `old`
pub record GroupsAhead (hint octets : List ℕ) (old : Written) (spec : Spec) (ahead left : List ℕ) (now : Written) : Type 0 where
  pub specs : List Spec
  pub are_specs : AreSpecs ahead specs
  pub ends : LastTakesOctets (spec ∷ specs)
  pub fits : spec.length ≤ most_octets spec.format
  pub whole : (new : Written) → AppendsGroups (spec ∷ specs) left now new → AppendsShown hint octets old new

pieces_no_longer : (width : ℕ) (pieces : List (List ℕ)) (octets rest : List ℕ) → ArePieces width pieces octets rest → length rest ≤ length octets
pieces_no_longer width [] octets rest h = omega (arith, ap length h)
pieces_no_longer width (piece ∷ pieces) octets rest h = grind (arith, common_steps, pieces_no_longer width pieces (drop width octets) rest h.2, length-drop)

body_no_longer : (spec : Spec) (octets : List ℕ) → length (body_of spec octets) ≤ length octets
body_no_longer spec octets = grind (arith, common_steps, length-drop)

pub group_no_longer : (spec : Spec) (pieces : List (List ℕ)) (octets rest : List ℕ) → IsGroup spec pieces octets rest → length rest ≤ length octets
group_no_longer spec pieces octets rest h = grind (arith, common_steps, pieces_no_longer, body_no_longer)

counted_group : (spec : Spec) (octets : List ℕ) → spec.is_counted ≡ true → octets ≢ [] → length (body_of spec octets) < length octets
counted_group spec [] e some = absurd (some refl)
counted_group spec (octet ∷ more) e some = rw e (omega arith)

single_group : (spec : Spec) (pieces : List (List ℕ)) (octets rest : List ℕ) → octets ≢ [] → 0 < spec.length → IsCut spec.length 1 pieces octets rest
    → length rest < length octets
single_group spec [] octets rest some wide cut = grind (arith, common_steps)
single_group spec (piece ∷ pieces) [] rest some wide cut = absurd (some refl)
single_group spec (piece ∷ pieces) (octet ∷ more) rest some wide cut = grind (arith, common_steps, pieces_no_longer, length-drop)

pub group_shorter : (spec : Spec) (pieces : List (List ℕ)) (octets rest : List ℕ) → takes_octets spec ≡ true → IsGroup spec pieces octets rest
    → length rest < length octets
group_shorter spec pieces octets rest takes h = grind (arith, common_steps, pieces_no_longer, counted_group, single_group)

pub hint_begins : (hint : List ℕ) (specs : List Spec) → IsOctetHint hint specs → Begins hint specs
hint_begins hint [] h = absurd h.ends
hint_begins hint (spec ∷ more) h = record { spec = spec; rest = h.read.0; more = more; is_first = h.read.1; are_more = h.read.2; whole = refl }

pub groups_begin : (hint octets : List ℕ) (old : Written) (spec : Spec) (ahead : List ℕ) (all : List Spec) → IsOctetHint hint all → IsFirstSpec hint spec ahead
    → GroupsAhead hint octets old spec ahead octets old
groups_begin hint octets old spec ahead all is_hint is_first =
    let (more, are, whole) = after_first hint all spec ahead is_first is_hint.read in
    let known : IsOctetHint hint (spec ∷ more) = rw whole at is_hint in
    record {
      specs = more;
      are_specs = are;
      ends = known.ends;
      fits = is_first.fits;
      whole = λ new h. record {
        text = h.text;
        shows = record { specs = spec ∷ more; groups = h.groups; is_hint = known; are_groups = h.are_groups };
        grows = h.grows;
      };
    }

-- if one group is appended, and then the groups after it, then all of them are appended
group_before : (spec : Spec) (specs : List Spec) (pieces : List (List ℕ)) (left rest : List ℕ) (old now new : Written) → IsGroup spec pieces left rest
    → Adds old (pieces_text spec pieces rest) now
    → AppendsGroups (specs_after spec specs) rest now new → AppendsGroups (spec ∷ specs) left old new
group_before spec specs pieces left rest old now new group adds h = record {
  groups = pieces ∷ h.groups;
  text = pieces_text spec pieces rest ++ h.text;
  are_groups = (rest, h.text, group, h.are_groups, refl);
  grows = grows_both old now new _ _ adds.grows h.grows;
}

pub group_then_next : (hint octets : List ℕ) (old : Written) (spec next : Spec) (ahead after left rest : List ℕ) (now new : Written) (pieces : List (List ℕ))
    → IsFirstSpec ahead next after
    → IsGroup spec pieces left rest → Adds now (pieces_text spec pieces rest) new → GroupsAhead hint octets old spec ahead left now
    → GroupsAhead hint octets old next after rest new
group_then_next hint octets old spec next ahead after left rest now new pieces is_first group adds h =
    let (more, are, whole) = after_first ahead h.specs next after is_first h.are_specs in
    let ends : LastTakesOctets (spec ∷ next ∷ more) = rw whole at h.ends in
    record {
      specs = more;
      are_specs = are;
      ends = ends;
      fits = is_first.fits;
      whole = λ last k.
          let P : List Spec → Type 0 = λ s. AppendsGroups (spec ∷ s) left now last in
          h.whole last (subst P (sym whole) (group_before spec (next ∷ more) pieces left rest now new last group adds k));
    }

no_specs : (ahead : List ℕ) (specs : List Spec) → ahead ≡ [] → AreSpecs ahead specs → specs ≡ []
no_specs ahead [] none are = refl
no_specs ahead (spec ∷ more) none are = absurd (first_some ahead spec are.0 are.1 none)

pub last_takes : (hint octets : List ℕ) (old : Written) (spec : Spec) (ahead left : List ℕ) (now : Written) → ahead ≡ []
    → GroupsAhead hint octets old spec ahead left now → takes_octets spec ≡ true
last_takes hint octets old spec ahead left now none h = rw (no_specs ahead h.specs none h.are_specs) at h.ends

pub group_then_again : (hint octets : List ℕ) (old : Written) (spec : Spec) (ahead left rest : List ℕ) (now new : Written) (pieces : List (List ℕ)) → ahead ≡ []
    → IsGroup spec pieces left rest → Adds now (pieces_text spec pieces rest) new → GroupsAhead hint octets old spec ahead left now
    → GroupsAhead hint octets old spec ahead rest new
group_then_again hint octets old spec ahead left rest now new pieces none group adds h =
    let alone = no_specs ahead h.specs none h.are_specs in
    record {
      specs = [];
      are_specs = none;
      ends = rw alone at h.ends;
      fits = h.fits;
      whole = λ last k.
          let P : List Spec → Type 0 = λ s. AppendsGroups (spec ∷ s) left now last in
          h.whole last (subst P (sym alone) (group_before spec [] pieces left rest now new last group adds k));
    }

pub groups_end : (hint octets : List ℕ) (old : Written) (spec : Spec) (ahead left : List ℕ) (now : Written) → left ≡ []
    → GroupsAhead hint octets old spec ahead left now → (text : List ℕ) × ShowsOctets hint octets text × Adds old text now
groups_end hint octets old spec ahead left now none h =
    let all = h.whole now (record { groups = []; text = []; are_groups = (none, refl); grows = grows_none now }) in
    (all.text, all.shows, adds_from old now all.text all.grows)

-- ---- a last spec that shows one octet each time

alone : ℕ → List (List ℕ)
alone octet = (octet ∷ []) ∷ []

is_alone : (spec : Spec) (octet : ℕ) (more : List ℕ) → spec.is_counted ≡ false → spec.length ≡ 1 → IsGroup spec (alone octet) (octet ∷ more) more
unfolding alone
is_alone spec octet more e f = grind (arith, common_steps)

alone_text : (format : OctetFormat) (mark : Option ℕ) (octet : ℕ) (more : List ℕ) → singles_text format mark (octet ∷ more)
    ≡ single_text format octet ++ mark_before mark more ++ singles_text format mark more
alone_text format mark octet [] = simp append-nil
alone_text format mark octet (next ∷ more) = simp append_assoc

are_alone : (spec : Spec) → spec.is_counted ≡ false → spec.length ≡ 1 → (octets : List ℕ)
    → AreGroups (spec ∷ []) (map alone octets) octets (singles_text spec.format (last_mark spec) octets)
unfolding alone
are_alone spec e f [] = (refl, refl)
are_alone spec e f (octet ∷ more) = (
  more,
  singles_text spec.format (last_mark spec) more,
  is_alone spec octet more e f,
  are_alone spec e f more,
  alone_text spec.format (last_mark spec) octet more,
)

single_is : (spec : Spec) → is_single spec ≡ true → (spec.is_counted ≡ false) × (spec.length ≡ 1)
single_is spec h = grind (arith, common_steps, and_parts, not-true, eqb-true)

pub groups_alone : (hint octets : List ℕ) (old : Written) (spec : Spec) (ahead left : List ℕ) (now new : Written) → ahead ≡ [] → is_single spec ≡ true
    → Adds now (singles_text spec.format (last_mark spec) left) new → GroupsAhead hint octets old spec ahead left now
    → (text : List ℕ) × ShowsOctets hint octets text × Adds old text new
groups_alone hint octets old spec ahead left now new none single adds h =
    let is = single_is spec single in
    let P : List Spec → Type 0 = λ s. AppendsGroups (spec ∷ s) left now new in
    let all = h.whole new (subst P (sym (no_specs ahead h.specs none h.are_specs)) (record {
      groups = map alone left;
      text = singles_text spec.format (last_mark spec) left;
      are_groups = are_alone spec is.0 is.1 left;
      grows = adds.grows;
    })) in
    (all.text, all.shows, adds_from old new all.text all.grows)

-- ---- pieces of one octet

single : ℕ → List ℕ
single octet = octet ∷ []

are_single : (n : ℕ) (octets : List ℕ) → n ≤ length octets → ArePieces 1 (map single (take n octets)) octets (drop n octets)
unfolding single
are_single zero octets low = refl
are_single (suc n) [] low = absurd (omega arith)
are_single (suc n) (octet ∷ more) low = (λ no. absurd (cc no), refl, are_single n more (omega arith))

single_pieces_text : (spec : Spec) (octet : ℕ) (more rest : List ℕ) → pieces_text spec (map single (octet ∷ more)) rest
    ≡ singles_text spec.format spec.separator (octet ∷ more) ++ mark_before (last_mark spec) rest
unfolding single
single_pieces_text spec octet [] rest = simp append-nil
single_pieces_text spec octet (next ∷ more) rest = grind (arith, common_steps, single_pieces_text spec next more rest, option_to_list, append_assoc)

pub cut_none : (spec : Spec) (times n : ℕ) (octets : List ℕ) (now : Written) → n ≡ min (length octets) times → take n octets ≡ []
    → AppendsPieces spec times octets now now (drop n octets)
cut_none spec times n octets now e none =
    let count : n ≡ 0 = omega (arith, ap length none, length-take n octets) in
    let same : drop n octets ≡ octets = ap (λ (k : ℕ). drop k octets) count in
    rw same (no_pieces spec times octets now (enough octets (omega arith)))
  where
    enough : (xs : List ℕ) → 0 ≡ min (length xs) times → (0 ≡ times) ⊎ (xs ≡ [])
    enough [] h = inr refl
    enough (x ∷ xs) h = inl (omega arith)

pub cut_singles : (spec : Spec) (times n : ℕ) (octets : List ℕ) (old now new : Written) → spec.length ≡ 1 → n ≡ min (length octets) times
    → take n octets ≢ [] → Adds old (singles_text spec.format spec.separator (take n octets)) now
    → Adds now (mark_before (last_mark spec) (drop n octets)) new → AppendsPieces spec times octets old new (drop n octets)
unfolding single
cut_singles spec times n octets old now new wide e some first last =
    let within : n ≤ length octets = omega arith in
    let count : length (map single (take n octets)) ≡ n = length-map (take n octets) single ∙ length-take-le n octets within in
    let are : ArePieces 1 (map single (take n octets)) octets (drop n octets) = are_single n octets within in
    record {
      pieces = map single (take n octets);
      cut = record {
        are_pieces = rw wide are;
        at_most = omega (arith, count);
        enough = enough (cases_order n times);
      };
      grows = rw (text (take n octets) some) (grows_both old now new _ _ first.grows last.grows);
    }
  where
    enough : (n ≡ times) ⊎ ((n < times) ⊎ (times < n)) → (length (map single (take n octets)) ≡ times) ⊎ (drop n octets ≡ [])
    enough (inl same) = inl (length-map (take n octets) single ∙ length-take-le n octets (omega arith) ∙ same)
    enough (inr (inl less)) = inr (drop_all n octets (omega arith))
    enough (inr (inr more)) = absurd (omega arith)

    text : (xs : List ℕ) → xs ≢ [] → pieces_text spec (map single xs) (drop n octets)
        ≡ singles_text spec.format spec.separator xs ++ mark_before (last_mark spec) (drop n octets)
    text [] filled = absurd (filled refl)
    text (x ∷ xs) filled = single_pieces_text spec x xs (drop n octets)
