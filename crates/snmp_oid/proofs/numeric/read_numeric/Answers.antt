use Rattle.std.proofs.lemmas.Grind.{common_steps}
use Rattle.std.proofs.Common.{◌≡◌, ℕ, ◌-◌, ◌<◌, inl, ◌∙◌, List, [], ◌∷◌, ◌++◌, length, Bool, true, false, cond, None, Result, Ok, Err, IsOk, OnOk}
use Rattle.std.proofs.Common.{OnErr, ◌↔◌, refl, sym, ap, arith}
use Rattle.std.specs.Result.{is_err}
use Rattle.snmp_oid.specs.{declared.oid.OidError.OidError, Numeric.IsNumericName, Numeric.IsFirstBadPart}
use Rattle.snmp_oid.proofs.ParseState.{IsParsedTo, Keeps, dot_alone, parse_begins, parse_more, bad_part_here, bad_part_no_name, one_bad_part}
use Rattle.snmp_oid.proofs.ParseState.{parsed_name, parsed_only, parsed_short, parse_digits}
use Rattle.snmp_oid.proofs.numeric.read_numeric.Goals as goal

pub returns-then-is_dot-clause-only : goal.returns-then-is_dot-clause-only
returns-then-is_dot-clause-only c = λ o name short. (let none = dot_alone c.args.text.now o (c.is_dot.ensures.0 c.if-is_dot.true) name in
    (refl, c.clear.ensures ∙ sym none))

pub returns-then-is_dot-clause-too_long : goal.returns-then-is_dot-clause-too_long
returns-then-is_dot-clause-too_long c = (
  λ same. (let no : ⊥ = cc in absurd no),
  λ long. absurd (omega (
    arith,
    long.2,
    ap length (dot_alone c.args.text.now long.0 (c.is_dot.ensures.0 c.if-is_dot.true) long.1),
  )),
)

pub parts-init : goal.parts-init
parts-init c = grind (arith, common_steps, parse_begins)

-- if the next part isn't a numeral, then it is the first bad part
first_bad : (c : goal.In_default-number) → IsFirstBadPart c.args.text.now (length c.args.text.now - length c.in-Some.here.now)
first_bad c = bad_part_here (rw c.in-Some.is at c.parts.invariant) (rw c.in_default-number.is at c.read_part-number.ensures)

no_name : (c : goal.In_default-number) (o : List ℕ) → IsNumericName c.args.text.now o → ⊥
no_name c = bad_part_no_name (rw c.in-Some.is at c.parts.invariant) (rw c.in_default-number.is at c.read_part-number.ensures)

pub returns-in_default-number-clause-only : goal.returns-in_default-number-clause-only
returns-in_default-number-clause-only c = λ o name short. absurd (no_name c o name)

pub returns-in_default-number-clause-bad_number : goal.returns-in_default-number-clause-bad_number
returns-in_default-number-clause-bad_number c =
    λ at. (
      λ same. (let e : length c.args.text.now - length c.in-Some.here.now ≡ at = cc in rw e at (first_bad c)),
      λ other. (let e = one_bad_part c.args.text.now (length c.args.text.now - length c.in-Some.here.now) at (first_bad c) other in cc),
    )

pub returns-in_default-number-clause-too_long : goal.returns-in_default-number-clause-too_long
returns-in_default-number-clause-too_long c = (λ same. (let no : ⊥ = cc in absurd no), λ long. absurd (no_name c long.0 long.1))

-- if a push appends n exactly when there is room for it, then `new` is `kept` after the number n
keeps : (r : Result (Unit {0}) OidError) (kept new : List ℕ) (too_long : Bool) (n : ℕ) → (IsOk r ↔ (length kept < 128)) → OnOk r (new ≡ kept ++ n ∷ [])
    → OnErr r (new ≡ kept) → Keeps kept too_long n new (cond (is_err r) true too_long)
keeps (Ok u) kept new too_long n variant pushed same = inl (variant.0 refl, pushed, refl)
keeps (Err fault) kept new too_long n variant pushed same = grind (arith, common_steps)

-- after one more part, the text is read up to the end of this part
pub parts-preserved-then-is_err : goal.parts-preserved-then-is_err
parts-preserved-then-is_err c =
    let full : is_err c.push.result ≡ true = cc (c.is_err.ensures.value, c.if-is_err.true) in
    parse_more c.push.new.self true (rw (← c.in_default-read_three.ensures.unchanged_on_none) at (rw c.in-Some.is at c.parts.invariant))
    (rw c.in-Some-number.is at c.read_part-number.ensures)
    (rw full at (keeps c.push.result c.read_three.new.oid c.push.new.self c.parts.too_long c.in-Some-number.number c.push.ensures.variant c.push.ensures.ok
    c.push.ensures.unchanged_on_error))

pub parts-preserved : goal.parts-preserved
parts-preserved c =
    let room : is_err c.push.result ≡ false = cc (c.is_err.ensures.value, c.if-is_err.false) in
    parse_more c.push.new.self c.parts.too_long (rw (← c.in_default-read_three.ensures.unchanged_on_none) at (rw c.in-Some.is at c.parts.invariant))
    (rw c.in-Some-number.is at c.read_part-number.ensures)
    (rw room at (keeps c.push.result c.read_three.new.oid c.push.new.self c.parts.too_long c.in-Some-number.number c.push.ensures.variant c.push.ensures.ok
    c.push.ensures.unchanged_on_error))

pub parts-preserved-in-Some-read_three : goal.parts-preserved-in-Some-read_three
parts-preserved-in-Some-read_three c = parse_digits (rw c.in-Some.is at c.parts.invariant) c.in-Some-read_three.ensures.three

-- if `too_long` is true after the loop, then the whole text is read, and has more than 128 numbers
ended_long : (c : goal.Then-too_long) → IsParsedTo c.args.text.now None c.parts.oid true
ended_long c = rw (c.in_default.is, c.if-too_long.true) at c.parts.invariant

ended_short : (c : goal.Else-too_long) → IsParsedTo c.args.text.now None c.parts.oid false
ended_short c = rw (c.in_default.is, c.if-too_long.false) at c.parts.invariant

pub returns-then-too_long-clause-only : goal.returns-then-too_long-clause-only
returns-then-too_long-clause-only c =
    λ o name short. (let h = ended_long c in absurd (omega (arith, ap length (parsed_only c.args.text.now c.parts.oid true h o name), h.long refl)))

pub returns-then-too_long-clause-too_long : goal.returns-then-too_long-clause-too_long
returns-then-too_long-clause-too_long c =
    let h = ended_long c in (λ same. (h.numbers, parsed_name c.args.text.now c.parts.oid true h, h.long refl), λ long. refl)

pub returns-else-too_long-clause-found : goal.returns-else-too_long-clause-found
returns-else-too_long-clause-found c =
    let h = ended_short c in
    rw (parsed_short c.args.text.now c.parts.oid h).1 (parsed_name c.args.text.now c.parts.oid false h)

pub returns-else-too_long-clause-at_most_128 : goal.returns-else-too_long-clause-at_most_128
returns-else-too_long-clause-at_most_128 c =
    let h = parsed_short c.args.text.now c.parts.oid (ended_short c) in omega (arith, ap length h.1, h.0)

pub returns-else-too_long-clause-only : goal.returns-else-too_long-clause-only
returns-else-too_long-clause-only c =
    λ o name short. (let h = ended_short c in (
      refl,
      (parsed_short c.args.text.now c.parts.oid h).1 ∙ sym (parsed_only c.args.text.now c.parts.oid false h o name),
    ))

pub returns-else-too_long-clause-too_long : goal.returns-else-too_long-clause-too_long
returns-else-too_long-clause-too_long c = (
  λ same. (let no : ⊥ = cc in absurd no),
  λ long. (let h = ended_short c in absurd (omega (arith, ap length (parsed_only c.args.text.now c.parts.oid false h long.0 long.1), h.short refl, long.2))),
)
