use Rattle.std.proofs.Common.{◌≡◌, ◌+◌, ℕ, Bool, true, false, not, List, ◌∷◌, ◌++◌, Option, Some, None, ap, sym, ◌∙◌, take, drop, get_or, refl, subst}
use Rattle.std.specs.Option.{is_some}
use Rattle.std.proofs.lemmas.List.{at_drop_more, take_all, take-append-drop}
use Rattle.snmp_io.specs.QuoteLaws.{HasNoneAfter, is_closed, none_outside}
use Rattle.snmp_io.proofs.{OutputPieces.rest_whole, QuotedTexts.IsSoFar, QuotedTexts.read_more, QuotedTexts.read_nothing}
use Rattle.snmp_io.proofs.quotes.split_quoted.Goals as goal
use Rattle.snmp_io.proofs.quotes.split_quoted.Goals.{else-is_none-via-then-is_none+else-octet-stop, else-is_none-via-else-is_none}

unquoted : (quote : Option ℕ) (test : Bool) → is_some quote ≡ not test → test ≡ true → quote ≡ None
unquoted None test is yes_none = refl
unquoted (Some quote) test is yes_none = absurd (cc (is, yes_none))

quoted : (quote : Option ℕ) (test : Bool) → is_some quote ≡ not test → test ≡ false → quote ≡ None → ⊥
quoted None test is no_none same = absurd (cc (is, no_none))
quoted (Some quote) test is no_none same = absurd (cc (same))

pub octets-init : goal.octets-init
octets-init c = read_nothing c.args.stop c.args.text.now

pub returns-then-octet-stop : goal.returns-then-octet-stop
returns-then-octet-stop c =
    let text = c.args.text.now in
    let at = c.octets.at in
    let same : get_or text at 0 ≡ c.args.stop = c.if-octet-stop.true in
    record {
      parts = sym (take-append-drop at text) ∙ ap (λ (t : List ℕ). take at text ++ t) (at_drop_more (λ (t : List ℕ). t) text at 0 c.octets-test.true
          ∙ ap (λ (x : ℕ). x ∷ drop (at + 1) text) same ∙ ap (λ (t : List ℕ). c.args.stop ∷ t) (sym (rest_whole (at + 1) text)));
      outside = is_closed (take at text) (sym c.octets.invariant.now
          ∙ unquoted c.octets.quote c.is_none.result c.is_none.ensures c.if-is_none.true);
      first = none_outside c.args.stop (take at text) c.octets.invariant.none;
    }

pub octets-preserved : goal.octets-preserved
octets-preserved c =
    let P : Option ℕ → Type 0 = λ q. IsSoFar c.args.stop c.args.text.now (c.octets.at + 1) q in
    subst P (sym c.open_after-quote.ensures) (read_more c.args.stop c.args.text.now c.octets.at c.octets.quote c.octets-test.true
    (elim c.else-is_none.branch [
      | else-is_none-via-then-is_none+else-octet-stop w ↦ λ now same. w.if-octet-stop.false same
      | else-is_none-via-else-is_none w ↦ λ now same. quoted c.octets.quote c.is_none.result c.is_none.ensures w.if-is_none.false now
    ]) c.octets.invariant)

pub returns : goal.returns
returns c =
    let P : List ℕ → Type 0 = λ t. HasNoneAfter c.args.stop None t in
    none_outside c.args.stop c.args.text.now
    (subst P (take_all c.octets.at c.args.text.now c.octets-test.false) c.octets.invariant.none)
