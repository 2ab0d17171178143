use Rattle.std.proofs.Common.{◌≡◌, ◌+◌, ℕ, List, ◌∷◌, ◌++◌, Option, None, false, ap, sym, ◌∙◌, refl, take, drop, get_or, subst}
use Rattle.std.proofs.lemmas.List.{at_drop_more, take_all, take-append-drop}
use Rattle.snmp_io.specs.{Quotes.is_quote, Quotes.open_after, QuoteLaws.HasNoneAfter, QuoteLaws.is_closed, QuoteLaws.none_outside}
use Rattle.snmp_io.proofs.{OutputPieces.rest_whole, QuotedTexts.IsSoFar, QuotedTexts.read_more, QuotedTexts.read_nothing}
use Rattle.snmp_io.proofs.quotes.split_unquoted.Goals as goal

opens_none : (octet : ℕ) → is_quote octet ≡ false → open_after None octet ≡ None
opens_none octet plain = rw plain refl

pub octets-init : goal.octets-init
octets-init c = read_nothing c.args.stop c.args.text.now

pub returns-then-octet-stop : goal.returns-then-octet-stop
returns-then-octet-stop c =
    let text = c.args.text.now in
    let at = c.octets.at in
    let same : get_or text at 0 ≡ c.args.stop = c.if-octet-stop.true in
    record {
      parts = sym (take-append-drop at text) ∙ ap (λ (t : List ℕ). take at text ++ t) (at_drop_more (λ (t : List ℕ). t) text at 0 c.octets-test.true
          ∙ ap (λ (x : ℕ). x ∷ drop (at + 1) text) same ∙ ap (λ (t : List ℕ). c.args.stop ∷ t) (sym (rest_whole (at + 1) text)));
      outside = is_closed (take at text) (sym c.octets.invariant.now);
      first = none_outside c.args.stop (take at text) c.octets.invariant.none;
    }

pub octets-preserved : goal.octets-preserved
octets-preserved c =
    let P : Option ℕ → Type 0 = λ q. IsSoFar c.args.stop c.args.text.now (c.octets.at + 1) q in
    subst P (opens_none (get_or c.args.text.now c.octets.at 0) (sym c.is_quote.ensures ∙ c.if-is_quote.false))
    (read_more c.args.stop c.args.text.now c.octets.at None c.octets-test.true (λ now same. c.if-octet-stop.false same) c.octets.invariant)

pub returns : goal.returns
returns c =
    let P : List ℕ → Type 0 = λ t. HasNoneAfter c.args.stop None t in
    none_outside c.args.stop c.args.text.now
    (subst P (take_all c.octets.at c.args.text.now c.octets-test.false) c.octets.invariant.none)
