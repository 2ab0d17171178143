use Rattle.std.proofs.Common.{◌≡◌, ◌<◌, ◌≤◌, ◌+◌, ◌-◌, List, length, take, drop, refl, sym, ◌∙◌, ap, ℕ, arith, Some}
use Rattle.std.proofs.{lemmas.Bool.ltb-true, lemmas.Option.slice_get_read}
use Rattle.std.specs.List.{slice_get}
use Rattle.snmp_walk.specs.{declared.arena.Span.Span, Arena.Store, Arena.cut, Traffic.datagram_at}
use Rattle.snmp_walk.proofs.Arenas.{numbered, cut_found}
use Rattle.snmp_walk.proofs.arena.Arena.datagram.Goals as goal

pub returns-clause-some : goal.returns-clause-some
returns-clause-some c =
    let octets : List ℕ = c.self.inside.octets.items in
    let spans : List Span = c.self.inside.spans.items in
    let span : Span = c.in_ok-span.span.now in
    let index = c.in_ok-checked_sub.field-0 in
    let sub = c.in_ok-checked_sub.ensures in
    let within : index < length c.deref.result.now = ltb-true _ _ (sym c.in_ok-span.ensures.lookup.0) in
    let found : slice_get c.deref.result.now index ≡ Some span = slice_get_read c.deref.result.now _ index span refl within c.in_ok-span.ensures.lookup.1 in
    let here : slice_get spans index ≡ Some span = ap (λ (s : List Span). slice_get s index) (sym c.deref.ensures.value) ∙ found in
    let less : c.args.number - 1 ≡ index = omega arith in
    let some : 1 ≤ c.args.number = omega arith in
    let size : (span.start + span.len) - span.start ≡ span.len = omega arith in
    ap (λ (s : Store). datagram_at s.datagrams c.args.number) (sym c.self.view_is) ∙ numbered (cut octets spans) c.args.number some
    ∙ ap (slice_get (cut octets spans)) less ∙ cut_found octets spans index span here
    ∙ ap (λ (d : List ℕ). Some (take span.len (drop span.start d))) (sym c.deref-2.ensures.value)
    ∙ ap (λ (n : ℕ). Some (take n (drop span.start c.deref-2.result.now))) (sym size)
