-- The meanings are filled in along the order: before an index is filled in, the index that it refers to has been.
use Rattle.std.proofs.Common.{rules, ◌≡◌, ◌<◌, length, get_or, replicate, None, refl, ◌∙◌}
use Rattle.std.proofs.lemmas.List.{length-set, take_all, length-replicate, get_or_default}
use Rattle.std.proofs.lemmas.List.Elements.{All-get_or}
use Rattle.smi_names.specs.{chains.Order.next_at, meaning.Along.MeansAt}
use Rattle.smi_names.proofs.{Order.Fills-start, Order.Fills-step, Order.filled, ReferenceChains.none_past, ReferenceChains.far_of, ReferenceChains.are_meant}
use Rattle.smi_names.proofs.meaning.entries.Entries.along.Goals as goal

pub indices-init : goal.indices-init
indices-init g c =
    let k = c.args.self.now in
    let refers_to = g.M.References.refers_to in
    let means = g.M.Meaning.means in
    let next = c.in_ok-next.next.items in
    let n = length c.in_ok-next.next.items in
    let past = none_past k refers_to means next c.in_ok-next.ensures in
    let found : c.in_ok-found.found.items ≡ replicate (length c.in_ok-next.next.items) None = search rules in
    rw found (length-replicate n None, Fills-start (MeansAt k refers_to means) None None n past)

pub indices-preserved : goal.indices-preserved
indices-preserved g c =
    let k = c.args.self.now in
    let refers_to = g.M.References.refers_to in
    let means = g.M.Meaning.means in
    let next = c.in_ok-next.next.items in
    let are = c.in_ok-next.ensures in
    let order = c.in_ok-order.order.items in
    let found = c.indices.found.items in
    let i = c.indices.index-index in
    let seen : c.deref.result.now ≡ c.in_ok-next.next.items = c.deref.ensures.value in
    let after_next = rw seen at c.in_ok-order.ensures.after_next in
    let inside_all = rw seen at c.in_ok-order.ensures.within in
    let list : c.deref-index-items.result.now ≡ c.in_ok-order.order.items = c.deref-index-items.ensures.value in
    let i_in = rw list at c.indices-test.true in
    let inside = All-get_or (λ p. p < length c.in_ok-next.next.items) order i 0 i_in inside_all in
    let fills = rw list at c.indices.invariant.1 in
    let far = rw (c.deref-in-indices.ensures.value) at c.far_meaning.ensures in
    let to : c.index.result.now ≡ next_at c.in_ok-next.next.items (get_or c.in_ok-order.order.items c.indices.index-index 0) =
    rw list at c.index.ensures ∙ get_or_default next (get_or order i 0) c.index.result.now None inside in
    let is = rw (list, far, to) at c.meaning_at.ensures in
    rw list (
      length-set found (get_or order i 0) c.meaning_at.result ∙ c.indices.invariant.0,
      Fills-step (MeansAt k refers_to means) None None (length next) (none_past k refers_to means next are) next order found refl c.indices.invariant.0 i
          c.meaning_at.result fills i_in inside after_next
          (λ led. is (next_at next (get_or order i 0)) (are.each (get_or order i 0))
          (far_of (MeansAt k refers_to means) found (next_at next (get_or order i 0)) led)),
    )

pub returns : goal.returns
returns g c =
    let k = c.args.self.now in
    let refers_to = g.M.References.refers_to in
    let means = g.M.Meaning.means in
    let next = c.in_ok-next.next.items in
    let are = c.in_ok-next.ensures in
    let order = c.in_ok-order.order.items in
    let seen : c.deref.result.now ≡ c.in_ok-next.next.items = c.deref.ensures.value in
    let ended = rw seen at c.in_ok-order.ensures.each_ended in
    let list : c.deref-index-items.result.now ≡ c.in_ok-order.order.items = c.deref-index-items.ensures.value in
    let done = rw list at c.indices-test.false in
    let fills = rw (take_all c.indices.index-index order done) at (rw list at c.indices.invariant.1) in
    are_meant k refers_to means next are c.indices.found.items (filled (MeansAt k refers_to means) None None (length next)
    (none_past k refers_to means next are) next order c.indices.found.items refl c.indices.invariant.0 fills ended)
