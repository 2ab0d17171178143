-- The resolutions are filled in along the order: before an index is filled in, the index that it refers to has been. All other indices stay at `Cycle`.
use Rattle.std.proofs.Common.{rules, inl, ◌≡◌, ◌<◌, ◌∷◌, [], length, replicate, get_or, refl, sym, ◌∙◌, arith}
use Rattle.std.proofs.lemmas.List.{length-set, length-map, take_all, length-replicate}
use Rattle.std.proofs.{lemmas.Bool.eqb-true, lemmas.List.Elements.All-get_or, lemmas.List.Elements.All-replicate}
use Rattle.std.specs.List.{slice_get}
use Rattle.smi_names.specs.{chains.Order.next_at, chains.Resolution.resolutions_at, meaning.Parents.origin_here}
use Rattle.smi_names.specs.chains.Resolution.{resolution_at, resolution_by, far_at}
use Rattle.smi_names.specs.declared.chains.shared.Resolution.TheVariants as R
use Rattle.smi_names.proofs.Order.{Fills-start, Fills-step, filled}
use Rattle.smi_names.proofs.Resolutions.{ResolvesAt, beyond_comes, resolves_step, are_resolved}
use Rattle.smi_names.proofs.SharedResolutions.{resolutions_at-grown, AreWithin-grown, HasReasons-grown, resolutions_at-start}
use Rattle.smi_names.proofs.meaning.entries.Entries.resolutions.Goals as goal

pub returns-then-is_empty-clause-resolved : goal.returns-then-is_empty-clause-resolved
returns-then-is_empty-clause-resolved c =
    let none : length c.parents-next.result.now ≡ 0 = eqb-true (length c.parents-next.result.now) 0 (sym c.is_empty.ensures ∙ c.if-is_empty.true) in
    rw (c.new.ensures.items, c.new-then-is_empty.ensures.items)
    (are_resolved c.args.self.now c.parents-next.result.now c.parents-next.ensures [] (sym none)
    (λ p. inl (beyond_comes c.args.self.now c.parents-next.result.now c.parents-next.ensures p (omega (arith, none)))))

pub indices-init : goal.indices-init
indices-init c =
    let k = c.args.self.now in
    let next = c.parents-next.result.now in
    let n = length c.parents-next.result.now in
    let list : c.in_ok-list.list.items ≡ R.Unresolved ∷ R.Cycle ∷ R.TooLong ∷ [] = c.in_ok-list.ensures in
    let indices : c.in_ok-indices.indices.items ≡ replicate (length c.parents-next.result.now) 1 = search rules in
    rw (indices, list) (
      length-replicate n 1,
      ([], refl),
      All-replicate (λ k. k < 3) n 1 (omega arith),
      rw (resolutions_at-start (R.Unresolved ∷ R.Cycle ∷ R.TooLong ∷ []) n refl)
          (Fills-start (ResolvesAt k) R.Cycle R.Unresolved n (beyond_comes k next c.parents-next.ensures)),
    )

pub indices-preserved : goal.indices-preserved
indices-preserved c =
    let k = c.args.self.now in
    let next = c.parents-next.result.now in
    let n = length c.parents-next.result.now in
    let order = c.in_ok-order.order.items in
    let i = c.indices.index-index in
    let after_next = c.in_ok-order.ensures.after_next in
    let within = c.in_ok-order.ensures.within in
    let list : c.deref-index-items.result.now ≡ c.in_ok-order.order.items = c.deref-index-items.ensures.value in
    let indices : c.deref.result.now ≡ c.indices.indices.items = c.deref.ensures.value in
    let i_in = rw list at c.indices-test.true in
    let p = get_or order i 0 in
    let inside = All-get_or (λ p. p < length c.parents-next.result.now) order i 0 i_in within in
    let fills = rw list at c.indices.invariant.3 in
    let old = c.indices.list.items in
    let new = c.resolve_entry.new.list.items in
    let at = c.in_ok-indices-2.field-0 in
    let rs = resolutions_at c.indices.list.items c.indices.indices.items in
    let r = resolution_by (origin_here (slice_get k.names p)) (far_at rs (next_at next p)) in
    let grown = rw (list, indices) at c.in_ok-indices-2.ensures.grown in
    let long : length (resolutions_at c.indices.list.items c.indices.indices.items) ≡ length c.parents-next.result.now =
    length-map c.indices.indices.items (λ k. resolution_at c.indices.list.items k) ∙ c.indices.invariant.0 in
    rw list (
      length-set c.indices.indices.items p at ∙ c.indices.invariant.0,
      HasReasons-grown old new at r c.indices.invariant.1 grown,
      AreWithin-grown old new c.indices.indices.items p at r c.indices.invariant.2 grown,
      rw (resolutions_at-grown old new c.indices.indices.items p at r c.indices.invariant.2 grown) (
          Fills-step (ResolvesAt k) R.Cycle R.Unresolved n (beyond_comes k next c.parents-next.ensures) next order rs refl long i r fills i_in inside
          after_next (resolves_step k next c.parents-next.ensures p rs)),
    )

pub returns-clause-resolved : goal.returns-clause-resolved
returns-clause-resolved c =
    let k = c.args.self.now in
    let next = c.parents-next.result.now in
    let order = c.in_ok-order.order.items in
    let rs = resolutions_at c.indices.list.items c.indices.indices.items in
    let list : c.deref-index-items.result.now ≡ c.in_ok-order.order.items = c.deref-index-items.ensures.value in
    let ended = c.in_ok-order.ensures.each_ended in
    let done = rw list at c.indices-test.false in
    let fills = rw (take_all c.indices.index-index order done) at (rw list at c.indices.invariant.3) in
    let long : length (resolutions_at c.indices.list.items c.indices.indices.items) ≡ length c.parents-next.result.now =
    length-map c.indices.indices.items (λ k. resolution_at c.indices.list.items k) ∙ c.indices.invariant.0 in
    are_resolved k next c.parents-next.ensures rs long (filled (ResolvesAt k) R.Cycle R.Unresolved (length next)
    (beyond_comes k next c.parents-next.ensures) next order rs refl long fills ended)
