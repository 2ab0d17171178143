-- The invariant of the loop holds after one source more.
use Rattle.std.proofs.Common.{rules, ◌≡◌, ◌+◌, ◌<◌, ◌≤◌, [], ◌∷◌, ◌++◌, length, map, get_or, None, ◌∙◌, refl, sym, arith}
use Rattle.std.proofs.lemmas.{Grind.common_steps, List.take_all, List.length-map}
use Rattle.indexmap.specs.IndexMap.{get}
use Rattle.smi_names.specs.declared.nodes.gather.Source.TheVariants as S
use Rattle.smi_tree.specs.Indices.{has_label, label_from, same_key}
use Rattle.smi_tree.proofs.{First.more, First.or_else_none, SharedLabels.others-more, SharedLabels.first_is, Previous.previous-more, Previous.first_at}
use Rattle.smi_tree.proofs.indices.labels.Goals as goal
use Rattle.smi_tree.proofs.indices.labels.Goals.{in-Some+in_ok-insert_if_absent, in_default}

pub sources-preserved : goal.sources-preserved
sources-preserved c =
    let ms = c.args.modules.now in
    let ss = c.args.sources.now in
    let k = c.sources.k in
    let inside : c.sources.k < length c.args.sources.now = search rules in
    let name : c.in_ok-label.label ≡ label_from c.args.modules.now (get_or c.args.sources.now c.sources.k (S.Root 0)) =
    c.in_ok-label.ensures ∙ c.label.ensures in
    let first = first_is ms c.sources.labels ss k c.in_ok-first.first (S.Root 0) inside c.sources.invariant.labels
    (rw name at c.in_ok-first.ensures.returned) in
    record {
      labels = λ x. c.in_ok-first.ensures.put x ∙ rw (name, c.sources.invariant.labels x) (sym (more (has_label ms x) ss k (S.Root 0) inside));
      others = others-more ms c.args.homes.now ss c.sources.others c.match-key_of.others k c.in_ok-first.first (S.Root 0) c.requires inside first
          (λ y. elim c.match-key_of.branch [
            | in-Some+in_ok-insert_if_absent w ↦ rw (w.others-is, ← c.key_of.ensures, w.in-Some.is) (w.in_ok-insert_if_absent.ensures.put y)
            | in_default w ↦ (let none : c.key_of.result ≡ None = search rules in
                rw (w.others-is, ← c.key_of.ensures, none) (sym (or_else_none (get same_key c.sources.others y))))
          ]) c.sources.invariant.others;
      previous =
          let pushed : c.push.new.self.items ≡ c.sources.previous.items ++ c.sources.k ∷ [] = c.in_ok-push.ensures.items in
          let long : length c.swap.new.self.items ≡ c.sources.k + 1 =
          grind (arith, common_steps, c.swap.ensures.len, c.in_ok-push.ensures.len, c.sources.invariant.previous.long) in
          previous-more (map (label_from ms) ss) k c.in_ok-first.first c.sources.previous.items c.swap.new.self.items
          (omega (arith, inside, length-map ss (label_from ms))) (first_at ms ss k c.in_ok-first.first (S.Root 0) inside first)
          c.sources.invariant.previous long (rw pushed at c.swap.ensures.by_index);
      hashed_labels = c.in_ok-first.ensures.hashed ∙ c.sources.invariant.hashed_labels;
      hashed_others = elim c.match-key_of.branch [
        | in-Some+in_ok-insert_if_absent w ↦ rw w.others-is (w.in_ok-insert_if_absent.ensures.hashed ∙ c.sources.invariant.hashed_others)
        | in_default w ↦ rw w.others-is c.sources.invariant.hashed_others
      ];
    }

pub returns-clause-others : goal.returns-clause-others
returns-clause-others c =
    let end : length c.args.sources.now ≤ c.sources.k = search rules in
    rw (take_all c.sources.k c.args.sources.now end) at c.sources.invariant.others

pub swap-requires-clause-i_in_bounds : goal.swap-requires-clause-i_in_bounds
swap-requires-clause-i_in_bounds c =
    let ms = c.args.modules.now in
    let ss = c.args.sources.now in
    let inside : c.sources.k < length c.args.sources.now = search rules in
    let name : c.in_ok-label.label ≡ label_from c.args.modules.now (get_or c.args.sources.now c.sources.k (S.Root 0)) =
    c.in_ok-label.ensures ∙ c.label.ensures in
    let first = first_at ms ss c.sources.k c.in_ok-first.first (S.Root 0) inside (first_is ms c.sources.labels ss c.sources.k c.in_ok-first.first (S.Root 0)
    inside c.sources.invariant.labels (rw name at c.in_ok-first.ensures.returned)) in
    let at_most = first.before c.sources.k refl (omega (arith, inside, length-map ss (label_from ms))) in
    grind (arith, common_steps, at_most, c.sources.invariant.previous.long, c.in_ok-push.ensures.len)

pub swap-requires-clause-j_in_bounds : goal.swap-requires-clause-j_in_bounds
swap-requires-clause-j_in_bounds c = grind (arith, common_steps, c.sources.invariant.previous.long, c.in_ok-push.ensures.len)

pub returns-clause-previous : goal.returns-clause-previous
returns-clause-previous c =
    let end : c.sources.k ≡ length c.args.sources.now = omega arith in rw end at c.sources.invariant.previous
