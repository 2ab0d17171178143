-- The first source with the label is tested, and then the first one in the module is looked up.
use Rattle.std.proofs.Common.{arith, rules, ◌≡◌, ℕ, true, false, List, length, get_or, Some, None, refl, sym, ◌∙◌}
use Rattle.std.proofs.{lemmas.Grind.common_steps, lemmas.Option.slice_get_within, lemmas.Option.slice_get_read}
use Rattle.std.specs.List.{slice_get, position_from}
use Rattle.smi_text.specs.declared.trees.tree.Module.{Module}
use Rattle.smi_names.specs.{nodes.Nodes.Node, nodes.Gathered.nodes_of, declared.nodes.gather.Source.Source}
use Rattle.smi_tree.specs.{Nodes.is_named, Nodes.index_anywhere, Indices.has_label, Indices.home_from}
use Rattle.smi_tree.specs.Nodes as nodes
use Rattle.smi_tree.proofs.Sources.{anywhere_sources, in_module-sources}
use Rattle.smi_tree.proofs.{First.IsFirst, First.first, First.both_none, First.both_first, SharedLabels.no_module}
use Rattle.smi_tree.proofs.tree.Tree.find.Goals as goal

module _ (ms : List Module) (ss : List Source) (os : List (List ℕ)) (x : List ℕ) (f : ℕ) (long : length ss ≡ length os)
    (e : Some f ≡ index_anywhere (nodes_of ms ss os) x) where
  labelled : position_from (has_label ms x) 0 ss ≡ Some f
  labelled = sym (e ∙ anywhere_sources ms ss os x long)

  id : IsFirst (has_label ms x) ss f
  id = rw labelled at (first (has_label ms x) ss)

  there : (s : Source) → s ≡ get_or ss f s → slice_get ss f ≡ Some s
  there s is = slice_get_read ss (length ss) f s refl (slice_get_within ss f id.x id.at) is

pub returns-in_err-first : goal.returns-in_err-first
returns-in_err-first c =
    let none : index_anywhere c.args.self.now.nodes c.args.label.now ≡ None = search rules in
    let out : c.from_residual.result ≡ None = search rules in
    rw out (sym (both_none (λ (n : Node). is_named c.args.home.now n.home) (nodes.has_label c.args.label.now) c.args.self.now.nodes none))

pub index-requires : goal.index-requires
index-requires c =
    let i = c.self.inside in
    let f = id i.modules.items i.sources.items i.identifiers c.args.label.now c.in_ok-first.first c.self.invariant.long
    (rw (sym c.self.view_is) at c.in_ok-first.ensures) in
    rw i.sources.ok.0 (slice_get_within i.sources.items c.in_ok-first.first f.x f.at)

pub returns-then-is_in_module : goal.returns-then-is_in_module
returns-then-is_in_module c =
    let i = c.self.inside in
    let ms = i.modules.items in
    let x = c.args.label.now in
    let f = c.in_ok-first.first in
    let s = c.index.result.now in
    let e = rw (sym c.self.view_is) at c.in_ok-first.ensures in
    let long = c.self.invariant.long in
    let named : is_named c.args.home.now (home_from i.modules.items c.index.result.now) ≡ true = rw c.deref.ensures.value at (sym c.if-is_in_module.ensures) in
    rw (sym c.self.view_is) (sym (in_module-sources ms i.sources.items i.identifiers c.args.home.now x long
    ∙ both_first (λ (y : Source). is_named c.args.home.now (home_from ms y)) (has_label ms x) i.sources.items f s
    (labelled ms i.sources.items i.identifiers x f long e) (there ms i.sources.items i.identifiers x f long e s c.index.ensures) named))

pub returns-in_err-home : goal.returns-in_err-home
returns-in_err-home c = grind (arith, common_steps, in_module-sources, no_module)

pub returns : goal.returns
returns c =
    let i = c.self.inside in
    let ms = i.modules.items in
    let home = c.args.home.now in
    let x = c.args.label.now in
    let f = c.in_ok-first.first in
    let s = c.index.result.now in
    let e = rw (sym c.self.view_is) at c.in_ok-first.ensures in
    let long = c.self.invariant.long in
    let apart : is_named c.args.home.now (home_from i.modules.items c.index.result.now) ≡ false = rw c.deref.ensures.value at (sym c.if-is_in_module.ensures) in
    c.copied.ensures ∙ c.get.ensures.value
    ∙ c.self.invariant.others home x c.in_ok-home.home f s (sym (c.in_ok-home.ensures ∙ c.self.invariant.homes home))
    (labelled ms i.sources.items i.identifiers x f long e) (there ms i.sources.items i.identifiers x f long e s c.index.ensures) apart
    ∙ rw (sym c.self.view_is) (sym (in_module-sources ms i.sources.items i.identifiers home x long))
