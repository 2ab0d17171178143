-- If the scope has the name already, its entry stays; otherwise the name is entered with the new entry.
use Rattle.std.proofs.Common.{rules, ◌≡◌, [], ◌∷◌, ◌++◌, length, refl}
use Rattle.smi_names.specs.meaning.Scopes.{index_in, decision_of}
use Rattle.smi_names.proofs.Scopes.{KnowsMore-there, KnowsMore-entered, had_index, had_none, put_absent}
use Rattle.smi_names.proofs.meaning.scope.enter.Goals as goal

pub returns-then-first-index : goal.returns-then-first-index
returns-then-first-index c =
    let e = c.args.entry in
    let p = c.in_ok-first.first in
    let there = had_index (index_in c.args.scope.now e.name.now) p c.len-index.result
    (rw c.new.ensures at c.in_ok-first.ensures.returned) c.if-first-index.true in
    record {
      entered = KnowsMore-there c.args.entries.now.items c.args.scope.now e.module.now e.source.0 c.requires.within c.insert_if_absent.new.indices
          e.name.now (decision_of e.decider) p c.len-index.result there (rw c.new.ensures at c.in_ok-first.ensures.put) c.in_ok-first.ensures.hashed;
    }

pub returns : goal.returns
returns c =
    let e = c.args.entry in
    let pushed : c.push.new.self.items ≡ c.args.entries.now.items ++ c.args.entry ∷ [] = search rules in
    let index : c.len-index.result ≡ length c.args.entries.now.items = search rules in
    let returned = rw (index, c.new.ensures) at c.in_ok-first.ensures.returned in
    let put = rw (index, c.new.ensures) at c.in_ok-first.ensures.put in
    let last = rw index at c.if-first-index.false in
    let none = had_none (index_in c.args.scope.now e.name.now) c.in_ok-first.first (length c.args.entries.now.items) returned
    (c.requires.within e.name.now) last in
    let indices = put_absent c.args.scope.now c.insert_if_absent.new.indices e.name.now (length c.args.entries.now.items) none put in
    rw pushed (record {
      entered = KnowsMore-entered c.args.entries.now.items c.args.scope.now e.module.now e.source.0 c.requires.within c.insert_if_absent.new.indices
          e.name.now e none indices refl refl (refl, refl, c.requires.found) c.in_ok-first.ensures.hashed;
    })
