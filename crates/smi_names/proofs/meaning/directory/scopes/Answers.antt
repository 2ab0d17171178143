-- The invariant of the loop holds after one module more.
use Rattle.std.proofs.Common.{rules, ◌≡◌, ◌+◌, ◌<◌, [], ◌∷◌, ◌++◌, length, take, sym, refl, ◌∙◌, arith}
use Rattle.std.proofs.{lemmas.List.take_more, lemmas.List.length-take-le, lemmas.List.Elements.All-push}
use Rattle.indexmap.specs.IndexMap.{hasher_of}
use Rattle.smi_names.proofs.FirstPosition.{AreEach-more}
use Rattle.smi_names.proofs.meaning.directory.scopes.Goals as goal

pub modules-preserved : goal.modules-preserved
modules-preserved c =
    let ms = c.args.modules.now in
    let i = c.modules.i in
    let scopes = c.modules.scopes.items in
    let scope = c.in_ok-scope.scope in
    let inside : c.modules.i < length c.args.modules.now = search rules in
    let more : take (i + 1) ms ≡ take i ms ++ c.index-modules-i.result ∷ [] = take_more ms i c.index-modules-i.result inside
    ∙ rw (sym c.index-modules-i.is) refl in
    let pushed : c.push.new.self.items ≡ c.modules.scopes.items ++ c.in_ok-scope.scope ∷ [] = search rules in
    let grown = c.in_ok-scope.ensures.grown in
    let knows = rw grown.1 at c.in_ok-scope.ensures.decided in
    let within = rw grown.1 at c.in_ok-scope.ensures.within in
    rw (more, pushed, grown.1) (record {
      each = AreEach-more (take i ms) scopes c.modules.entries.items grown.0 c.index-modules-i.result i scope c.modules.invariant.each knows within
          (sym (length-take-le i ms (omega arith))) grown.2 grown.3;
      hashed = All-push (λ s. hasher_of s ≡ c.args.hash) scopes scope c.modules.invariant.hashed c.in_ok-scope.ensures.hashed;
    })
