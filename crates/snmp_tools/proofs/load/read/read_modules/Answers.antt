use Rattle.std.proofs.{Common.◌++◌, Common.subst, Common.sym, Common.ℕ, Common.List, lemmas.Result.err_from_is_err_and}
use Rattle.snmp_io.specs.Files.{MayHold}
use Rattle.snmp_tools.specs.load.Files.{AreModulesOf}
use Rattle.snmp_tools.proofs.{ModuleLists.AreModulesOf-more, ModuleLists.held_among, ModuleLists.refused_at, Texts.texts-more}
use Rattle.snmp_tools.proofs.load.read.read_modules.Goals as goal

pub returns-in_err-found-clause-refused : goal.returns-in_err-found-clause-refused
returns-in_err-found-clause-refused g c =
    let p = err_from_is_err_and c.from_residual.result c.from_residual.ensures.1 in
    rw (p.1, p.2) (refused_at (g.F.Files.text_at c.args.files.now) c.args.paths.now c.paths.path-index _ _ _ c.paths-test.true c.paths.invariant
    c.in_err-found.ensures.refused)

pub paths-preserved : goal.paths-preserved
paths-preserved g c =
    let files = g.F.Files.text_at c.args.files.now in
    let more = AreModulesOf-more (MayHold files) _ _ _ _ c.paths.invariant c.in_ok-found.ensures.read in
    rw c.in_ok-append.ensures.items
    (subst (λ (ps : List (List ℕ)). AreModulesOf (MayHold files) ps (c.paths.modules.items ++ c.in_ok-found.found.items))
    (sym (texts-more c.args.paths.now c.paths.path-index _ c.paths-test.true)) more)

pub returns-in_err-found-clause-only : goal.returns-in_err-found-clause-only
returns-in_err-found-clause-only g c = λ ms known.
    let p = err_from_is_err_and c.from_residual.result c.from_residual.ensures.1 in
    let at = held_among (g.F.Files.text_at c.args.files.now) c.args.paths.now c.paths.path-index _ ms c.paths-test.true known in
    rw (p.1, p.2) (c.in_err-found.ensures.only at.0 at.1)
