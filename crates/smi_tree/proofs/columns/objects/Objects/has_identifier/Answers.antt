-- A name that resolves to an identifier resolves to nothing else.
use Rattle.std.proofs.{Common.arith, Common.◌≡◌, lemmas.Grind.common_steps}
use Rattle.smi_names.specs.{chains.Resolution.ComesTo, meaning.Meaning.origin, meaning.Meaning.QualifiedName}
use Rattle.smi_names.specs.declared.chains.shared.Resolution.TheVariants as R
use Rattle.smi_tree.proofs.columns.objects.Objects.has_identifier.Goals as goal

pub returns-in-Some : goal.returns-in-Some
returns-in-Some c =
    let ms : c.self.inside.modules.now ≡ c.args.self.now = c.self.view_is in
    let p : QualifiedName = record { home = c.args.home.now; name = c.args.name.now } in
    let comes : ComesTo (origin c.args.self.now) (record { home = c.args.home.now; name = c.args.name.now }) c.in-Some.resolution.now =
    rw (c.self.invariant.1, ms) at c.in-Some.ensures in (
      λ holds. let is = c.is_identifier.ensures.0 holds in (is.0, rw is.1 at comes),
      λ some. c.is_identifier.ensures.1 (some.0, c.one_resolution.ensures c.args.self.now p c.in-Some.resolution.now (R.Numbers some.0) comes some.1),
    )

-- if a name has no resolution, it has no identifier
pub returns-in-None : goal.returns-in-None
returns-in-None c = grind (arith, common_steps)
