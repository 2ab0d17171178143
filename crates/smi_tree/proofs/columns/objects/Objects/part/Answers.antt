-- A part is read from the syntax of the object. An object without a syntax has no part.
use Rattle.std.proofs.Common.{rules, ◌≡◌, IsTrue}
use Rattle.smi_tree.specs.{types.Kept.facts_of, columns.Definitions.qualified_name, private.Named.IsFoundAt}
use Rattle.smi_tree.proofs.{TypesSingle.one_syntax, Parts.part_untyped, Parts.part_read}
use Rattle.smi_tree.proofs.columns.objects.Objects.part.Goals as goal

pub returns-in_err-syntax : goal.returns-in_err-syntax
returns-in_err-syntax c =
    let ms : c.self.inside.modules.now ≡ c.args.self.now = c.self.view_is in
    let found : IsFoundAt c.args.self.now (qualified_name c.args.home.now c.args.name.now.octets) c.in_ok-module.module c.in_ok-module.def =
    rw (c.as_bytes-home.ensures.octets, c.as_bytes-name.ensures.octets) at c.in_ok-module.ensures in
    rw c.from_residual-in_err-syntax.ensures (part_untyped c.args.self.now c.args.home.now c.args.name.now.octets c.in_ok-module.module c.in_ok-module.def
    found c.args.implied (rw ms at c.in_err-syntax.ensures))

pub returns : goal.returns
returns c =
    let ms : c.self.inside.modules.now ≡ c.args.self.now = c.self.view_is in
    let found : IsFoundAt c.args.self.now (qualified_name c.args.home.now c.args.name.now.octets) c.in_ok-module.module c.in_ok-module.def =
    rw (c.as_bytes-home.ensures.octets, c.as_bytes-name.ensures.octets) at c.in_ok-module.ensures in
    let holds : IsTrue c.has_identifier.result = search rules in
    let identifier = rw (c.as_bytes-home.ensures.octets, c.as_bytes-name.ensures.octets) at (c.has_identifier.ensures.0 holds) in
    part_read c.args.self.now c.args.home.now c.args.name.now.octets c.in_ok-module.module c.in_ok-module.def
    found c.args.implied (facts_of c.in_ok-syntax.syntax) c.part.result (rw ms at c.in_ok-syntax.ensures)
    (one_syntax c.args.self.now) identifier.0 identifier.1 c.part.ensures
