-- The type of an object is in its SYNTAX, and its definition has no hint.
use Rattle.std.proofs.{Common.arith, Common.◌≡◌, Common.None, Common.Some, Common.sym, Common.ap, lemmas.Grind.common_steps}
use Rattle.smi_tree.specs.types.Types.{origin_of_object, origin_of_simple}
use Rattle.smi_tree.proofs.{TypeChains.no_syntax, Refinements.object_states, Refinements.refined_right}
use Rattle.smi_tree.proofs.types.object.Goals as goal

pub returns : goal.returns
returns c =
    let k = c.args.entries.now in
    let d = c.args.def.now in
    let s = c.in_ok-simple.simple.now in
    let home = c.args.home.now.name.octets in
    let states = object_states d.kind s (sym c.in_ok-simple.ensures) in
    let named = rw c.as_bytes.ensures.octets at c.parent_syntax-far.ensures in
    let origin : origin_of_object c.args.home.now.name.octets c.args.def.now
    ≡ origin_of_simple c.args.home.now.name.octets None (Some c.in_ok-simple.simple.now) =
    ap (λ x. origin_of_simple c.args.home.now.name.octets None x) (sym c.in_ok-simple.ensures) in
    rw (origin, c.inherit_syntax.ensures) (refined_right k.modules c.args.at d c.requires.there s states.0 None states.1 home c.parent_syntax-far.result named)

pub returns-in_err-simple : goal.returns-in_err-simple
returns-in_err-simple c = grind (arith, common_steps, no_syntax)
