use Rattle.std.proofs.{lemmas.Grind.common_steps, lemmas.Bool.false≢true, lemmas.Int.to_z_pos, lemmas.Int.to_z-of_z}
use Rattle.std.proofs.Common.{rules, ◌≡◌, ◌≤◌, ◌+◌, [], length, arith, w32, to_z, of_z, pos, ap, ◌∙◌}
use Rattle.snmp_wire.specs.{Canon.canon, Canon.canon_head, Message.Message}
use Rattle.snmp_walk.specs.{Request.request_of, WalkState.WalkState}
use Rattle.snmp_walk.proofs.StepRequest.{asking_short, request_made, request_size}
use Rattle.snmp_walk.proofs.{RequestParts.request_short, walk_core.WalkCore.request_in.Goals.After-repetitions}
use Rattle.snmp_walk.proofs.walk_core.WalkCore.request_in.Goals as goal

-- the message without bindings whose head is written
abbrev bare : After-repetitions → Message
bare c = record {
  version = pos 1;
  community = c.as_slice.result.now;
  kind = c.kind.result;
  id = to_z w32 c.self.inside.id;
  a = pos 0;
  b = to_z w32 (of_z w32 c.repetitions.result);
  bindings = [];
}

is_request : (c : After-repetitions) → bare c ≡ record (request_of c.args.self.now) { bindings = [] }
is_request c = grind (arith, common_steps, to_z, to_z_pos, of_z, to_z-of_z)

named : (c : After-repetitions) → c.name-name.result ≡ c.args.self.now.asked
named c = c.name-name.ensures ∙ ap (λ (w : WalkState). w.asked) c.self.view_is

whole : (c : After-repetitions) → length (canon_head (bare c) c.asking_size-total.result) + c.asking_size-total.result
    ≡ length (canon (request_of c.args.self.now))
whole c = request_size c.pieces.ensures c.args.self.now (bare c) (is_request c) c.name-name.result
    (named c) c.asking_size-total.result c.asking_size-total.ensures

fits : (c : After-repetitions) → length (canon (request_of c.args.self.now)) ≤ 1000
fits c = grind (arith, common_steps, request_short)

pub encode_head-requires : goal.encode_head-requires
encode_head-requires c = grind (arith, common_steps, asking_short)

pub unreachable-requires : goal.unreachable-requires
unreachable-requires c =
    let at = (goal.at.unreachable-requires c).After-repetitions in
    false≢true (c.in_default-encode_head.ensures.variant.1 (omega (arith, whole at, fits at, c.requires)))

pub unreachable-requires-in-None : goal.unreachable-requires-in-None
unreachable-requires-in-None c =
    let at = (goal.at.unreachable-requires-in-None c).After-repetitions in
    false≢true (c.in-None.ensures.variant.1 (omega (
      arith,
      whole at,
      fits at,
      c.requires,
      c.encode_head.auto.out,
      c.in-Some.ensures.some.0,
      c.asking_size-total.ensures,
    )))

pub returns : goal.returns
returns c =
    let at = (goal.at.returns c).After-repetitions in
    let made = request_made c.pieces.ensures c.args.self.now (bare at) (is_request at) c.name-name.result (named at)
    c.asking_size-total.result c.asking_size-total.ensures c.in-Some.head c.in-Some-encode_asking.len c.encode_head.new.out _ c.encode_asking.new.out _ _
    c.in-Some.ensures.some.0 c.in-Some.ensures.some.1 c.in-Some-encode_asking.ensures.some.0 c.in-Some-encode_asking.ensures.some.1 in
    record {
      waiting = λ _. (
        omega (arith, whole at, c.in-Some.ensures.some.0, c.in-Some-encode_asking.ensures.some.0, c.asking_size-total.ensures),
        made,
      );
      over = search rules;
      walker = search rules;
    }
