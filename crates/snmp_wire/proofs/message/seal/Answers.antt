use Rattle.std.proofs.Common.{◌≡◌, ◌+◌, ◌++◌, length, take, drop, sym, ap, ◌∙◌, rules, arith, length-drop, length-take-le}
use Rattle.std.proofs.lemmas.Grind.{common_steps}
use Rattle.snmp_wire.specs.{Canon.canon_head, Parts.parts_message}
use Rattle.snmp_wire.proofs.MessageElements.{sealed_is_shortest}
use Rattle.snmp_wire.proofs.message.seal.Goals as goal

pub returns-clause-shortest : goal.returns-clause-shortest
returns-clause-shortest c = λ bindings range are.
    let m = parts_message c.args.parts.now in
    let octets = take (c.head_size-head.result + c.args.len) c.put_head.new.out in
    let lies = take c.args.len (drop c.args.at c.args.out.now) in
    let sealed : octets ≡ canon_head m c.args.len ++ lies = first_of (search rules, grind (arith, common_steps)) in
    let within = length-drop c.args.at c.args.out.now in
    let total = sym (length-take-le c.args.len (drop c.args.at c.args.out.now) (omega (arith, c.requires.within, within))) ∙ ap length are in
    sealed_is_shortest c.one_shortest_encoding.ensures m bindings c.args.len octets
    (sealed ∙ ap (λ text. canon_head m c.args.len ++ text) are) total
    (c.head_size-head.ensures.range bindings range (omega (arith, total, c.requires.total)))
