use Rattle.std.proofs.{Common.arith, Common.◌≡◌, Common.List, Common.◌++◌, Common.take, Common.drop, Common.ap, Common.◌∙◌, Math.Seq.take-append_seam}
use Rattle.snmp_wire.specs.{Canon.canon_bindings, Canon.canon_head, Parts.parts_message}
use Rattle.snmp_wire.proofs.{WrittenBindings.encoded, MessageElements.sealed_is_shortest}
use Rattle.snmp_wire.proofs.message.encode_head.Goals as goal

pub returns-clause-shortest : goal.returns-clause-shortest
returns-clause-shortest c = λ bindings range total.
    let m = parts_message c.args.parts.now in
    let head = canon_head m c.args.total in
    let n = c.head_size-size.result in
    let prefix : take n c.put_head.new.out ≡ head =
    ap (take n) (encoded c.put_head.ensures c.head_size-size.ensures.value)
    ∙ ap (λ k. take k (head ++ drop n c.args.out.now)) c.head_size-size.ensures.value ∙ take-append_seam head (drop n c.args.out.now) in
    sealed_is_shortest c.one_shortest_encoding.ensures m bindings c.args.total (take n c.put_head.new.out ++ canon_bindings bindings)
    (ap (λ (text : List _). text ++ canon_bindings bindings) prefix) total
    (c.head_size-size.ensures.range bindings range (omega (arith, total, c.requires.total)))
