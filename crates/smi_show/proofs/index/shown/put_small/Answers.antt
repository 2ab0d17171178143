use Rattle.std.proofs.{Common.◌≡◌, Common.◌≤◌, Common.◌+◌, Common.◌++◌, Common.take, Common.ap, Common.◌∙◌, Common.arith, lemmas.Grind.common_steps}
use Rattle.smi_show.proofs.SmallNumbers.{octets_of, small_entry, prefix_after}
use Rattle.smi_show.proofs.index.shown.put_small.Goals as goal

pub returns-clause-text : goal.returns-clause-text
returns-clause-text c =
    let n = c.args.number in
    let a = c.args.filled in
    let room = c.args.room.now in
    let is : take (a + 4) c.put-4.new.room ≡ take a room ++ octets_of n = grind (arith, common_steps) in
    let fits : c.small_len.result ≤ 4 = omega (arith, c.small_len.ensures.within) in
    prefix_after a c.small_len.result 4 room c.put-4.new.room (octets_of n) (omega (arith, c.told-room, c.requires.room)) fits fits is
    ∙ ap (λ k. take a room ++ take k (octets_of n)) c.small_len.ensures.length
    ∙ ap (λ t. take a room ++ t) (small_entry n c.requires.small)
