use Rattle.std.proofs.Common.{◌≡◌, ◌∙◌, ◌+◌, ◌-◌, ◌/◌, ◌%◌, ℕ, List, [], ◌∷◌, ◌++◌, length, take, arith, ap, sym}
use Rattle.std.proofs.lemmas.List.{length-take}
use Rattle.snmp_wire.specs.Spelling.{sequence_tag}
use Rattle.snmp_walk.proofs.LooseLinks.{framed, lengthened}
use Rattle.snmp_walk.proofs.loose.lengthen.Goals as goal

pub returns-clause-some : goal.returns-clause-some
returns-clause-some c =
    let content = c.content_of-content.result.now in
    let high = length content / 256 in
    let low = length content % 256 in
    let header : List ℕ = sequence_tag ∷ 132 ∷ 0 ∷ 0 ∷ high ∷ low ∷ [] in
    let written : c.copy_from_slice.new.self ≡ header = c.copy_from_slice.ensures.after in
    let copied : c.copy_from_slice-2.new.self ≡ content = c.copy_from_slice-2.ensures.after in (
      omega (arith, c.if-config-size.false),
      lengthened (take c.args.size c.args.out.now) content _ high low c.content_of-content.ensures.content
          (framed c.copy_from_slice.new.self _ c.copy_from_slice-2.new.self (6 + length content) (6 + length content - 6) (ap length written)
          (ap (λ (xs : List ℕ). 6 + length xs) (sym copied))
          ∙ ap (λ (xs : List ℕ). xs ++ c.copy_from_slice-2.new.self) written ∙ ap (λ (xs : List ℕ). header ++ xs) copied)
          (omega arith)
          (omega (arith, c.content_of-content.ensures.shorter, c.requires.size, length-take c.args.size c.args.out.now)) (omega arith),
    )
