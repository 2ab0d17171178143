use Rattle.std.proofs.lemmas.Grind.{common_steps}
use Rattle.std.proofs.Common.{◌≡◌, ℕ, ◌+◌, ◌-◌, ◌<◌, ◌≤◌, List, length, get_or, arith}
use Rattle.snmp_wire.specs.Name.{IsAlike}
use Rattle.snmp_wire.proofs.NameOrder.{more_alike, nothing_alike}
use Rattle.snmp_wire.proofs.name.words_alike.Goals as goal

-- if the first `count` octets are the same, and these are at least eight, then the first eight are
first_eight : {octets others : List ℕ} {count : ℕ} → 8 ≤ count → 8 ≤ length octets → 8 ≤ length others
    → ((k : ℕ) → k < count → get_or octets (0 + k) 0 ≡ get_or others (0 + k) 0) → IsAlike octets others 8
first_eight {octets} {others} all these those same =
    more_alike 0 8 8 (nothing_alike octets others) (omega arith) (omega arith) these those (λ k low. same k (omega (arith, low, all)))

pub returns-then-first-lt8-clause-same : goal.returns-then-first-lt8-clause-same
returns-then-first-lt8-clause-same c = more_alike 0 c.eight_alike-first.result _ (nothing_alike c.args.octets.now c.args.others.now)
    (omega arith) (omega arith) (omega arith) (omega arith) c.eight_alike-first.ensures.same

pub returns-then-first-lt8-clause-first : goal.returns-then-first-lt8-clause-first
returns-then-first-lt8-clause-first c = grind (arith, common_steps)

pub returns-then-both-le16-clause-same : goal.returns-then-both-le16-clause-same
returns-then-both-le16-clause-same c = more_alike (c.args.both - 8) c.eight_alike-last.result _
    (first_eight (omega arith) (omega arith) (omega arith) c.eight_alike-first.ensures.same) (omega arith) (omega arith)
    (omega (arith, c.eight_alike-last.ensures.at_most_8)) (omega (arith, c.eight_alike-last.ensures.at_most_8)) c.eight_alike-last.ensures.same

pub returns-then-second-lt8-clause-same : goal.returns-then-second-lt8-clause-same
returns-then-second-lt8-clause-same c = more_alike 8 c.eight_alike-second.result _
    (first_eight (omega arith) (omega arith) (omega arith) c.eight_alike-first.ensures.same) (omega arith) (omega arith) (omega arith) (omega arith)
    c.eight_alike-second.ensures.same

pub returns-clause-same : goal.returns-clause-same
returns-clause-same c = more_alike (c.args.both - 8) c.eight_alike-third.result _
    (more_alike 8 8 16 (first_eight (omega arith) (omega arith) (omega arith) c.eight_alike-first.ensures.same)
    (omega arith) (omega arith) (omega arith) (omega arith) (λ k low. c.eight_alike-second.ensures.same k (omega (arith, low))))
    (omega arith) (omega arith) (omega (arith, c.eight_alike-third.ensures.at_most_8)) (omega (arith, c.eight_alike-third.ensures.at_most_8))
    c.eight_alike-third.ensures.same
