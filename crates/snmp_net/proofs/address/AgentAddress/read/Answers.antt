use Rattle.std.proofs.Common.{◌≡◌, ◌∙◌, sym, codes}
use Rattle.snmp_net.specs.Address.{Address, IsAgent, udp}
use Rattle.snmp_net.proofs.Words.{after_prefix, plain_none, plain_only, udp_none, udp_only}
use Rattle.snmp_net.proofs.address.AgentAddress.read.Goals as goal
use Rattle.snmp_net.proofs.address.AgentAddress.read.Goals.{in-Some-strip_prefix, in-None}

pub returns-in-Some-target-clause-only : goal.returns-in-Some-target-clause-only
returns-in-Some-target-clause-only c =
    let sole : (other : Address) → IsAgent c.args.word.now other → other ≡ udp c.in-Some-target.at.host.now c.in-Some-target.at.port =
    elim c.match-strip_prefix-2.branch [
      | in-Some-strip_prefix w ↦
          udp_only c.args.word.now w.in-Some-strip_prefix.rest.now c.in-Some-target.at
          (after_prefix c.args.word.now (codes "udp:") w.in-Some-strip_prefix.rest.now w.in-Some-strip_prefix.ensures.cases)
          (rw (sym w.target-is ∙ c.in-Some-target.is) at w.target-target.ensures.only)
      | in-None w ↦
          plain_only c.args.word.now c.in_default.ensures.cases w.in-None.ensures.cases c.in-Some-target.at
          (rw (sym w.target-is ∙ c.in-Some-target.is) at w.target-target-in-None.ensures.only)
    ] in
    sole

pub returns-in-None-target-clause-none : goal.returns-in-None-target-clause-none
returns-in-None-target-clause-none c =
    let none : (address : Address) → IsAgent c.args.word.now address → ⊥ = elim c.match-strip_prefix-2.branch [
      | in-Some-strip_prefix w ↦
          udp_none c.args.word.now w.in-Some-strip_prefix.rest.now
          (after_prefix c.args.word.now (codes "udp:") w.in-Some-strip_prefix.rest.now w.in-Some-strip_prefix.ensures.cases)
          (rw (sym w.target-is ∙ c.in-None-target.is) at w.target-target.ensures.none)
      | in-None w ↦
          plain_none c.args.word.now c.in_default.ensures.cases w.in-None.ensures.cases
          (rw (sym w.target-is ∙ c.in-None-target.is) at w.target-target-in-None.ensures.none)
    ] in
    none
