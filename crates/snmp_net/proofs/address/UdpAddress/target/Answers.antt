use Rattle.snmp_net.specs.Address.{IsHost}
use Rattle.snmp_net.proofs.Words.{host_only, target_none, target_only}
use Rattle.snmp_net.proofs.address.UdpAddress.target.Goals as goal

pub returns-clause-only : goal.returns-clause-only
returns-clause-only c =
    let no : ¬ (IsHost c.args.word.now) = λ h. (let is = c.is_host.ensures.1 h in let f = c.if-is_host.false in let w : ⊥ = cc in w) in
    target_only c.args.word.now c.port_of_host.result no c.port_of_host.ensures.only

pub returns-clause-none : goal.returns-clause-none
returns-clause-none c =
    let no : ¬ (IsHost c.args.word.now) = λ h. (let is = c.is_host.ensures.1 h in let f = c.if-is_host.false in let w : ⊥ = cc in w) in
    target_none c.args.word.now c.port_of_host.result no c.port_of_host.ensures.none

pub returns-then-is_host-clause-only : goal.returns-then-is_host-clause-only
returns-then-is_host-clause-only c = λ host port t. host_only c.args.word.now (c.is_host.ensures.0 c.if-is_host.true) host port t
