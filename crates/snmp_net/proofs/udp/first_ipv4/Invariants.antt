use Rattle.std.proofs.Common.{◌≡◌, find}
use Rattle.std.specs.{Net.Addr.is_ipv4, Net.Socket.socket_ip, Net.ToAddrs.host_addrs}
use Rattle.snmp_net.proofs.udp.first_ipv4.Given as goal

-- the first IPv4 address among the addresses that are left is the first among all addresses, or both have none
abbrev pub invariant-addresses : goal.invariant-addresses
invariant-addresses l =
    (find (λ address. is_ipv4 (socket_ip address)) (host_addrs l.address-iterator)
    ≡ find (λ address. is_ipv4 (socket_ip address)) (host_addrs l.fn.addresses))
    × (goal.iterator-addresses).can_next l.address-iterator
    × (goal.iterator-addresses).is_finite l.address-iterator
