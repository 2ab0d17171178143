use Rattle.std.proofs.Common.{◌≡◌, Bool, false, find, [], ◌∷◌, sym, ap, ◌∙◌}
use Rattle.std.specs.{declared.net.socket_addr.SocketAddr.SocketAddr, Net.Addr.is_ipv4, Net.Socket.socket_ip, Net.ToAddrs.host_addrs}
use Rattle.snmp_net.proofs.FirstAddress.{first_taken, none_taken, found_later}
use Rattle.snmp_net.proofs.udp.first_ipv4.Goals as goal

abbrev test : SocketAddr → Bool
test address = is_ipv4 (socket_ip address)

pub addresses-preserved : goal.addresses-preserved
addresses-preserved c =
    let here : host_addrs c.addresses.address-iterator ≡ c.in-Some.address ∷ host_addrs c.next.new.self =
    first_taken _ _ _ _ _ c.in-Some.ensures.steps.0 c.in-Some.ensures.steps.1 in
    let other : test c.in-Some.address ≡ false = cc (c.is_ipv4.ensures, c.if-is_ipv4.false) in
    (sym (found_later test c.in-Some.address (host_addrs c.next.new.self) other) ∙ sym (ap (find test) here) ∙ c.addresses.invariant.0, tt, tt)

pub returns : goal.returns
returns c =
    let here : host_addrs c.addresses.address-iterator ≡ [] = none_taken _ _ (λ some. (c.in-None.ensures.steps some).0) in
    sym (ap (find test) here) ∙ c.addresses.invariant.0
