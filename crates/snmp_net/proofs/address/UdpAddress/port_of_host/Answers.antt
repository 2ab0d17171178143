use Rattle.std.proofs.Common.{ℕ, List, sym, ap, ◌∙◌, subst, arith}
use Rattle.std.specs.Str.Parse.{digits_value}
use Rattle.std.proofs.lemmas.Str.Pattern.{split_parts}
use Rattle.snmp_net.specs.Address.{IsPort}
use Rattle.snmp_net.proofs.Words.{not_contained, not_empty, parted}
use Rattle.snmp_net.proofs.address.UdpAddress.port_of_host.Goals as goal

pub returns-in_default-clause-none : goal.returns-in_default-clause-none
returns-in_default-clause-none c = λ host port at.
    rw c.in_default.is at (parted c.args.word.now _ c.split_once.ensures.cases host port at)

pub returns-in-Some-port-clause-stated : goal.returns-in-Some-port-clause-stated
returns-in-Some-port-clause-stated c =
    let parts = rw c.in-Some.is at (split_parts 58 c.args.word.now _ c.split_once.ensures.cases (omega arith)) in
    record {
      digits = c.in-Some.digits.now;
      parts = parts.0;
      host_stated = record {
        some = not_empty c.in-Some.host.now c.is_empty.result c.is_empty.ensures c.if-is_empty.false;
        no_colon = not_contained c.in-Some.host.now parts.1;
      };
      port_stated = c.in-Some-port.ensures.stated;
    }

pub returns-in-Some-port-clause-only : goal.returns-in-Some-port-clause-only
returns-in-Some-port-clause-only c = λ host port at.
    let p = rw c.in-Some.is at (parted c.args.word.now _ c.split_once.ensures.cases host port at) in
    (sym p.0, sym at.port_stated.value ∙ ap (digits_value 10) (sym p.1) ∙ c.in-Some-port.ensures.stated.value)

pub returns-in-None-clause-none : goal.returns-in-None-clause-none
returns-in-None-clause-none c = λ host port at.
    let p = rw c.in-Some.is at (parted c.args.word.now _ c.split_once.ensures.cases host port at) in
    c.in-None.ensures.none port (subst (λ (d : List ℕ). IsPort d port) (sym p.1) at.port_stated)
