-- If snmpd accepts its community and address, and memory runs out or its module files fail, then it is refused as `IsServeRefusal` says (`modules_fail`).
use Rattle.std.proofs.Common.{arith, ◌≡◌, ◌⊎◌, ◌<◌, ◌≤◌, ◌+◌, inl, inr, refl, subst, ℕ, List, Option, length}
use Rattle.std.proofs.lemmas.Grind.{common_steps}
use Rattle.snmp_agent.specs.{Reply.Agent, declared.server.Served.Served, table.Table.MibView}
use Rattle.snmp_io.specs.{Files.Holdings, Output.Stream, Output.stream_after}
use Rattle.snmp_net.specs.Address.{IsHostAndPort}
use Rattle.snmp_words.specs.Words.{ServeWords}
use Rattle.snmp_tools.specs.serve.Service.{IsServeRefusal, ServiceFails, community_step, address_step}
use Rattle.snmp_tools.specs.{Asking.MibsFail, Lines.IsTextPrinted}
use Rattle.snmp_tools.specs.FaultText.{Fault, bad_agent, long_community, out_of_memory}
use Rattle.snmp_tools.proofs.Steps.{first, later}

pub modules_fail : (words : ServeWords) (files : Holdings) (host : List ℕ) (port : ℕ) (why : Fault) → length words.community ≤ 255
    → IsHostAndPort words.listen host port → (why ≡ out_of_memory) ⊎ MibsFail files words.mibs why → IsServeRefusal words files why
modules_fail words files host port why short address (inl none) = inl none
modules_fail words files host port why short address (inr fails) = grind (arith, common_steps, later, first)
