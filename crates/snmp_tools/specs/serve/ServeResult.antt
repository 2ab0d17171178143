-- What snmpd does and prints, and how it ends.
use Rattle.std.specs.Prelude.{◌≡◌, ◌⊎◌, ◌+◌, ◌++◌, ℕ, List, Option, Some, codes, decimal}
use Rattle.snmp_agent.specs.{Reply.Agent, declared.server.Served.Served, table.Table.MibView}
use Rattle.snmp_io.specs.{Count.HasIncreased, Files.MayHold, Output.Stream, Output.stream_after}
use Rattle.smi_tree.specs.{Tree.Contents}
use Rattle.snmp_net.specs.declared.links.Links.{Ghosts as Network}
use Rattle.snmp_words.specs.Words.{ServeWords}
use Rattle.snmp_tools.specs.serve.Service.{IsPlaced, IsServeRefusal, served_agent}
use Rattle.snmp_tools.specs.{serve.TableFile.HasTable, serve.TableFile.TableFails, Seen.Seen}
use Rattle.snmp_tools.specs.FaultText.{Fault, ended, out_of_memory}
use Rattle.snmp_tools.specs.load.Loaded.{IsLoaded, LoadFacts}
use Rattle.snmp_tools.specs.Lines.{IsTextPrinted, StopsAtText}
use Rattle.snmp_walk.specs.declared.end.WalkEnd.TheVariants as ending

-- the line that says where requests are received; `word` is the argument of --listen
abbrev pub listening_line : (word : List ℕ) → List ℕ
listening_line word = codes "listening on " ++ word ++ codes "\n"

-- the line that says how many requests were replied to, and how many dropped
abbrev pub counts_line : Served → List ℕ
counts_line served = decimal served.replies ++ codes " replies, " ++ decimal served.dropped
    ++ codes " dropped\n"

-- The line that says at which address requests are received was printed, and serving the agent
-- could return `served` (`Serves`). The numbers of replies, drops, idle turns and faults in
-- `served` add up to the turns. Then the line of the counts was printed, or printing it failed. Or
-- printing the first line failed, and nothing was served (`Unserved`).
abbrev pub IsServing : (Serves : Agent → ℕ → Served → Type 0) → (Unserved : Type 0) → ServeWords
    → MibView → (before after : Stream) → Option Fault → Type 0
IsServing Serves Unserved words view before after fault =
    (StopsAtText before (listening_line words.listen) after fault × Unserved)
    ⊎ ((served : Served) × Serves (served_agent words view) words.turns served
    × (served.replies + served.dropped + served.idle + served.faults ≡ words.turns)
    × IsTextPrinted (stream_after before (listening_line words.listen)) (counts_line served) after
    fault)

-- one call that serves `agent` at `door` (a server socket) for `turns` turns can return `served`,
-- and takes the network from the state `before` to the state `after`
abbrev pub ServesAt : {N V D : Type 0} → Network N V D → (before : N) → D → (after : N) → Agent → ℕ
    → Served → Type 0
ServesAt {N} {V} {D} net before door after agent turns served =
    (later : D) × net.serves before door agent turns served after later

-- What snmpd did at `port` of `host`, with the names of the table looked up in `tree`, and why not
-- all of it was done, if so. If the table file is refused, the network stays as it was. The
-- network's count of faults increases only if a call of the network failed.
pub data IsServedBy {N V D : Type 0} (net : Network N V D) (words : ServeWords) (host : List ℕ)
    (port : ℕ) (tree : Contents) (before after : Seen N) (fault : Option Fault) : Type 0 where
  -- memory ran out, or the table file can't be read or doesn't define a table
  refused : (why : Fault)
      → (why ≡ out_of_memory) ⊎ TableFails before.files tree words.table why → after ≡ before
      → fault ≡ Some why → IsServedBy net words host port tree before after fault
  -- a call of the network failed, which the network counted, and nothing else changed
  not_bound : (view : MibView) → HasTable before.files tree words.table view
      → net.fails before.links after.links
      → HasIncreased (net.fault_count before.links) (net.fault_count after.links)
      → after ≡ record before { links = after.links }
      → fault ≡ Some (ended words.listen ending.Link)
      → IsServedBy net words host port tree before after fault
  -- one door (server socket) was opened; the table was served there, unless printing the first line
  -- failed
  bound : (view : MibView) (door : D) (opened : N)
      → HasTable before.files tree words.table view
      → net.binds before.links host port door opened
      → net.fault_count after.links ≡ net.fault_count before.links
      → IsServing (ServesAt net opened door after.links) (after.links ≡ opened) words view
      before.out after.out fault
      → IsServedBy net words host port tree before after fault

-- What snmpd did, what it wrote of the warnings about its modules, and why not all of it was done,
-- if so. If it was refused before the modules were loaded, it did nothing. Otherwise the warnings
-- were written before anything else was done.
pub data IsServeOutcome {N V D : Type 0} (net : Network N V D) (Loads : LoadFacts)
    (words : ServeWords) (before after : Seen N) (fault : Option Fault) : Type 0 where
  not_loaded : (why : Fault) → IsServeRefusal words before.files why → after ≡ before
      → fault ≡ Some why → IsServeOutcome net Loads words before after fault
  loaded : (at : IsPlaced words) (tree : Contents)
      → IsLoaded (MayHold before.files) words.mibs tree before.err after.err
      → Loads words.mibs before.err after.err
      → IsServedBy net words at.host at.port tree (record before { err = after.err })
      after fault
      → IsServeOutcome net Loads words before after fault
