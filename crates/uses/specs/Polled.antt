-- What a poll of a subtree collects of a table.
use Rattle.std.specs.Prelude.{◌≡◌, ℕ, List, [], ◌∷◌, ◌++◌, IfOk}
use Rattle.snmp_oid.specs.Identifier.{IsBelow, Precedes}
use Rattle.snmp_wire.specs.Message.{VarBind}
use Rattle.snmp_agent.specs.table.Table.{MibView, IsMibView, IsRow}
use Rattle.snmp_agent.specs.table.Listing.{variables}
use Rattle.snmp_walk.specs.declared.end.WalkEnd.{WalkEnd}
use Rattle.snmp_walk.specs.declared.link.Link.{Ghosts as LinkFacts}
use Rattle.snmp_walk.specs.{Facts.IsDone, Link.OneOf, Ordered.AreOrdered, RunResult.HasHappened}
use Rattle.snmp_walk.specs.Walk.{rows_below}
use Rattle.uses.specs.declared.subtrees.Subtree.{Subtree}

-- `rows` are instances of `view` below `root`, each once and in order: all of them if `end` says
-- that the poll is done, and otherwise the first of them (perhaps none, perhaps all).
pub record IsPolled (view : MibView) (root : List ℕ) (end : WalkEnd) (rows : List VarBind)
    : Type 0 where
  -- each row is an instance of the table below the root,
  pub instances : (p : VarBind) → OneOf rows p → IsRow view p × IsBelow p.name root
  -- the names increase, so that each is there once,
  pub ordered : AreOrdered rows
  -- no instance is left out that comes before one of the rows,
  pub none_skipped : (p q : VarBind) → OneOf rows q → IsRow view p → IsBelow p.name root
      → Precedes p.name q.name → OneOf rows p
  -- and if the poll is done, no instance below the root is left out
  pub all : IsDone end → (p : VarBind) → IsRow view p → IsBelow p.name root → OneOf rows p

-- `rows` are a prefix of the rows of `view` below `root`, and all of these if `end` says that the
-- poll is done
abbrev pub IsBeginning : MibView → (root : List ℕ) → WalkEnd → (rows : List VarBind) → Type 0
IsBeginning view root end rows = (more : List VarBind)
    × (rows_below root (variables view) ≡ rows ++ more)
    × (IsDone end → rows ≡ rows_below root (variables view))

-- if `view` is a MIB view, then rows that are a prefix as `IsBeginning` says are what a poll
-- collects (`IsPolled`)
abbrev pub AreBeginningsPolled : Type 0
AreBeginningsPolled = (view : MibView) (root : List ℕ) (end : WalkEnd) (rows : List VarBind)
    → IsMibView view → IsBeginning view root end rows → IsPolled view root end rows

-- A poll of `root`, which collected `subtree`, took the link from state `old` to `new`. The names
-- of the rows increase. If the poll began, and all that arrived at the link are replies of a lawful
-- agent with one table to what was sent, then the rows are polled from that table (`IsPolled`).
pub record IsPolledOver {W : Type 0} (facts : LinkFacts W) (old : W) (root : List ℕ)
    (subtree : Subtree) (new : W) : Type 0 where
  pub root_is : subtree.root ≡ root
  pub rising : AreOrdered subtree.rows
  pub happened : IfOk subtree.end (λ end. HasHappened facts old new end
      (λ agents why. (view : MibView) → agents.tables ≡ view ∷ []
      → IsPolled view root why subtree.rows))

-- `subtrees` were polled in turn, one for each of `roots`. The first poll began in state `old`,
-- each later one in the state after the poll before it, and the last one ended in state `new`.
-- Without roots, there are no subtrees, and `new` is `old`.
abbrev pub ArePolledInTurn : {W : Type 0} → LinkFacts W → W → List (List ℕ) → List Subtree → W
    → Type 0
ArePolledInTurn {W} facts old [] [] new = new ≡ old
ArePolledInTurn {W} facts old (root ∷ roots) (subtree ∷ subtrees) new = (between : W)
    × IsPolledOver facts old root subtree between
    × ArePolledInTurn facts between roots subtrees new
ArePolledInTurn {W} facts old _ _ new = ⊥
